pub mod Items
pub mod Heads
pub mod Pieces
pub mod Heard
pub mod Over
