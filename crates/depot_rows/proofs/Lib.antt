pub mod Rejoined
pub mod Counted
pub mod AtOnce
