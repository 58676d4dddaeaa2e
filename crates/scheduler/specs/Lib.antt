pub mod Kept
pub mod Lines
pub mod Messages
pub mod QueueNumber
pub mod Waiting
