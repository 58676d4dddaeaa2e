pub mod Incoming
pub mod Owing
pub mod Taking
pub mod Writing
pub mod Reading
