pub mod Bytes
pub mod Runs
pub mod Standing
pub mod Scans
pub mod Streams
pub mod Chunks
mod Headers
pub mod Came
pub mod Feeding
pub mod Unique
mod Walks
pub mod Whole
