pub mod Batches
pub mod Counts
