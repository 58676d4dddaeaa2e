pub mod Cards
pub mod Counts
