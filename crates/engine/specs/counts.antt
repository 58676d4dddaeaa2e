pub mod Counts
pub mod lemmas
