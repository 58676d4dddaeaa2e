pub mod sequences
pub mod Entries
pub mod Slots
pub mod Hash
pub mod Index
pub mod Digits
