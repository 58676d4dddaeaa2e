pub mod Changed
pub mod Counted
