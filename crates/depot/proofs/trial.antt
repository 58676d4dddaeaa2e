pub mod Trials
pub mod Lent
