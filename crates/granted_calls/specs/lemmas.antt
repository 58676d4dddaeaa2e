pub mod Logs
pub mod Covered
pub mod Putting
pub mod Telling
pub mod Fitting
