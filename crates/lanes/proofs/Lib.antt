pub mod Lists
mod Numbers
mod Quiet
pub mod Served
pub mod Lived
pub mod Crossing
pub mod Inside
pub mod Fitting
pub mod Owed
pub mod Steps
pub mod Idle
pub mod Counted
pub mod Same
pub mod Written
