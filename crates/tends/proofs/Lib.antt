pub mod Handed
pub mod Lists
pub mod Portions
mod Drained
pub mod Joins
pub mod Sharing
mod Closes
mod Holds
