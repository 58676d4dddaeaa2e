pub mod Zeros
pub mod Handles
pub mod Behind
pub mod Groups
pub mod Listed
pub mod Paths
