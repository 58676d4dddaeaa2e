pub mod Tables
pub mod Lined
pub mod Present
pub mod Seated
pub mod Taken
