pub mod Gathering
pub mod Leaving
pub mod Moving
