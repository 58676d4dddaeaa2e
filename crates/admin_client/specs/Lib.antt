pub mod Asking
pub mod Telling
pub mod Incoming
pub mod Over
