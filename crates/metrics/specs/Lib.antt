pub mod Requests
pub mod Responses
pub mod Lines
