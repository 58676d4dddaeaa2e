pub mod Registered
pub mod Addresses
pub mod Calls
pub mod Asking
pub mod Replies
pub mod Answers
pub mod Conversations
pub mod Spelled
