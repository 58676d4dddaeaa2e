pub mod Any
pub mod Slots
pub mod BeginRefusal
pub mod Tasks
pub mod Words
pub mod laws
