pub mod Books
pub mod Calls
pub mod Backing
pub mod lemmas
