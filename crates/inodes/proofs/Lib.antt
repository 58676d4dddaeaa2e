pub mod Few
pub mod Changes
