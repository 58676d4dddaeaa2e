pub mod Memory
pub mod Outcomes
pub mod Rest
pub mod InPlace
pub mod Item
pub mod Entry
mod Exported
