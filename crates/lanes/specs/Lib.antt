pub mod Queues
pub mod Intakes
pub mod Owed
pub mod Story
pub mod Lanes
pub mod Words
pub mod Written
pub mod lemmas
