pub mod Climbs
pub mod Emptied
pub mod Few
pub mod Put
pub mod Entered
pub mod Steps
pub mod Known
pub mod Done
