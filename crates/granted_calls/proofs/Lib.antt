pub mod Balancing
pub mod Chains
pub mod Crossing
mod Entered
mod Few
pub mod Grants
mod Lent
mod Linked
mod Replayed
mod Runs
pub mod Finished
pub mod Started
