mod Called
mod Turning
mod Batches
mod Added
mod Looked
mod Ran
mod Carrying
pub mod Crossing
mod Sized
