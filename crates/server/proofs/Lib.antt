mod Started
mod Crossing
mod Planned
