mod Placed
mod Grown
mod Counts
mod Spaces
