mod Crossing
mod Wholes
