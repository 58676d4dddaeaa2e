pub mod Adder
pub mod Counting
