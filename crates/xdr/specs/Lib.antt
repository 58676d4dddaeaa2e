pub mod Fault
pub mod Shape
pub mod Reading
pub mod lemmas
