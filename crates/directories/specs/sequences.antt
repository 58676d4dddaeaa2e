pub mod Values
pub mod Trees
pub mod Opened
pub mod Falls
pub mod lemmas
