-- Lemmas that other crates cite.
pub mod Evaluate
pub mod Counting
pub mod Fileids
pub mod Linked
pub mod Effects
pub mod Served
pub mod Sizes
