-- Lemmas alone, which no reader has to believe: for crates above.
pub mod Exact
pub mod Absent
pub mod Bytes
pub mod Lists
pub mod Numbered
