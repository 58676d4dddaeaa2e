-- Lemmas alone, which no reader has to believe: for crates above.
pub mod Steps
pub mod Items
pub mod Bytes
pub mod Lists
pub mod Unions
pub mod Shapes
