-- Lemmas alone, which no reader has to believe: for crates above.
pub mod Numbered
pub mod Hearing
pub mod Refusals
