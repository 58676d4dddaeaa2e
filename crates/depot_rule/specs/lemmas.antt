-- Lemmas alone, which no reader has to believe. They stand here, and not in `proofs/`, since crates above cite them.
pub mod Sums
pub mod Trees
pub mod Covering
pub mod Listed
pub mod Histories
pub mod Elsewhere
pub mod Completions
