-- Lemmas alone, which no reader has to believe. They stand here, and not in `proofs/`, since crates above cite them.
pub mod Stripes
