-- Lemmas alone, which no reader has to believe: what counts come to, for proofs above.
pub mod Sums
pub mod Seen
pub mod Happening
