-- Lemmas alone, which no reader has to believe: what calls are refused, for proofs above.
pub mod Refused
pub mod Permitted
