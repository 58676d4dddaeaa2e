-- Lemmas alone, which no reader has to believe: the laws of the tree and of its numbers, for proofs above.
pub mod Ways
pub mod Lawful
pub mod Sharing
pub mod Places
pub mod Parents
pub mod Numbered
pub mod Smaller
pub mod Chains
pub mod Alike
pub mod Standing
