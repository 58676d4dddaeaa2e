-- Lemmas alone, which no reader has to believe: laws of calls on attributes, for proofs above.
pub mod Kept
pub mod Settled
pub mod Changed
pub mod Owned
pub mod Getting
pub mod Setting
pub mod Setattr
