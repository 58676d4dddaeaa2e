-- Lemmas alone, which no reader has to believe: laws of these definitions, for proofs above.
pub mod Running
pub mod Ranges
pub mod Sets
pub mod Grown
pub mod Grows
pub mod FilesystemStatus
pub mod Census
