-- Lemmas alone, which no reader has to believe: laws of the changes, for proofs above.
pub mod Directories
pub mod Maps
pub mod Numbered
pub mod Inodes
pub mod Entries
pub mod Listing
