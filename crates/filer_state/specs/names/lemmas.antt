-- Lemmas alone, which no reader has to believe: laws of calls on names, for proofs above.
pub mod Telling
pub mod DirectoryKinds
pub mod Lookup
pub mod Listing
pub mod ListingPlus
pub mod Objects
pub mod Readlink
pub mod Mount
