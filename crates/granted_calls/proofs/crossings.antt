pub mod Structs
pub mod Sequences
pub mod Directories
pub mod Parcels
pub mod Outboxes
