pub mod Maps
pub mod Directories
pub mod Inodes
pub mod Stripes
pub mod Ranges
pub mod Logical
pub mod Codes
pub mod lemmas
