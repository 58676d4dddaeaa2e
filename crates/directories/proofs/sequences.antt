pub mod Places
pub mod Parted
