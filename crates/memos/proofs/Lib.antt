pub mod Peers
pub mod Places
