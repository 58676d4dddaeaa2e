pub mod Networks
pub mod Peers
pub mod Standings
pub mod Asked
