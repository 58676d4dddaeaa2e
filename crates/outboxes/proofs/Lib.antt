pub mod Messages
pub mod Tables
pub mod Places
pub mod Opening
