pub mod Records
pub mod Machine
pub mod Stream
pub mod Position
pub mod Feeds
