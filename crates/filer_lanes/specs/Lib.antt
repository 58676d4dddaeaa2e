pub mod Lanes
pub mod Queues
pub mod Remains
pub mod Rooms
pub mod Ends
pub mod ThreadedHeadline
