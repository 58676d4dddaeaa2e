pub mod Faults
pub mod Threads
pub mod Numbers
pub mod Planned
pub mod Served
pub mod Standings
