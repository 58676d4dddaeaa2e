mod Lists
mod Runs
mod Promised
mod Workers
mod Begins
mod Begun
mod Ends
mod Ended
mod Changed
mod Finishes
mod Placed
mod Batches
mod Tended
mod Made
mod Carried
mod Free
mod Asking
mod Keyed
mod Reconnected
mod Closing
mod Received
pub mod Worked
pub mod Opened
mod Counted
