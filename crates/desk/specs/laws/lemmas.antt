-- Lemmas alone, which no reader has to believe. They stand here, and not in `proofs/`, since crates above cite them.
pub mod Overlays
pub mod Seats
pub mod Works
pub mod Begins
pub mod Ends
pub mod Opened
pub mod Taken
pub mod Beside
