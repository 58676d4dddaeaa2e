-- Lemmas alone, which no reader has to believe. They stand here, and not in `proofs/`, since crates above cite them.
pub mod Served
pub mod Recorded
pub mod Historied
pub mod Agreeing
pub mod Sized
pub mod Changing
pub mod Beginning
pub mod Working
pub mod Finishing
pub mod Opening
pub mod Happening
pub mod Feeding
pub mod Making
pub mod Tending
