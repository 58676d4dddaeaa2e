-- Lemmas alone, which no reader has to believe: the homes of calls, and from the run of a call on a set to its parcels.
pub mod Homes
pub mod Serving
pub mod Aggregates
pub mod OnAll
pub mod Inner
