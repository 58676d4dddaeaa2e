-- Lemmas alone, which no reader has to believe: what calls have to know of the set that they hold.
pub mod Whole
pub mod Nodes
pub mod May
pub mod Linkable
