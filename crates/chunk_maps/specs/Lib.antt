pub mod Chunks
pub mod Numbers
pub mod Maps
pub mod MapLaws
pub mod SlotLaws
