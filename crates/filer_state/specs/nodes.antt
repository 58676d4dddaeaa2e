pub mod Making
pub mod Dropping
pub mod Sizing
pub mod Moving
pub mod Laws
pub mod lemmas
