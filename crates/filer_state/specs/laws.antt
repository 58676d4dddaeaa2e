pub mod Laws
pub mod lemmas
