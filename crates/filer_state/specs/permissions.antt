pub mod Refusing
pub mod Laws
pub mod lemmas
