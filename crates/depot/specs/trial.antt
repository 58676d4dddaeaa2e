pub mod Adding
pub mod Lending
pub mod lemmas
