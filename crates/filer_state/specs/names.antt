pub mod Answers
pub mod Laws
pub mod lemmas
