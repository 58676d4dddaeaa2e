-- Lemmas alone, which no reader has to believe: for laws of impls, here and above.
pub mod Below
pub mod Nothing
pub mod At
pub mod Within
pub mod Sorts
pub mod Exactly
pub mod Around
