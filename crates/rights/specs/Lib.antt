pub mod Protection
pub mod Refusing
pub mod Making
