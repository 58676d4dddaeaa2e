pub mod Store
pub mod Serving
pub mod History
pub mod Inner
pub mod Laws
pub mod lemmas
