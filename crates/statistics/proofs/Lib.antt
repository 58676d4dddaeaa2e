pub mod Sums
pub mod Tops
