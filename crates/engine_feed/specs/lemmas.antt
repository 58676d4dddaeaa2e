pub mod Lists
pub mod Codec
pub mod Reading
