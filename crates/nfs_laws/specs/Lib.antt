pub mod Undisturbed
pub mod Walk
pub mod Sizes
pub mod Repeated
pub mod Permissions
pub mod Links
pub mod lemmas
