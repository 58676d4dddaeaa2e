pub mod Pages
pub mod Numbers
