-- What each event answers and does (our profile). A refused event changes nothing.
pub mod Refusals
pub mod Feed
pub mod Step
