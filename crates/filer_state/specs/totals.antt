pub mod Running
pub mod Growing
pub mod Laws
pub mod FilesystemStatus
pub mod FilesystemStatusLaws
pub mod Census
pub mod CensusLaws
pub mod lemmas
