pub mod Ranges
pub mod Growing
pub mod FilesystemStatus
pub mod Census
pub use Rattle.filer_state.specs.totals.Running
pub use Rattle.filer_state.specs.totals.CensusLaws
pub use Rattle.filer_state.specs.totals.lemmas.Running as RunningLemmas
