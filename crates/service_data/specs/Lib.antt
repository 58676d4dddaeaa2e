pub mod Promises
pub mod Stripes
pub mod Places
pub mod Holes
pub mod Parts
pub mod SetIds
pub mod Writing
pub mod WritingInVolume
pub use Rattle.filer_state.specs.bytes.Laws as ReadingLaws
pub use Rattle.filer_state.specs.bytes.WritingLaws
pub use Rattle.filer_state.specs.bytes.Permitted
pub use Rattle.filer_state.specs.bytes.lemmas.Homes as HomeLemmas
