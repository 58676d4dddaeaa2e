pub mod Promises
pub mod Renaming
pub mod Moving
pub mod Climbing
pub use Rattle.service_names.specs.Promises as NamePromises
pub use Rattle.service_names.specs.lemmas.Whole as WholeLemmas
pub use Rattle.service_names.specs.ChangeLaws
pub use Rattle.service_names.specs.NameLaws
pub use Rattle.service_names.specs.AttributeLaws
pub use Rattle.service_names.specs.GettingLemmas
