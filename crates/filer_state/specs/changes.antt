pub mod Named
pub mod Attributes
pub mod Making
pub mod Dropping
pub mod Renaming
pub mod Linking
pub mod Laws
pub mod lemmas
pub use Rattle.filer_state.specs.attributes.Laws as AttributeLaws
pub use Rattle.filer_state.specs.attributes.lemmas.Getting as GettingLemmas
pub use Rattle.filer_state.specs.names.Answers as NameAnswers
pub use Rattle.filer_state.specs.names.Laws as NameLaws
pub use Rattle.filer_state.specs.names.lemmas.Lookup as LookupLemmas
pub use Rattle.filer_state.specs.names.lemmas.Listing as ListingLemmas
pub use Rattle.filer_state.specs.names.lemmas.ListingPlus as ListingPlusLemmas
pub use Rattle.filer_state.specs.names.lemmas.Objects as ObjectLemmas
pub use Rattle.filer_state.specs.names.lemmas.Mount as MountLemmas
pub use Rattle.filer_state.specs.nodes.Making as NodesMade
pub use Rattle.filer_state.specs.nodes.Dropping as NodesDropped
pub use Rattle.filer_state.specs.nodes.Moving as NodesMoved
pub use Rattle.filer_state.specs.nodes.Sizing as NodesSized
pub use Rattle.filer_state.specs.nodes.lemmas.Sized as SizedLemmas
