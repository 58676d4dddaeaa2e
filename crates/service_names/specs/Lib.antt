pub mod Shown
pub mod Listing
pub mod Promises
pub mod Changing
pub mod Naming
pub mod Cards
pub mod Making
pub mod Linking
pub mod Refusing
pub mod lemmas
pub use Rattle.filer_state.specs.changes.Named as NamedChanges
pub use Rattle.filer_state.specs.changes.Dropping as DroppingChanges
pub use Rattle.filer_state.specs.changes.Renaming as RenamingChanges
pub use Rattle.filer_state.specs.changes.Linking as LinkingChanges
pub use Rattle.filer_state.specs.changes.Laws as ChangeLaws
pub use Rattle.filer_state.specs.changes.AttributeLaws
pub use Rattle.filer_state.specs.changes.GettingLemmas
pub use Rattle.filer_state.specs.changes.NameAnswers
pub use Rattle.filer_state.specs.changes.NameLaws
pub use Rattle.filer_state.specs.changes.NodesMade
pub use Rattle.filer_state.specs.changes.NodesDropped
pub use Rattle.filer_state.specs.changes.NodesMoved
pub use Rattle.filer_state.specs.changes.NodesSized
pub mod Shaping
