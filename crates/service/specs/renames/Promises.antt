-- What RENAME promises, on the parcels of a volume (RFC 1813 section 3.3.14).
use Rattle.std.specs.Prelude.{◌≡◌, ℕ, Result, Ok, Err, List, Some}
use Rattle.std.specs.declared.alloc.AllocError.{AllocError}
use Rattle.nfs_model.specs.Types.{Moment, Success}
use Rattle.nfs_model.specs.Server.{handle_of}
use Rattle.nfs_model.specs.Tree.{Logical}
use Rattle.nfs_model.specs.Work.{Outcome, Replied, Starved}
use Rattle.nfs_values.specs.Answer.{answer_of}
use Rattle.nfs_values.specs.declared.answer.Answer.TheVariants.{Rename}
use Rattle.nfs_values.specs.declared.answer.RenameResults.{RenameResults}
use Rattle.nfs_values.specs.declared.status.Status.{Status}
use Rattle.filer_state.specs.state.Lenses.{LogicalSet, logical_lens}
use Rattle.filer_state.specs.state.Running.{RunsOn}
use Rattle.service_names.specs.ChangeLaws.{rename_call}

-- what it comes to: a reply, or memory ran out
abbrev pub renaming_outcome : Result (Result RenameResults Status) AllocError → Outcome
renaming_outcome (Ok told) = Replied (Success (answer_of (Rename told)))
renaming_outcome (Err e) = Starved

-- A run of RENAME of a name in the directory of a fileid to a name in that of another, or of the same, at a moment is right: by
-- whatever handles that name them, and whatever the rest of the volume is.
abbrev pub Renames : ℕ → ℕ → List ℕ → ℕ → List ℕ → Moment → LogicalSet → Result (Result RenameResults Status) AllocError → LogicalSet → Type 0
Renames v from_id from_name to_id to_name moment old result new = (volumes : ℕ) (from to : List ℕ)
    → handle_of volumes to ≡ Some (record { volume = v; fileid = to_id })
    → RunsOn v logical_lens (rename_call from to (Logical v) from_id from_name to_id to_name moment) old (renaming_outcome result) new
