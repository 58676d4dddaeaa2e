-- The set-id bits of what callers write.
use Rattle.std.specs.Prelude.{ℕ, Bool, false, not, ◌==◌, Option, Some, None, Result, Ok, Err, if◌then◌else◌}
use Rattle.std.specs.declared.alloc.AllocError.{AllocError}
use Rattle.nfs_model.specs.Types.{Ownership}
use Rattle.nfs_values.specs.declared.answer.WriteResults.{WriteResults}
use Rattle.nfs_values.specs.declared.status.Status.{Status}
use Rattle.filer_state.specs.state.Lenses.{LogicalSet}
use Rattle.filer_state.specs.bytes.Permitted.{set_ids_ended}

-- whether at least one byte was written
abbrev pub tells_written : Result (Option (Result WriteResults Status)) AllocError → Bool
tells_written (Err e) = false
tells_written (Ok None) = false
tells_written (Ok (Some (Err status))) = false
tells_written (Ok (Some (Ok results))) = not (results.count == 0)

-- a file without its set-id bits, or as it is
abbrev pub set_cleared : Bool → Option Ownership → ℕ → LogicalSet → LogicalSet
set_cleared clears owner fileid set = if clears then set_ids_ended owner fileid set else set
