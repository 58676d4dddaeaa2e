-- GETATTR on the parcels of a volume (RFC 1813 section 3.3.1).
use Rattle.std.specs.Prelude.{ℕ, false, Result, List, []}
use Rattle.nfs_model.specs.Types.{Success}
use Rattle.nfs_model.specs.Tree.{Logical}
use Rattle.nfs_values.specs.Answer.{answer_of}
use Rattle.nfs_values.specs.declared.answer.Answer.TheVariants.{GetAttributes}
use Rattle.nfs_values.specs.declared.attributes.Attributes.{Attributes}
use Rattle.nfs_values.specs.declared.status.Status.{Status}
use Rattle.filer_state.specs.state.Lenses.{LogicalSet, logical_lens}
use Rattle.filer_state.specs.state.Promises.{RightOnVolume}
use Rattle.filer_state.specs.state.Jobs.{Replied}
use Rattle.filer_state.specs.state.Calls.{ServesOn}
use Rattle.service.specs.renames.AttributeLaws.{getattr_call}

-- An entry of GETATTR of a fileid under Logical, with this result, is right: by whatever handle, and whatever the rest of the
-- volume is.
abbrev pub TellsAttributes : ℕ → ℕ → LogicalSet → Result Attributes Status → LogicalSet → Type 0
TellsAttributes v fileid old result new = (handle : List ℕ)
    → RightOnVolume v logical_lens (ServesOn (getattr_call handle (Logical v) fileid) false) [] [] old
    (Replied (Success (answer_of (GetAttributes result)))) new
