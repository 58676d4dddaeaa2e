-- GETATTR of a set under Logical.
use Rattle.std.proofs.Common.{◌≡◌, ℕ, false, sym, subst, Result, []}
use Rattle.std.specs.FinMap.{get}
use Rattle.nfs_model.specs.Types.{Success, Answer}
use Rattle.nfs_model.specs.Tree.{Logical}
use Rattle.nfs_values.specs.Answer.{answer_of}
use Rattle.nfs_values.specs.declared.answer.Answer.TheVariants.{GetAttributes}
use Rattle.nfs_values.specs.declared.attributes.Attributes.{Attributes}
use Rattle.nfs_values.specs.declared.status.Status.{Status}
use Rattle.filer_state.specs.state.Tree.{file_touch}
use Rattle.filer_state.specs.state.Lenses.{LogicalSet, logical_lens}
use Rattle.filer_state.specs.state.Promises.{RightOnVolume}
use Rattle.filer_state.specs.state.Jobs.{Replied}
use Rattle.filer_state.specs.state.Calls.{ServesOn}
use Rattle.filer_state.specs.state.Changes.{getattr_answer}
use Rattle.service.specs.renames.AttributeLaws.{getattr_call}
use Rattle.service.specs.renames.GettingLemmas.{getattr-right}
use Rattle.service.specs.Getattr.{TellsAttributes}

-- a result is right where it tells what the inode and the touch do
pub tells : (v fileid : ℕ) (set : LogicalSet) (told : Result Attributes Status)
    → answer_of (GetAttributes told) ≡ getattr_answer v fileid (get set.own.inodes.inodes fileid) (file_touch set.stripes fileid)
    → TellsAttributes v fileid set told set
tells v fileid set told is handle =
    subst (λ (a : Answer). RightOnVolume v logical_lens (ServesOn (getattr_call handle (Logical v) fileid) false) [] [] set (Replied (Success a)) set)
    (sym is) (getattr-right v fileid handle (Logical v) set)
