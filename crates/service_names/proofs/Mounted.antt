-- MNT below a root, part by part.
use Rattle.std.proofs.Common.{◌≡◌, ℕ, List, [], Result, false, sym, ap, ◌∙◌, subst}
use Rattle.nfs_model.specs.Types.{Answer, Caller, MountDone, Success}
use Rattle.nfs_model.specs.Tree.{Logical}
use Rattle.nfs_model.specs.Server.{handle_bytes}
use Rattle.nfs_model.specs.Serial.Mount.{parts, parts_below}
use Rattle.nfs_values.specs.Answer.{answer_of, result_of}
use Rattle.nfs_values.specs.declared.answer.Answer.TheVariants.{Mount}
use Rattle.nfs_values.specs.declared.mount.MountResults.{MountResults}
use Rattle.nfs_values.specs.declared.number.Fileid.{Fileid}
use Rattle.nfs_values.specs.declared.status.Status.{Status}
use Rattle.filer_state.specs.state.Lenses.{LogicalSet, logical_lens}
use Rattle.filer_state.specs.state.Promises.{RightOnVolume}
use Rattle.filer_state.specs.state.Jobs.{Replied}
use Rattle.filer_state.specs.state.Calls.{ServesOn}
use Rattle.filer_state.specs.changes.NameAnswers.{mount_answer}
use Rattle.filer_state.specs.changes.NameLaws.{mount_call}
use Rattle.filer_state.specs.changes.MountLemmas.{mount-right}
use Rattle.service_names.specs.Promises.{MountsBelow}

-- what is told of a directory
abbrev pub told_of : ℕ → Fileid → Answer
told_of v fileid = MountDone (handle_bytes v fileid.0)

-- a result is right where it tells what inodes and entries do
pub mounts : (v fileid : ℕ) (path : List ℕ) (caller : Caller) (set : LogicalSet) (told : Result MountResults Status)
    → answer_of (Mount told) ≡ mount_answer v (parts_below path) caller set fileid → MountsBelow v fileid path caller set told
mounts v fileid path caller set told is root =
    subst (λ (a : Answer). RightOnVolume v logical_lens (ServesOn (mount_call root (Logical v) fileid path caller) false) [] [] set
    (Replied (Success a)) set) (sym is) (mount-right v fileid root path (Logical v) caller set)

-- where the parts below the volume lead
pub leads-below : (v fileid : ℕ) (path rest : List ℕ) (caller : Caller) (set : LogicalSet) (found known : Result Fileid Status) → parts rest ≡ parts_below path
    → mount_answer v (parts rest) caller set fileid ≡ result_of (told_of v) 0 found → found ≡ known
    → result_of (told_of v) 0 known ≡ mount_answer v (parts_below path) caller set fileid
leads-below v fileid path rest caller set found known below leads is =
    ap (λ (r : Result Fileid Status). result_of (told_of v) 0 r) (sym is) ∙ sym leads
    ∙ ap (λ (l : List (List ℕ)). mount_answer v l caller set fileid) below
