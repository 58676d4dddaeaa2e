-- FSSTAT of a set under Volume.
use Rattle.std.proofs.Common.{◌≡◌, ℕ, Result, [], sym, ap, subst}
use Rattle.nfs_model.specs.Types.{Answer, Success}
use Rattle.nfs_model.specs.Tree.{Volume}
use Rattle.nfs_model.specs.Work.{Replied}
use Rattle.nfs_values.specs.Answer.{answer_of}
use Rattle.nfs_values.specs.declared.answer.Answer.TheVariants.{FilesystemStatus}
use Rattle.nfs_values.specs.declared.answer.FilesystemStatusResults.{FilesystemStatusResults}
use Rattle.nfs_values.specs.declared.status.Status.{Status}
use Rattle.filer_state.specs.state.Lenses.{VolumeSet, logical_lens, volume_lens}
use Rattle.filer_state.specs.state.Promises.{HasVolume}
use Rattle.filer_state.specs.state.Running.{RunsOn}
use Rattle.filer_state.specs.totals.FilesystemStatus.{filesystem_status_answer}
use Rattle.filer_state.specs.totals.FilesystemStatusLaws.{fsstat_call}
use Rattle.filer_state.specs.totals.lemmas.FilesystemStatus.{fsstat-right}
use Rattle.service.specs.totals.FilesystemStatus.{TellsFilesystemStatus}

-- what is under Volume has what is under Logical
pub whole-logical : (v : ℕ) (set : VolumeSet) → HasVolume v volume_lens [] set → HasVolume v logical_lens [] set.logical
whole-logical v set h = (h.0, h.1, h.2, h.3, ap (λ (s : VolumeSet). s.logical) h.4, h.5, h.6, h.7, h.8)

-- a result is right where it tells what the inode and the volume's counts do
pub tells-filesystem-status : (v fileid : ℕ) (set : VolumeSet) (told : Result FilesystemStatusResults Status)
    → answer_of (FilesystemStatus told) ≡ filesystem_status_answer v fileid set → TellsFilesystemStatus v fileid set told
tells-filesystem-status v fileid set told is handle =
    subst (λ (a : Answer). RunsOn v volume_lens (fsstat_call handle (Volume v) fileid) set (Replied (Success a)) set) (sym is)
    (fsstat-right v fileid handle (Volume v) set)
