-- What FSSTAT promises, on the parcels of a volume (RFC 1813 section 3.3.18).
use Rattle.std.specs.Prelude.{ℕ, Result, List}
use Rattle.nfs_model.specs.Types.{Success}
use Rattle.nfs_model.specs.Tree.{Volume}
use Rattle.nfs_model.specs.Work.{Replied}
use Rattle.nfs_values.specs.Answer.{answer_of}
use Rattle.nfs_values.specs.declared.answer.Answer.TheVariants.{FilesystemStatus}
use Rattle.nfs_values.specs.declared.answer.FilesystemStatusResults.{FilesystemStatusResults}
use Rattle.nfs_values.specs.declared.status.Status.{Status}
use Rattle.filer_state.specs.state.Lenses.{VolumeSet, volume_lens}
use Rattle.filer_state.specs.state.Running.{RunsOn}
use Rattle.filer_state.specs.totals.FilesystemStatusLaws.{fsstat_call}

-- A run of FSSTAT of a fileid by what is under Volume of a volume is right: by whatever handle, and whatever the rest of what is
-- stored is.
abbrev pub TellsFilesystemStatus : ℕ → ℕ → VolumeSet → Result FilesystemStatusResults Status → Type 0
TellsFilesystemStatus v fileid set result = (handle : List ℕ)
    → RunsOn v volume_lens (fsstat_call handle (Volume v) fileid) set (Replied (Success (answer_of (FilesystemStatus result)))) set
