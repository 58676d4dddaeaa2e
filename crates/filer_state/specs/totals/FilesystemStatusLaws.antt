-- What FSSTAT comes to, by what is under Volume (RFC 1813 section 3.3.18).
use Rattle.std.specs.Prelude.{ℕ, List}
use Rattle.nfs_model.specs.Types.{Fsstat, Success}
use Rattle.nfs_model.specs.Tree.{Affinity, Volume}
use Rattle.nfs_model.specs.Serial.Fsstat.{fsstat}
use Rattle.nfs_model.specs.Work.{Replied}
use Rattle.filer_state.specs.state.Lenses.{VolumeSet, volume_lens}
use Rattle.filer_state.specs.state.Calls.{VolumeCall, unasked}
use Rattle.filer_state.specs.state.Running.{RunsOn}
use Rattle.filer_state.specs.totals.FilesystemStatus.{filesystem_status_answer}

abbrev pub fsstat_call : List ℕ → Affinity → ℕ → VolumeCall
fsstat_call handle node fileid = record { call = Fsstat handle; caller = unasked; node = node; fileid = fileid; run = λ volume. fsstat volume fileid }

-- Whatever the rest of what is stored is: the answer told by the inode and the volume's counts is the serial server's, and nothing
-- changes.
abbrev pub FsstatIsRight : Type 0
FsstatIsRight = (v fileid : ℕ) (handle : List ℕ) (set : VolumeSet)
    → RunsOn v volume_lens (fsstat_call handle (Volume v) fileid) set (Replied (Success (filesystem_status_answer v fileid set))) set
