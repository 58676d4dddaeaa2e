-- COMMIT (RFC 1813 section 3.3.21). All that was written is stable, so nothing changes (our
-- profile).
use Rattle.std.specs.Prelude.{ℕ}
use Rattle.std.specs.FinMap.{get}
use Rattle.nfs_model.specs.Types.{CommitDone}
use Rattle.nfs_model.specs.Server.{File, VolumeState}
use Rattle.nfs_model.specs.Shown.{wcc}
use Rattle.nfs_model.specs.Locate.{Effect, Tells, on_file}

-- STALE, INVAL for all but a regular file
abbrev pub commit : VolumeState → ℕ → Effect
commit volume fileid =
    on_file (get volume.nodes fileid) (λ f.
    Tells (CommitDone (wcc volume fileid (File f) volume (File f)) volume.verifier))
