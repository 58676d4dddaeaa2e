-- FSINFO (RFC 1813 section 3.3.19), of any object of a volume. What it tells that is the same of
-- every volume stands with its results.
use Rattle.std.specs.Prelude.{ℕ}
use Rattle.nfs_model.specs.Types.{FsinfoDone}
use Rattle.nfs_model.specs.Server.{VolumeState}
use Rattle.nfs_model.specs.Locate.{Effect}
use Rattle.nfs_model.specs.Serial.Getattr.{tell_of}

-- the attributes and the largest size of a file of the volume, or STALE
abbrev pub fsinfo : VolumeState → ℕ → Effect
fsinfo volume fileid = tell_of (λ object. FsinfoDone object volume.largest) volume fileid
