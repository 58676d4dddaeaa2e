-- PATHCONF (RFC 1813 section 3.3.20), of any object: whether only uid 0 gives a file another owner. What else it tells is the same
-- always and stands with its results.
use Rattle.std.specs.Prelude.{ℕ}
use Rattle.nfs_model.specs.Types.{Caller, PathconfDone}
use Rattle.nfs_model.specs.Server.{VolumeState}
use Rattle.nfs_model.specs.Locate.{Effect}
use Rattle.nfs_model.specs.Serial.Getattr.{tell_of}

-- the attributes, or STALE
abbrev pub pathconf : Caller → VolumeState → ℕ → Effect
pathconf caller volume fileid = tell_of (λ object. PathconfDone object caller.checked) volume fileid
