-- GETATTR (RFC 1813 section 3.3.1), and what ACCESS, FSINFO and PATHCONF share with it.
use Rattle.std.specs.Prelude.{ℕ}
use Rattle.std.specs.FinMap.{get}
use Rattle.nfs_model.specs.Types.{Shown, Answer, GetattrDone}
use Rattle.nfs_model.specs.Server.{VolumeState}
use Rattle.nfs_model.specs.Shown.{shown}
use Rattle.nfs_model.specs.Locate.{Effect, Tells, on_node}

-- the attributes, or STALE
abbrev pub getattr : VolumeState → ℕ → Effect
getattr volume fileid =
    on_node (get volume.nodes fileid) (λ node. Tells (GetattrDone (shown volume fileid node)))

-- what is told by the attributes of a node, or STALE
abbrev pub tell_of : (Shown → Answer) → VolumeState → ℕ → Effect
tell_of answer volume fileid =
    on_node (get volume.nodes fileid) (λ node. Tells (answer (shown volume fileid node)))
