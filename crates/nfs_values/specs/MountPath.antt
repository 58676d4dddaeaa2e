-- Paths, part by part.
use Rattle.std.specs.Prelude.{◌≡◌, ℕ, ◌<◌, ◌==◌, List, [], ◌∷◌, length, Option, Some, None, if◌then◌else◌}
use Rattle.nfs_model.specs.Types as model
use Rattle.nfs_model.specs.Serial.Mount.{parts}
use Rattle.nfs_model.specs.Server.{handle_bytes}

-- what stands before the first slash
abbrev pub before_slash : List ℕ → List ℕ
before_slash [] = []
before_slash (c ∷ cs) = if c == 47 then [] else c ∷ before_slash cs

-- what stands behind it
abbrev pub behind_slash : List ℕ → List ℕ
behind_slash [] = []
behind_slash (c ∷ cs) = if c == 47 then cs else behind_slash cs

-- A path's parts are this one and those of a shorter path.
abbrev pub BeginsWith : List ℕ → List ℕ → List ℕ → Type 0
BeginsWith path part behind = (parts path ≡ part ∷ parts behind) × (length behind < length path)

-- the call of a MNT of a path that leads below the root of this volume, if it does
abbrev pub mount_call_below : List ℕ → Option ℕ → model.Call
mount_call_below path None = model.Mount (model.Mnt path)
mount_call_below path (Some volume) = model.MountBelow (handle_bytes volume 1) path
