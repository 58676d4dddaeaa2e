-- What a server lets the callers of a peer do, and for whom it takes them (our profile).
use Rattle.std.specs.Prelude.{ℕ, Bool, true, false, ◌&&◌, ◌==◌, List, [], ◌∷◌, map, if◌then◌else◌}
use Rattle.nfs_model.specs.Types.{Credential, Caller}

-- whose calls are taken as those of the anonymous user
pub data Squash : Type 0 where
  NoOne : Squash
  Root : Squash
  Everyone : Squash

pub record Standing : Type 0 where
  pub checked : Bool  -- whether the owner, the groups and the mode of objects are asked
  pub reads_only : Bool  -- whether callers may change nothing
  pub squash : Squash
  pub anonymous_uid : ℕ
  pub anonymous_gid : ℕ

-- the anonymous user, who has no further group
abbrev pub anonymous : Standing → Credential
anonymous s = record { uid = s.anonymous_uid; gid = s.anonymous_gid; gids = [] }

abbrev pub is_none : List ℕ → Bool
is_none [] = true
is_none (gid ∷ gids) = false

-- whom a record without a credential acts for
abbrev pub is_nobody : Credential → Bool
is_nobody c = (c.uid == 65534) && (c.gid == 65534) && is_none c.gids

-- group 0 is uid 0's own
abbrev pub squashed_gid : Standing → ℕ → ℕ
squashed_gid s gid = if gid == 0 then s.anonymous_gid else gid

abbrev pub squashed_root : Standing → Credential → Credential
squashed_root s c =
    if c.uid == 0 then anonymous s
    else record { uid = c.uid; gid = squashed_gid s c.gid; gids = map (squashed_gid s) c.gids }

abbrev pub squashed : Standing → Squash → Credential → Credential
squashed s NoOne c = c
squashed s Root c = squashed_root s c
squashed s Everyone c = anonymous s

-- whom a call acts for; nobody is anonymous
abbrev pub acts_for : Standing → Credential → Credential
acts_for s c = if is_nobody c then anonymous s else squashed s s.squash c

-- a caller of a peer that stands so. Where callers aren't checked they stay whom they claim to be
abbrev pub standing : Standing → Caller → Caller
standing s caller = record caller {
  credential = if s.checked then acts_for s caller.credential else caller.credential;
  checked = s.checked;
  reads_only = s.reads_only;
}
