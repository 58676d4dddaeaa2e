-- What work on a call comes to (our profile): a move, a starved call, or a reply, with what calls
-- run on before and after.
use Rattle.std.specs.Prelude.{◌≡◌, ℕ, ◌+◌, min, Bool, false, not, ◌&&◌, ◌||◌, ◌==◌, nat_lt, IsTrue, List}
use Rattle.std.specs.Prelude.{length, Option, Some, None, is_some, is_none, slice_get, slice_set}
use Rattle.std.specs.Prelude.{if◌then◌else◌}
use Rattle.std.specs.FinSet.{len}
use Rattle.nfs_model.specs.Types.{Moment, Caller, Call, Write, Grow, Asked, Ask, Refused, Undecoded, Reply}
use Rattle.nfs_model.specs.Tree.{Affinity, Serial, Aggregate, Volume, Logical, Stripe, Vbn, Range}
use Rattle.nfs_model.specs.Server.{FileNode, Node, File, Directory, Special, VolumeState, Server, most_bytes}
use Rattle.nfs_model.specs.Locate.{Located, locate, node_named}
use Rattle.nfs_model.specs.Serial.Rights.{protection}
use Rattle.nfs_model.specs.Serial.Permission.{write_refusal}
use Rattle.nfs_model.specs.Serial.Write.{need, write_fault, space_fault, clears_set_ids}
use Rattle.nfs_model.specs.Serial.Step.{Step, serial}
use Rattle.nfs_model.specs.Serial.Starve.{may_starve_later}
use Rattle.nfs_model.specs.Parts.{Parts}
use Rattle.nfs_model.specs.Moves.{Stored, PartsChange}

-- what calls run on: the server, and where the block numbers of each volume are
pub record Store : Type 0 where
  pub server : Server
  pub parts : List Parts

-- what is worked on: what a record asks, under an affinity, at a moment
pub record Task : Type 0 where
  pub asked : Asked
  pub affinity : Affinity
  pub moment : Moment

-- what work came to
pub data Outcome : Type 0 where
  Replied : (reply : Reply) → Outcome
  Starved : Outcome
  Moved : (affinity : Affinity) → Outcome

-- ---- moves

-- a WRITE that passes the checks before that of space
pub record Ready : Type 0 where
  pub need : ℕ
  pub extends : Bool
  pub clears : Bool  -- the set-id bits of its mode
  pub fits : Bool

-- a WRITE of n bytes, at least one, at an offset of a file
abbrev pub ready_bytes : VolumeState → Caller → FileNode → ℕ → ℕ → Option Ready
ready_bytes volume caller f offset n =
    if is_some (write_fault volume offset n) then None
    else Some (record {
      need = need f offset n;
      extends = nat_lt (length f.bytes) (offset + n);
      clears = clears_set_ids caller f;
      fits = is_none (space_fault volume f offset n);
    })

-- a WRITE to a file, with the count that was given and the length of the data; one that is refused isn't ready
abbrev pub ready_file : VolumeState → Caller → FileNode → ℕ → ℕ → ℕ → Option Ready
ready_file volume caller f offset given n =
    if is_some (write_refusal caller (protection (File f))) then None
    else if not (given == n) then None
    else if given == 0 then None
    else ready_bytes volume caller f offset (min given most_bytes)

-- a WRITE to a node, if it is there
abbrev pub ready : Option Located → Option Node → Caller → ℕ → ℕ → ℕ → Option Ready
ready None there caller offset given n = None
ready (Some l) None caller offset given n = None
ready (Some l) (Some (File f)) caller offset given n = ready_file l.volume caller f offset given n
ready (Some l) (Some (Directory d)) caller offset given n = None
ready (Some l) (Some (Special s)) caller offset given n = None

-- a WRITE to what a handle names
abbrev pub ready_at : Option Located → Caller → ℕ → ℕ → ℕ → Option Ready
ready_at there caller offset given n = ready there (node_named there) caller offset given n

-- a ready WRITE moves from a Stripe where it would extend, fill, or change the mode, from Logical where the stock is
-- short, from Volume where it fits and stock, free and dead together are short, since the rest is in hands
abbrev pub move_by : Option Parts → Affinity → Ready → Option Affinity
move_by parts (Stripe v i) r = if r.extends || r.clears || nat_lt 0 r.need then Some (Logical v) else None
move_by None affinity r = None
move_by (Some p) (Logical v) r = if nat_lt (len p.stock) r.need then Some (Volume v) else None
move_by (Some p) (Volume v) r =
    if r.fits && nat_lt (len p.stock + len p.free + len p.dead) r.need then Some (Volume v) else None
move_by (Some p) affinity r = None

-- only a ready WRITE moves
abbrev pub move_if : Option Parts → Affinity → Option Ready → Option Affinity
move_if parts affinity None = None
move_if parts affinity (Some r) = move_by parts affinity r

-- the volume that an affinity lies in
abbrev pub volume_above : Affinity → Option ℕ
volume_above Serial = None
volume_above (Aggregate a) = None
volume_above (Volume v) = Some v
volume_above (Logical v) = Some v
volume_above (Stripe v i) = Some v
volume_above (Vbn v) = Some v
volume_above (Range v r) = Some v

-- the parts of a volume, if an affinity lies in one
abbrev pub parts_at : List Parts → Option ℕ → Option Parts
parts_at parts None = None
parts_at parts (Some v) = slice_get parts v

-- where a call moves, if it moves
abbrev pub move_of_call : Store → Affinity → Call → Caller → Option Affinity
move_of_call store affinity (Write handle offset count written) caller =
    move_if (parts_at store.parts (volume_above affinity)) affinity
    (ready_at (locate store.server handle) caller offset count (length written))
move_of_call store affinity call caller = None

-- where what a record asks moves
abbrev pub move_of_asked : Store → Affinity → Asked → Option Affinity
move_of_asked store affinity (Ask call caller) = move_of_call store affinity call caller
move_of_asked store affinity (Refused reply) = None
move_of_asked store affinity Undecoded = None

-- where a task moves
abbrev pub move_of : Store → Task → Option Affinity
move_of store task = move_of_asked store task.affinity task.asked

-- ---- the parts after a reply

-- the volume whose parts a call may change
abbrev pub changed_volume : Call → Affinity → Option ℕ
changed_volume (Grow volume ranges) affinity = Some volume
changed_volume call affinity = volume_above affinity

-- those of the call's volume by its rule, and the others as they were
pub record PartsOfVolume (v : ℕ) (call : Call) (affinity : Affinity) (old new : Store) : Type 0 where
  pub before : Stored
  pub after : Stored
  pub volume_before : slice_get old.server.volumes v ≡ Some before.volume
  pub volume_after : slice_get new.server.volumes v ≡ Some after.volume
  pub parts_before : slice_get old.parts v ≡ Some before.parts
  pub change : PartsChange call affinity before after
  pub parts : new.parts ≡ slice_set old.parts v after.parts

-- by the volume, if there is one
abbrev pub PartsAt : Option ℕ → Call → Affinity → Store → Store → Type 0
PartsAt None call affinity old new = new.parts ≡ old.parts
PartsAt (Some v) call affinity old new = PartsOfVolume v call affinity old new

-- the parts after a reply to what a record asks
abbrev pub PartsAfter : Asked → Affinity → Store → Store → Type 0
PartsAfter (Ask call caller) affinity old new =
    PartsAt (changed_volume call affinity) call affinity old new
PartsAfter (Refused reply) affinity old new = new.parts ≡ old.parts
PartsAfter Undecoded affinity old new = new.parts ≡ old.parts

-- ---- the outcome

-- what the serial server does with a task
abbrev pub step_by : Store → Task → Step
step_by store task = serial store.server task.asked task.moment false

-- The outcome of work, with what calls run on before and after it. A move changes nothing, nor does
-- a starved call, which else would be answered; a reply is the serial server's.
abbrev pub Works : Task → Store → Outcome → Store → Type 0
Works task old (Moved a) new = (move_of old task ≡ Some a) × (new ≡ old)
Works task old Starved new =
    (move_of old task ≡ None) × IsTrue (may_starve_later old.server task.asked task.moment) × (new ≡ old)
Works task old (Replied reply) new =
    (move_of old task ≡ None)
    × (reply ≡ (step_by old task).reply)
    × (new.server ≡ (step_by old task).server)
    × PartsAfter task.asked task.affinity old new
