-- What a call on a handle comes to on the one volume that the handle names: what a handler promises. That the whole server does the
-- same follows.
use Rattle.std.specs.Prelude.{◌≡◌, ◌⊎◌, ℕ, ◌+◌, ◌-◌, ◌/◌, Bool, true, false, IsTrue, List, [], length, Option, Some, None, slice_get}
use Rattle.nfs_model.specs.Types.{Call, Write, Caller, Moment, Ask, Answer, Failed, Success, SystemError}
use Rattle.nfs_model.specs.Tree.{Layout, Affinity}
use Rattle.nfs_model.specs.Server.{Server, VolumeState, handle_of, block_size}
use Rattle.nfs_model.specs.Route.{handle_on, route}
use Rattle.nfs_model.specs.Home.{span_bytes}
use Rattle.nfs_model.specs.Locate.{Effect, Fails, Tells, Changes, Located, locate}
use Rattle.nfs_model.specs.Serial.Absent.{absent_parts}
use Rattle.nfs_model.specs.Serial.Step.{placed, serve}
use Rattle.nfs_model.specs.Serial.Starve.{takes_memory}
use Rattle.nfs_model.specs.Replay.{FinishedCall}
use Rattle.nfs_model.specs.Moves.{PartsChange}
use Rattle.nfs_model.specs.Work.{Outcome, Replied, Starved, Moved, move_if, ready_at, volume_above}
use Rattle.nfs_model.specs.volume.Stripes.{stripe_of}
use Rattle.filer_state.specs.state.Contents.{VolumeContents}
use Rattle.filer_state.specs.state.Tree.{ranges_used, volume_of}
use Rattle.filer_state.specs.state.Partition.{parts_of, stored}
use Rattle.filer_state.specs.state.Jobs as jobs
use Rattle.filer_state.specs.state.Jobs.{InnerCall, JobReply, InnerMoves}
use Rattle.filer_state.specs.state.Deeds.{IsHomeOrAbove, outcome_of}

-- the handle by which a call comes to its volume: its only one, or the first
abbrev pub handle_in : Call → List ℕ
handle_in call = handle_on (route call)

-- a caller of whom nothing is asked
abbrev pub unasked : Caller
unasked = record { credential = record { uid = 0; gid = 0; gids = [] }; xid = 0; peer = 0; checked = false; reads_only = false }

-- what is asked of a volume under a node: the call and its caller, the fileid that its handle names there, and the serial server's
-- procedure for it
pub record VolumeCall : Type 0 where
  pub call : Call
  pub caller : Caller
  pub node : Affinity
  pub fileid : ℕ
  pub run : VolumeState → Effect

-- What has to be known of such a call on the volume of a number, else its words say nothing: it is the caller's, its handle names the
-- fileid there, its node is the volume's and at its home or above it, and the serial server serves it by the procedure.
pub record IsCallOn (layout : Layout) (v : ℕ) (c : VolumeCall) (caller : Caller) (moment : Moment) : Type 0 where
  pub called : c.caller ≡ caller
  pub good : handle_of (length layout.volumes) (handle_in c.call) ≡ Some (record { volume = v; fileid = c.fileid })
  pub under : volume_above c.node ≡ Some v
  pub tried : IsHomeOrAbove layout (Ask c.call caller) c.node
  pub served : (server : Server) (volume : VolumeState) → length server.volumes ≡ length layout.volumes → slice_get server.volumes v ≡ Some volume
      → serve server c.call caller moment ≡ placed server (absent_parts c.call) v (c.run volume)

-- what the handle names
abbrev pub located_on : VolumeCall → VolumeContents → Located
located_on c p = record { named = record { volume = p.number; fileid = c.fileid }; volume = volume_of p }

-- n bytes at an offset of a file lie in one span, which is the i-th stripe's; where n is 0, the offset's span is
pub record LieIn (stripes i fileid offset n : ℕ) : Type 0 where
  pub span : (n ≡ 0) ⊎ (offset / span_bytes ≡ (offset + n - 1) / span_bytes)
  pub stripe : stripe_of stripes fileid (offset / block_size) ≡ i

-- an effect's answer; a failure has this many absent parts
abbrev pub answer_of : ℕ → Effect → Answer
answer_of absent (Fails status) = Failed status absent
answer_of absent (Tells answer) = answer
answer_of absent (Changes answer volume) = answer

-- the volume after it
abbrev pub volume_left : VolumeState → Effect → VolumeState
volume_left old (Fails status) = old
volume_left old (Tells answer) = old
volume_left old (Changes answer volume) = volume

-- what the serial server answers on this volume
abbrev pub answer_on : VolumeCall → VolumeContents → Answer
answer_on c p = answer_of (absent_parts c.call) (c.run (volume_of p))

-- where a WRITE to what is located moves; no other call does
abbrev pub move_of_located : Call → VolumeCall → VolumeContents → Option Affinity
move_of_located (Write handle offset count written) c p =
    move_if (Some (parts_of p)) c.node (ready_at (Some (located_on c p)) c.caller offset count (length written))
move_of_located call c p = None

abbrev pub move_on : VolumeCall → VolumeContents → Option Affinity
move_on c p = move_of_located c.call c p

-- it may starve on each server that has this volume where the handle says, if it says so at all (`IsCallOn`)
abbrev pub MayStarveOn : VolumeCall → VolumeContents → Type 0
MayStarveOn c p = (server : Server)
    → locate server (handle_in c.call) ≡ Some (located_on c p) → IsTrue (takes_memory server c.call (answer_on c p))

-- The outcome on one volume. A move changes nothing, nor does a starved call; a reply is the serial server's, so is the volume
-- after it, and its block numbers moved lawfully. (Of a move a handler says too that its set is as it was: a volume doesn't show
-- all that a set has.)
abbrev pub WorksOn : VolumeCall → VolumeContents → Outcome → VolumeContents → Type 0
WorksOn c old (Moved node) new = (move_on c old ≡ Some node) × (new ≡ old)
WorksOn c old Starved new = (move_on c old ≡ None) × MayStarveOn c old × (new ≡ old)
WorksOn c old (Replied reply) new =
    (move_on c old ≡ None)
    × (reply ≡ Success (answer_on c old))
    × (volume_of new ≡ volume_left (volume_of old) (c.run (volume_of old)))
    × PartsChange c.call c.node (stored old) (stored new)

-- the call as it is finished
abbrev pub finished_as : VolumeCall → ℕ → ℕ → ℕ → Caller → Moment → Bool → FinishedCall
finished_as c connection number xid caller moment starved = record {
  connection = connection;
  number = number;
  xid = xid;
  asked = Ask c.call caller;
  affinity = Some c.node;
  moment = moment;
  starved = starved;
}

-- what an entry of such a call does on the volume
abbrev pub ServesOn : VolumeCall → Bool → VolumeContents → JobReply → VolumeContents → Type 0
ServesOn c starved old (jobs.Replied reply) new = WorksOn c old (outcome_of starved reply) new × (starved ≡ true → reply ≡ SystemError)
ServesOn c starved old reply new = ⊥

-- what an inner call does on the volume
abbrev pub DoesInnerOn : InnerCall → VolumeContents → JobReply → VolumeContents → Type 0
DoesInnerOn call old reply new =
    (volume_of new ≡ volume_of old)
    × InnerMoves old.logical.dead.range_blocks call (ranges_used old.ranges) (parts_of old) reply (parts_of new)
