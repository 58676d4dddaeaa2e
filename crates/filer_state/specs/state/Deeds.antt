-- What an entry of the history does: to the server that the parcels stand for, and to the places of block numbers.
use Rattle.std.specs.Prelude.{◌≡◌, ℕ, ◌<◌, Bool, true, false, IsTrue, length, Option, Some, slice_set}
use Rattle.nfs_model.specs.Types.{Asked, Reply, SystemError}
use Rattle.nfs_model.specs.Tree.{Layout, Affinity}
use Rattle.nfs_model.specs.Home.{home_of_asked}
use Rattle.nfs_model.specs.Replay.{FinishedCall}
use Rattle.nfs_model.specs.Work as works
use Rattle.nfs_model.specs.Work.{Store, Task, Outcome, Works}
use Rattle.affinity.specs.Tree.{covers}
use Rattle.depot_rule.specs.Completions.{StepsRight, IsLayoutOf, at_node}
use Rattle.depot_rule.specs.History.{Steps}
use Rattle.filer_state.specs.state.Parcels.{FilerParcel}
use Rattle.filer_state.specs.state.Contents.{FilerContents, VolumeContents, volume_at, filer_contents}
use Rattle.filer_state.specs.state.Tree.{server_of, ranges_used}
use Rattle.filer_state.specs.state.Partition.{parts_of, all_parts}
use Rattle.filer_state.specs.state.Sound.{AllSound}
use Rattle.filer_state.specs.state.Jobs.{InnerCall, Job, Serve, Inner, JobReply, Replied, takes, gives, inner_node, inner_volume, InnerMoves}

-- ---- calls that records ask for

-- a node is the home of what is asked, or above it (a call on a handle runs at its home, or moved up to Logical or Volume)
abbrev pub IsHomeOrAbove : Layout → Asked → Affinity → Type 0
IsHomeOrAbove layout asked node = (home : Affinity) × (home_of_asked layout asked ≡ Some home) × IsTrue (covers layout node home)

-- what calls run on, as it is stored
abbrev pub stored_all : FilerContents → Store
stored_all c = record { server = server_of c; parts = all_parts c }

-- what is worked on for a finished call, under a node
abbrev pub task_at : FinishedCall → Affinity → Task
task_at call node = record { asked = call.asked; affinity = node; moment = call.moment }

-- what work came to
abbrev pub outcome_of : Bool → Reply → Outcome
outcome_of true reply = works.Starved
outcome_of false reply = works.Replied reply

-- A finished call ran under its affinity, which is its home or above it. It worked as the serial server does: it didn't have
-- to move; a reply is the serial server's, the server after it too, and block numbers moved lawfully. A starved one may
-- starve, is told so, and left all that is stored as it was.
pub record Serves (layout : Layout) (node : Affinity) (call : FinishedCall)
    (old : FilerContents) (reply : Reply) (new : FilerContents) : Type 0 where
  pub affinity : call.affinity ≡ Some node
  pub tried : IsHomeOrAbove layout call.asked node
  pub works : Works (task_at call node) (stored_all old) (outcome_of call.starved reply) (stored_all new)
  pub starved : call.starved ≡ true → (reply ≡ SystemError) × (new ≡ old)

-- ---- inner calls

-- An inner call ran under its node. It left the server, and the parts of the other volumes; those of its own it moved.
pub record DoesInner (node : Affinity) (call : InnerCall) (old : FilerContents) (reply : JobReply) (new : FilerContents) : Type 0 where
  pub under : node ≡ inner_node call
  pub server : server_of new ≡ server_of old
  pub before : VolumeContents
  pub after : VolumeContents
  pub volume_before : volume_at old (inner_volume call) ≡ Some before
  pub volume_after : volume_at new (inner_volume call) ≡ Some after
  pub moves : InnerMoves before.logical.dead.range_blocks call (ranges_used before.ranges) (parts_of before) reply (parts_of after)
  pub others : all_parts new ≡ slice_set (all_parts old) (inner_volume call) (parts_of after)

-- ---- both

abbrev pub DoesJob : Layout → Affinity → Job → FilerContents → JobReply → FilerContents → Type 0
DoesJob layout node (Serve call) old (Replied reply) new = Serves layout node call old reply new
DoesJob layout node (Serve call) old reply new = ⊥
DoesJob layout node (Inner call) old reply new = DoesInner node call old reply new

-- the same of parcels by number
abbrev pub ParcelsDo : {P : Type 0} → Layout → Affinity → Job → (ℕ → Option (FilerParcel P)) → JobReply
    → (ℕ → Option (FilerParcel P)) → Type 0
ParcelsDo layout node job f reply f' = DoesJob layout node job (filer_contents layout f) reply (filer_contents layout f')

-- The steps of a filer: a is a node's number, and whatever the other parcels are, an entry does its deed, and all stays sound.
abbrev pub FilerSteps : {P : Type 0} → Steps (FilerParcel P) Job JobReply
FilerSteps {P} parents a job f reply f' =
    (0 < a) × (a < length parents) × StepsRight IsLayoutOf (AllSound {P = P}) takes gives (at_node ParcelsDo) parents a job f reply f'
