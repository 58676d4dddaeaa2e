-- What it is to run a call on the parcels under a node: what has to be known of them, and what the run comes to.
use Rattle.std.specs.Prelude.{◌≡◌, ℕ, ◌<◌, ◌≤◌, Bool, false, true, List, [], Option, Some, None}
use Rattle.nfs_model.specs.Types.{Asked, Moment, SystemError}
use Rattle.nfs_model.specs.Tree.{Layout, Affinity}
use Rattle.nfs_model.specs.Parts.{Hand}
use Rattle.nfs_model.specs.Replay.{FinishedCall}
use Rattle.nfs_model.specs.Work.{Task, Outcome, Replied, Starved, Moved, Works}
use Rattle.nfs_laws.specs.Sizes.{HaveSizes}
use Rattle.affinity.specs.Ancestors.{Covers}
use Rattle.affinity.specs.Numbers.{number_of, parents}
use Rattle.depot_rule.specs.Shares.{too_many}
use Rattle.filer_state.specs.state.Parcels.{FilerParcel}
use Rattle.filer_state.specs.state.Contents.{VolumeContents, volume_at, filer_contents}
use Rattle.filer_state.specs.state.Sound.{AllSound}
use Rattle.filer_state.specs.state.Jobs as jobs
use Rattle.filer_state.specs.state.Jobs.{InnerCall, Fetch, Serve, Inner, JobReply, takes, gives, inner_volume}
use Rattle.filer_state.specs.state.Deeds.{FilerSteps, stored_all}
use Rattle.filer_state.specs.state.Lenses.{Lens}
use Rattle.filer_state.specs.state.Promises.{HandsMove, RightOnVolume}
use Rattle.filer_state.specs.state.Calls.{VolumeCall, WorksOn, DoesInnerOn}
use Rattle.filer_state.specs.state.Tree.{ranges_used, tree}

-- what a handler promises of a call on the volume of a number, by the part of it that it holds
abbrev pub RunsOn : {S : Type 0} → ℕ → Lens VolumeContents S → VolumeCall → S → Outcome → S → Type 0
RunsOn v lens q old outcome new = RightOnVolume v lens (WorksOn q) [] [] old outcome new

-- ---- inner calls

-- an inner call is refused where it would fetch from a range that isn't in use
abbrev pub IsRefusedOn : InnerCall → VolumeContents → Type 0
IsRefusedOn (Fetch v r) p = ranges_used p.ranges ≤ r
IsRefusedOn call p = ⊥

-- what it comes to on its volume: a reply, or a refusal, which changes nothing
abbrev pub InnerWorksOn : InnerCall → VolumeContents → Option JobReply → VolumeContents → Type 0
InnerWorksOn call old (Some reply) new = DoesInnerOn call old reply new
InnerWorksOn call old None new = IsRefusedOn call old × (new ≡ old)

-- the batches that an outcome takes into a hand, and those that it gives from it
abbrev pub taken_by : InnerCall → Option JobReply → List Hand
taken_by call None = []
taken_by call (Some reply) = takes (Inner call) reply

abbrev pub given_by : InnerCall → Option JobReply → List Hand
given_by call None = []
given_by call (Some reply) = gives (Inner call) reply

-- what a handler promises of an inner call, by the part of the volume that it holds
abbrev pub InnerRunsOn : {S : Type 0} → ℕ → Lens VolumeContents S → InnerCall → S → Option JobReply → S → Type 0
InnerRunsOn v lens call old outcome new = RightOnVolume v lens (InnerWorksOn call) (taken_by call outcome) (given_by call outcome) old outcome new

-- ---- unless a call was answered

-- a fact of each outcome but a reply
abbrev pub UnlessReplied : Outcome → Type 0 → Type 0
UnlessReplied (Replied reply) A = Unit {0}
UnlessReplied Starved A = A
UnlessReplied (Moved other) A = A

-- ---- by parcels

-- what a record asked at a moment, as it is finished under a node
abbrev pub finished_at : Affinity → Asked → Moment → ℕ → ℕ → ℕ → Bool → FinishedCall
finished_at node asked moment connection number xid starved = record {
  connection = connection;
  number = number;
  xid = xid;
  asked = asked;
  affinity = Some node;
  moment = moment;
  starved = starved;
}

-- what is run under a node
abbrev pub task_under : Affinity → Asked → Moment → Task
task_under node asked moment = record { asked = asked; affinity = node; moment = moment }

module _ {P : Type 0} (layout : Layout) (node : Affinity) where
  -- parcels that are these under the node
  abbrev pub AreUnder : (ℕ → Option (FilerParcel P)) → (ℕ → Option (FilerParcel P)) → Type 0
  AreUnder f g = (k : ℕ) → Covers (parents layout) (number_of layout node) k → g k ≡ f k

  -- Some sound filer has these parcels under the node, after fewer entries than there ever are, and what is to be given is in hands.
  abbrev pub HasFiler : List Hand → (ℕ → Option (FilerParcel P)) → Type 0
  HasFiler given f = (g : ℕ → Option (FilerParcel P)) × (hands hands' : List Hand) × (made : ℕ)
      × AreUnder f g × (made < too_many) × HandsMove [] given hands hands' × AllSound layout g hands made

  -- the same, where the ranges of volumes have as many blocks as the layout says
  abbrev pub HasSizedFiler : List Hand → (ℕ → Option (FilerParcel P)) → Type 0
  HasSizedFiler given f = (has : HasFiler given f) × HaveSizes layout (tree layout has.0)

  -- an entry of what was asked leads from parcels to others, whatever its connection, number and xid
  abbrev pub Enters : Asked → Moment → Bool → (ℕ → Option (FilerParcel P)) → jobs.JobReply → (ℕ → Option (FilerParcel P)) → Type 0
  Enters asked moment starved f reply f' = (connection number xid : ℕ)
      → FilerSteps (parents layout) (number_of layout node) (Serve (finished_at node asked moment connection number xid starved)) f reply f'

  -- whatever the rest of a sound filer is, what was asked moves to another node
  abbrev pub MovesTo : Asked → Moment → (ℕ → Option (FilerParcel P)) → Affinity → Type 0
  MovesTo asked moment f other = (g : ℕ → Option (FilerParcel P)) (hands : List Hand) (made : ℕ) → AreUnder f g → AllSound layout g hands made
      → Works (task_under node asked moment) (stored_all (filer_contents layout g)) (Moved other) (stored_all (filer_contents layout g))

  -- whatever the rest of a sound filer is, an inner call is refused
  abbrev pub IsRefusedIn : InnerCall → (ℕ → Option (FilerParcel P)) → Type 0
  IsRefusedIn call f = (g : ℕ → Option (FilerParcel P)) (hands : List Hand) (made : ℕ) → AreUnder f g → AllSound layout g hands made
      → (p : VolumeContents) → volume_at (filer_contents layout g) (inner_volume call) ≡ Some p → IsRefusedOn call p

  -- An inner call is run on the parcels under the node. A reply is an entry; a refused one changed no parcel.
  abbrev pub InnerRuns : InnerCall → (ℕ → Option (FilerParcel P)) → Option JobReply → (ℕ → Option (FilerParcel P)) → Type 0
  InnerRuns call f (Some reply) f' = FilerSteps (parents layout) (number_of layout node) (Inner call) f reply f'
  InnerRuns call f None f' = IsRefusedIn call f × ((k : ℕ) → f' k ≡ f k)

  -- What was asked is run on the parcels under the node. A reply is an entry; so is a starved call, which changed no parcel, nor
  -- does a move.
  abbrev pub Runs : Asked → Moment → (ℕ → Option (FilerParcel P)) → Outcome → (ℕ → Option (FilerParcel P)) → Type 0
  Runs asked moment f (Replied reply) f' = Enters asked moment false f (jobs.Replied reply) f'
  Runs asked moment f Starved f' = Enters asked moment true f (jobs.Replied SystemError) f' × ((k : ℕ) → f' k ≡ f k)
  Runs asked moment f (Moved other) f' = MovesTo asked moment f other × ((k : ℕ) → f' k ≡ f k)
