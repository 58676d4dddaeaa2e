-- What follows from the definitions.
use Rattle.std.specs.Prelude.{◌≡◌, ℕ, Bool, ◌<◌, ◌≤◌, ◌*◌, List, [], length, map, Option, Some, None}
use Rattle.std.specs.FinMap.{get, len}
use Rattle.nfs_model.specs.Types.{Caller, Moment}
use Rattle.nfs_model.specs.Tree.{Layout, Serial, Aggregate, Volume, Logical, Stripe, Vbn, Range, stripes_of, range_blocks_of}
use Rattle.nfs_model.specs.Server.{opening}
use Rattle.nfs_model.specs.Headline.{opening_parts}
use Rattle.nfs_model.specs.Parts as parts
use Rattle.nfs_model.specs.Parts.{Hand, times_listed}
use Rattle.nfs_laws.specs.Sizes.{HaveSizes}
use Rattle.affinity.specs.Fault.{fault_of}
use Rattle.affinity.specs.Numbers.{parents, number_of}
use Rattle.depot_rule.specs.declared.view.Entry.{Entry}
use Rattle.depot_rule.specs.History.{after, Legal, SoundThroughout, behaviour}
use Rattle.depot_rule.specs.Machine.{IsLocal, Keeps}
use Rattle.depot_rule.specs.Sums.{total}
use Rattle.parcels.specs.Sets.{range_parcels, vbn_parcels, stripe_parcels, logical_parcels, volume_parcels, aggregate_parcels, serial_parcels}
use Rattle.nfs_model.specs.volume.Directories.{DirectoryValue}
use Rattle.filer_state.specs.state.Parcels.{FilerParcel}
use Rattle.filer_state.specs.state.Contents.{VolumeContents, FilerContents, volume_at, filer_contents}
use Rattle.filer_state.specs.state.Tree.{ranges_used, volume_of, tree}
use Rattle.filer_state.specs.state.Names.{directories_listed}
use Rattle.filer_state.specs.state.Partition.{parts_of, all_parts, times_in_hand}
use Rattle.filer_state.specs.state.Sound.{IsSound, AllSound, IsFiler}
use Rattle.filer_state.specs.state.Jobs.{InnerCall, Job, Serve, Inner, JobReply, takes, gives, inner_node, inner_volume}
use Rattle.filer_state.specs.state.Deeds.{DoesJob, FilerSteps}
use Rattle.filer_state.specs.state.Replayed.{calls_of, replies_of, Replays}
use Rattle.filer_state.specs.state.Lenses.{with_contents, stripe_lens, range_lens, vbn_lens, logical_lens, volume_lens, aggregate_lens, serial_lens, in_volume}
use Rattle.filer_state.specs.state.Promises.{HasVolume, HasAll, IsLaidOut, IsRight, IsSeenBy}
use Rattle.filer_state.specs.state.Running.{HasFiler, HasSizedFiler}
use Rattle.filer_state.specs.state.Calls.{VolumeCall, IsCallOn, ServesOn, DoesInnerOn, finished_as}
use Rattle.filer_state.specs.state.Sets.{FilerRange, FilerStripe, FilerVbn, FilerLogical, FilerVolume, FilerAggregate, FilerSerial}
use Rattle.filer_state.specs.state.Sets.{vbn_set, logical_set, volume_set, logical_before, volume_before, aggregate_set, serial_set}
use Rattle.filer_state.specs.state.Opening.{AreOpening}
use Rattle.filer_state.specs.state.Commute.{Commute}

-- ---- a volume

-- the block parts of a sound volume partition it, as the model says, with what is listed of it in hands
abbrev pub PartsPartition : Type 0
PartsPartition = (p : VolumeContents) (hands : List Hand) (made : ℕ) (in_hands : List ℕ) → IsSound p hands made
    → ((n : ℕ) → times_listed n in_hands ≡ total (times_in_hand p.number n) hands) → parts.IsPartition (volume_of p) (parts_of p) in_hands

-- no more blocks are used than there are
abbrev pub UsedFits : Type 0
UsedFits = (p : VolumeContents) (hands : List Hand) (made : ℕ) → IsSound p hands made
    → p.logical.inodes.used ≤ p.logical.dead.range_blocks * ranges_used p.ranges

-- no directory has more subdirectories than there are inodes
abbrev pub SubdirectoriesFit : Type 0
SubdirectoriesFit = (p : VolumeContents) (hands : List Hand) (made : ℕ) → IsSound p hands made
    → (fileid : ℕ) (d : DirectoryValue) → get p.logical.directories fileid ≡ Some d
    → directories_listed p.logical.inodes.inodes d.list ≤ len p.logical.inodes.inodes

module _ (P : Type 0) where
  -- ---- the beginning

  -- the parcels as a run begins are sound, with no hands and no entries
  abbrev pub OpensSound : Type 0
  OpensSound = (layout : Layout) (verifier : List ℕ) (f : ℕ → Option (FilerParcel P)) → fault_of layout ≡ None → AreOpening layout verifier f
      → IsFiler (parents layout) f [] 0

  -- and stand for the server as it begins
  abbrev pub OpensAsServer : Type 0
  OpensAsServer = (layout : Layout) (verifier : List ℕ) (f : ℕ → Option (FilerParcel P)) → fault_of layout ≡ None → AreOpening layout verifier f
      → tree layout f ≡ opening layout verifier

  -- with all block numbers below total free
  abbrev pub OpensFree : Type 0
  OpensFree = (layout : Layout) (verifier : List ℕ) (f : ℕ → Option (FilerParcel P)) → fault_of layout ≡ None → AreOpening layout verifier f
      → all_parts (filer_contents layout f) ≡ map opening_parts layout.volumes

  -- ---- steps

  abbrev pub StepsAreLocal : Type 0
  StepsAreLocal = IsLocal (FilerSteps {P = P})

  abbrev pub StepsKeep : Type 0
  StepsKeep = Keeps (FilerSteps {P = P}) takes gives IsFiler

  abbrev pub StepsCommute : Type 0
  StepsCommute = Commute (FilerSteps {P = P})

  -- The parcels that a legal history leaves, in which all is sound throughout, stand for the serial server after its finished
  -- calls, whose replies are the serial server's.
  abbrev pub HistoriesReplay : Type 0
  HistoriesReplay = (layout : Layout) → fault_of layout ≡ None → (f : ℕ → Option (FilerParcel P)) (log : List (Entry (FilerParcel P) Job JobReply))
      → Legal FilerSteps (parents layout) f log → SoundThroughout (behaviour FilerSteps takes gives IsFiler) (parents layout) f log
      → Replays (tree layout f) (tree layout (after (parents layout) f log)) (calls_of log) (replies_of log)

  -- Where they begin as a run does, the ranges of their volumes have as many blocks as the layout says.
  abbrev pub HistoriesKeepSizes : Type 0
  HistoriesKeepSizes = (layout : Layout) → fault_of layout ≡ None → (verifier : List ℕ) (f : ℕ → Option (FilerParcel P)) → AreOpening layout verifier f
      → (log : List (Entry (FilerParcel P) Job JobReply)) → Legal FilerSteps (parents layout) f log
      → SoundThroughout (behaviour FilerSteps takes gives IsFiler) (parents layout) f log
      → HaveSizes layout (tree layout (after (parents layout) f log))

  -- which of two layouts of one tree is taken changes nothing
  abbrev pub LayoutsAgree : Type 0
  LayoutsAgree = (l m : Layout) → parents l ≡ parents m → (f : ℕ → Option (FilerParcel P)) → filer_contents l f ≡ filer_contents m f

  -- what has to hold goes by the weight of hands
  abbrev pub SoundByWeight : Type 0
  SoundByWeight = (layout : Layout) (f : ℕ → Option (FilerParcel P)) (hands others : List Hand) (made : ℕ)
      → ((weigh : Hand → ℕ) → total weigh others ≡ total weigh hands) → AllSound layout f hands made → AllSound layout f others made

  -- ---- sets

  abbrev pub StripesAreSeen : Type 0
  StripesAreSeen = (layout : Layout) → fault_of layout ≡ None → (v i : ℕ) → v < length layout.volumes → i < stripes_of layout v → (held : FilerStripe P)
      → IsSeenBy layout (Stripe v i) (in_volume v (stripe_lens i)) (stripe_parcels layout (Stripe v i) held) held.own

  abbrev pub RangesAreSeen : Type 0
  RangesAreSeen = (layout : Layout) → fault_of layout ≡ None → (v r : ℕ) → v < length layout.volumes → r < 16 → (held : FilerRange P)
      → IsSeenBy layout (Range v r) (in_volume v (range_lens r)) (range_parcels layout (Range v r) held) held.own

  abbrev pub VbnsAreSeen : Type 0
  VbnsAreSeen = (layout : Layout) → fault_of layout ≡ None → (v : ℕ) → v < length layout.volumes → (held : FilerVbn P)
      → IsSeenBy layout (Vbn v) (in_volume v vbn_lens) (vbn_parcels layout (Vbn v) held) (vbn_set held)

  abbrev pub LogicalsAreSeen : Type 0
  LogicalsAreSeen = (layout : Layout) → fault_of layout ≡ None → (v : ℕ) → v < length layout.volumes → (held : FilerLogical P)
      → IsSeenBy layout (Logical v) (in_volume v logical_lens) (logical_parcels layout (Logical v) held) (logical_set (stripes_of layout v) held)

  abbrev pub VolumesAreSeen : Type 0
  VolumesAreSeen = (layout : Layout) → fault_of layout ≡ None → (v : ℕ) → v < length layout.volumes → (held : FilerVolume P)
      → IsSeenBy layout (Volume v) (in_volume v volume_lens) (volume_parcels layout (Volume v) held) (volume_set (stripes_of layout v) held)

  abbrev pub AggregatesAreSeen : Type 0
  AggregatesAreSeen = (layout : Layout) → fault_of layout ≡ None → (a : ℕ) → a < length layout.spare → (held : FilerAggregate P)
      → IsSeenBy layout (Aggregate a) (aggregate_lens a) (aggregate_parcels layout (Aggregate a) held) (aggregate_set layout a held)

  abbrev pub RootsAreSeen : Type 0
  RootsAreSeen = (layout : Layout) → fault_of layout ≡ None → (held : FilerSerial P)
      → IsSeenBy layout Serial serial_lens (serial_parcels layout Serial held) (serial_set layout held)

  -- ---- grants: what is granted of a sound filer is a part of some sound whole, which is what a handler has to know

  abbrev pub StripesAreKnown : Type 0
  StripesAreKnown = (layout : Layout) → fault_of layout ≡ None → (given : List Hand) → (v i : ℕ) → v < length layout.volumes → i < stripes_of layout v
      → (held : FilerStripe P) → HasFiler layout (Stripe v i) given (stripe_parcels layout (Stripe v i) held)
      → HasVolume v (stripe_lens i) given held.own

  abbrev pub RangesAreKnown : Type 0
  RangesAreKnown = (layout : Layout) → fault_of layout ≡ None → (given : List Hand) → (v r : ℕ) → v < length layout.volumes → r < 16 → (held : FilerRange P)
      → HasFiler layout (Range v r) given (range_parcels layout (Range v r) held)
      → HasVolume v (range_lens r) given held.own

  abbrev pub VbnsAreKnown : Type 0
  VbnsAreKnown = (layout : Layout) → fault_of layout ≡ None → (given : List Hand) → (v : ℕ) → v < length layout.volumes → (held : FilerVbn P)
      → HasFiler layout (Vbn v) given (vbn_parcels layout (Vbn v) held)
      → HasVolume v vbn_lens given (vbn_set held)

  abbrev pub LogicalsAreKnown : Type 0
  LogicalsAreKnown = (layout : Layout) → fault_of layout ≡ None → (given : List Hand) → (v : ℕ) → v < length layout.volumes → (held : FilerLogical P)
      → HasFiler layout (Logical v) given (logical_parcels layout (Logical v) held)
      → (held.own.stripes ≡ stripes_of layout v) × HasVolume v logical_lens given (logical_before held)

  abbrev pub VolumesAreKnown : Type 0
  VolumesAreKnown = (layout : Layout) → fault_of layout ≡ None → (given : List Hand) → (v : ℕ) → v < length layout.volumes → (held : FilerVolume P)
      → HasFiler layout (Volume v) given (volume_parcels layout (Volume v) held)
      → (held.logical.own.stripes ≡ stripes_of layout v) × HasVolume v volume_lens given (volume_before held)

  abbrev pub AggregatesAreKnown : Type 0
  AggregatesAreKnown = (layout : Layout) → fault_of layout ≡ None → (given : List Hand) → (a : ℕ) → a < length layout.spare → (held : FilerAggregate P)
      → HasFiler layout (Aggregate a) given (aggregate_parcels layout (Aggregate a) held)
      → HasAll layout (aggregate_lens a) given (aggregate_set layout a held)

  abbrev pub RootsAreKnown : Type 0
  RootsAreKnown = (layout : Layout) → fault_of layout ≡ None → (given : List Hand) → (held : FilerSerial P)
      → HasFiler layout Serial given (serial_parcels layout Serial held)
      → HasAll layout serial_lens given (serial_set layout held)

  -- where the sizes are the layout's, a range and what is under Logical have them
  abbrev pub RangesAreSized : Type 0
  RangesAreSized = (layout : Layout) → fault_of layout ≡ None → (given : List Hand) → (v r : ℕ) → v < length layout.volumes → r < 16 → (held : FilerRange P)
      → HasSizedFiler layout (Range v r) given (range_parcels layout (Range v r) held)
      → held.own.range_blocks ≡ range_blocks_of layout v

  abbrev pub LogicalsAreSized : Type 0
  LogicalsAreSized = (layout : Layout) → fault_of layout ≡ None → (given : List Hand) → (v : ℕ) → v < length layout.volumes → (held : FilerLogical P)
      → HasSizedFiler layout (Logical v) given (logical_parcels layout (Logical v) held)
      → held.own.dead.range_blocks ≡ range_blocks_of layout v

  -- ---- handlers: where a set's change is right, putting in the set's parcels is a step

  abbrev pub StripeMakesStep : Type 0
  StripeMakesStep = (layout : Layout) → fault_of layout ≡ None → (job : Job) (reply : JobReply) → (v i : ℕ) → v < length layout.volumes
      → i < stripes_of layout v → (old new : FilerStripe P)
      → IsRight layout (Stripe v i) (in_volume v (stripe_lens i)) job old.own reply new.own
      → FilerSteps (parents layout) (number_of layout (Stripe v i)) job (stripe_parcels layout (Stripe v i) old) reply (stripe_parcels layout
      (Stripe v i) new)

  abbrev pub RangeMakesStep : Type 0
  RangeMakesStep = (layout : Layout) → fault_of layout ≡ None → (job : Job) (reply : JobReply) → (v r : ℕ) → v < length layout.volumes → r < 16
      → (old new : FilerRange P)
      → IsRight layout (Range v r) (in_volume v (range_lens r)) job old.own reply new.own
      → FilerSteps (parents layout) (number_of layout (Range v r)) job (range_parcels layout (Range v r) old) reply (range_parcels layout (Range v r) new)

  abbrev pub VbnMakesStep : Type 0
  VbnMakesStep = (layout : Layout) → fault_of layout ≡ None → (job : Job) (reply : JobReply) → (v : ℕ) → v < length layout.volumes → (old new : FilerVbn P)
      → IsRight layout (Vbn v) (in_volume v vbn_lens) job (vbn_set old) reply (vbn_set new)
      → FilerSteps (parents layout) (number_of layout (Vbn v)) job (vbn_parcels layout (Vbn v) old) reply (vbn_parcels layout (Vbn v) new)

  abbrev pub LogicalMakesStep : Type 0
  LogicalMakesStep = (layout : Layout) → fault_of layout ≡ None → (job : Job) (reply : JobReply) → (v : ℕ) → v < length layout.volumes
      → (old new : FilerLogical P)
      → IsRight layout (Logical v) (in_volume v logical_lens) job (logical_set (stripes_of layout v) old) reply (logical_set (stripes_of layout v) new)
      → FilerSteps (parents layout) (number_of layout (Logical v)) job (logical_parcels layout (Logical v) old) reply (logical_parcels layout
      (Logical v) new)

  abbrev pub VolumeMakesStep : Type 0
  VolumeMakesStep = (layout : Layout) → fault_of layout ≡ None → (job : Job) (reply : JobReply) → (v : ℕ) → v < length layout.volumes
      → (old new : FilerVolume P)
      → IsRight layout (Volume v) (in_volume v volume_lens) job (volume_set (stripes_of layout v) old) reply (volume_set (stripes_of layout v) new)
      → FilerSteps (parents layout) (number_of layout (Volume v)) job (volume_parcels layout (Volume v) old) reply (volume_parcels layout (Volume v) new)

  abbrev pub AggregateMakesStep : Type 0
  AggregateMakesStep = (layout : Layout) → fault_of layout ≡ None → (job : Job) (reply : JobReply) → (a : ℕ) → a < length layout.spare
      → (old new : FilerAggregate P)
      → IsRight layout (Aggregate a) (aggregate_lens a) job (aggregate_set layout a old) reply (aggregate_set layout a new)
      → FilerSteps (parents layout) (number_of layout (Aggregate a)) job (aggregate_parcels layout (Aggregate a) old) reply
      (aggregate_parcels layout (Aggregate a) new)

  abbrev pub SerialMakesStep : Type 0
  SerialMakesStep = (layout : Layout) → fault_of layout ≡ None → (job : Job) (reply : JobReply) → (old new : FilerSerial P)
      → IsRight layout Serial serial_lens job (serial_set layout old) reply (serial_set layout new)
      → FilerSteps (parents layout) (number_of layout Serial) job (serial_parcels layout Serial old) reply (serial_parcels layout Serial new)

-- ---- what is done on a volume

-- a call on a volume is one on all that is stored
abbrev pub ServesAll : Type 0
ServesAll = (layout : Layout) (v : ℕ) (q : VolumeCall) (connection number xid : ℕ) (caller : Caller) (moment : Moment)
    → IsCallOn layout v q caller moment
    → (c : FilerContents) → IsLaidOut layout c → (p : VolumeContents) → volume_at c v ≡ Some p → p.number ≡ v
    → (starved : Bool) (reply : JobReply) (after : VolumeContents) → ServesOn q starved p reply after
    → DoesJob layout q.node (Serve (finished_as q connection number xid caller moment starved)) c reply (with_contents c v after)

-- and so is an inner call
abbrev pub InnerDoesAll : Type 0
InnerDoesAll = (layout : Layout) (call : InnerCall) (reply : JobReply) (c : FilerContents) (p after : VolumeContents)
    → volume_at c (inner_volume call) ≡ Some p → DoesInnerOn call p reply after
    → DoesJob layout (inner_node call) (Inner call) c reply (with_contents c (inner_volume call) after)
