-- What GROW promises, on the parcels under an Aggregate (our profile).
use Rattle.std.specs.Prelude.{◌≡◌, ℕ, ◌+◌, ◌*◌, ◌<◌, [], length, Option, Some, None, Result, Ok, Err, OnErr}
use Rattle.std.specs.Option.{option_map}
use Rattle.nfs_model.specs.Types as types
use Rattle.nfs_model.specs.Types.{Ask, Caller, Moment, Success}
use Rattle.nfs_model.specs.Tree.{Layout, Aggregate, aggregate_of}
use Rattle.nfs_model.specs.Work.{Outcome, Replied}
use Rattle.nfs_values.specs.Answer.{answer_of}
use Rattle.nfs_values.specs.Status.{status_of}
use Rattle.nfs_values.specs.declared.answer.Answer.TheVariants.{Grow}
use Rattle.nfs_values.specs.declared.status.Status.{Status}
use Rattle.parcels.specs.Filled.{volume_alike, aggregate_alike}
use Rattle.filer_state.specs.state.Lenses.{aggregate_lens}
use Rattle.filer_state.specs.state.Promises.{HasAll}
use Rattle.filer_state.specs.state.Running.{task_under}
use Rattle.filer_state.specs.state.Sets.{FilerVolume, FilerAggregate, vbn_set, aggregate_set}
use Rattle.filer_state.specs.state.Tree.{ranges_used}
use Rattle.filer_state.specs.totals.Running.{RunsOnAll}
use Rattle.filer_state.specs.totals.Growing.{first_in_use, grow_refusal, grow_aggregate}
use Rattle.service.specs.totals.Ranges.{HasRanges}

-- ---- an aggregate

-- what a GROW comes to: it is always answered
abbrev pub growing_outcome : Result ℕ Status → Outcome
growing_outcome told = Replied (Success (answer_of (Grow told)))

module _ {P : Type 0} where
  -- a volume lies on the aggregate: some layout puts it there, by which some sound whole has this under the Aggregate
  pub record HasVolumeOf (v : ℕ) (held : FilerAggregate P) : Type 0 where
    pub layout : Layout
    pub there : v < length layout.volumes
    pub whole : HasAll layout (aggregate_lens (aggregate_of layout v)) [] (aggregate_set layout (aggregate_of layout v) held)

  -- A run of GROW of a volume by what is under its Aggregate is right: by whatever layout has the volume, for whomever and whenever, and
  -- whatever the rest of what is stored is.
  abbrev pub GrowsAggregate : ℕ → ℕ → FilerAggregate P → Result ℕ Status → FilerAggregate P → Type 0
  GrowsAggregate v more old result new = (layout : Layout) (caller : Caller) (moment : Moment) → v < length layout.volumes
      → RunsOnAll layout (aggregate_lens (aggregate_of layout v))
      (task_under (Aggregate (aggregate_of layout v)) (Ask (types.Grow v more) caller) moment)
      (aggregate_set layout (aggregate_of layout v) old) (growing_outcome result) (aggregate_set layout (aggregate_of layout v) new)

-- ---- a volume on it

-- the check that fails, of a volume with this many ranges where this many are spare
abbrev pub growth_refused : Option Status → ℕ → ℕ → ℕ → Type 0
growth_refused status used spare more = option_map status_of status ≡ grow_refusal used spare more

module _ {P : Type 0} where
  -- what has happened, by the definitions: by whatever layout has the volume
  pub record DoneInAggregate (v more : ℕ) (old : FilerAggregate P) (result : Result ℕ Status) (new : FilerAggregate P) : Type 0 where
    pub told : (layout : Layout) → v < length layout.volumes
        → answer_of (Grow result) ≡ (grow_aggregate v more (aggregate_set layout (aggregate_of layout v) old)).answer
    pub set : (layout : Layout) → v < length layout.volumes
        → aggregate_set layout (aggregate_of layout v) new ≡ (grow_aggregate v more (aggregate_set layout (aggregate_of layout v) old)).set
    pub kept : OnErr result (new ≡ old)
    pub alike : aggregate_alike old new

  -- what it comes to on a volume, where this many ranges are spare
  abbrev pub VolumeGrows : ℕ → ℕ → FilerVolume P → Result ℕ Status → FilerVolume P → Type 0
  VolumeGrows spare more old (Err status) new = growth_refused (Some status) (ranges_used (vbn_set old.vbn)) spare more × (new ≡ old)
  VolumeGrows spare more old (Ok total) new =
      growth_refused None (ranges_used (vbn_set old.vbn)) spare more
      × (total ≡ old.logical.own.dead.range_blocks * (ranges_used (vbn_set old.vbn) + more))
      × (new.logical ≡ old.logical)
      × (vbn_set new.vbn ≡ first_in_use (ranges_used (vbn_set old.vbn) + more) (vbn_set old.vbn))
      × volume_alike old new

  -- and on the volume in a place
  abbrev pub PlaceGrows : ℕ → ℕ → Option (FilerVolume P) → Result ℕ Status → Option (FilerVolume P) → Type 0
  PlaceGrows spare more None result new = ⊥
  PlaceGrows spare more (Some old) result None = ⊥
  PlaceGrows spare more (Some old) result (Some new) = VolumeGrows spare more old result new

  -- a place has a volume with its ranges
  abbrev pub HasRangesIn : Option (FilerVolume P) → Type 0
  HasRangesIn None = ⊥
  HasRangesIn (Some held) = HasRanges held.vbn
