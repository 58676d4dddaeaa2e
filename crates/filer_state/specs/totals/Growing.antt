-- What GROW of the admin program comes to, by what is under an Aggregate (our profile).
use Rattle.std.specs.Prelude.{ℕ, zero, suc, ◌+◌, ◌-◌, ◌*◌, ◌==◌, nat_lt, List, [], ◌∷◌, Option, Some, None, slice_get, slice_set}
use Rattle.std.specs.Prelude.{if◌then◌else◌}
use Rattle.nfs_model.specs.Types.{Status, NoEntry, Invalid, TooBig, NoSpace, Answer, GrowDone, Failed}
use Rattle.nfs_model.specs.Parts.{most_ranges}
use Rattle.nfs_model.specs.volume.Ranges.{RangeValue, put_in_use}
use Rattle.filer_state.specs.state.Lenses.{VolumeSet, AggregateSet}
use Rattle.filer_state.specs.state.Tree.{ranges_used}

-- the first n ranges are in use: those that weren't come into use, all their numbers free
abbrev pub first_in_use : ℕ → List RangeValue → List RangeValue
first_in_use zero ranges = ranges
first_in_use (suc n) [] = []
first_in_use (suc n) (r ∷ ranges) = put_in_use r ∷ first_in_use n ranges

-- a volume in which this many are in use
abbrev pub with_ranges : ℕ → VolumeSet → VolumeSet
with_ranges n volume = record volume { ranges = first_in_use n volume.ranges }

-- Why more ranges don't come into use in a volume that has this many, on an aggregate that has this many spare ones: INVAL where none
-- are asked for, FBIG where the volume would have more than 16, NOSPC where more are asked for than are spare.
abbrev pub grow_refusal : ℕ → ℕ → ℕ → Option Status
grow_refusal used spare more =
    if more == 0 then Some Invalid
    else if nat_lt most_ranges (used + more) then Some TooBig
    else if nat_lt spare more then Some NoSpace
    else None

-- an answer, and what is under the Aggregate after it
pub record AggregateAnswer : Type 0 where
  pub answer : Answer
  pub set : AggregateSet

-- the new total of a volume's block numbers is told; the ranges that came into use are spare no more
abbrev pub grow_checked : ℕ → ℕ → VolumeSet → Option Status → AggregateSet → AggregateAnswer
grow_checked v more volume (Some status) s = record { answer = Failed status 0; set = s }
grow_checked v more volume None s = record {
  answer = GrowDone (volume.logical.own.dead.range_blocks * (ranges_used volume.ranges + more));
  set = record {
    spare = s.spare - more;
    volumes = slice_set s.volumes v (Some (with_ranges (ranges_used volume.ranges + more) volume));
  };
}

-- of a volume on the aggregate; else it isn't there
abbrev pub grow_there : ℕ → ℕ → Option (Option VolumeSet) → AggregateSet → AggregateAnswer
grow_there v more None s = record { answer = Failed NoEntry 0; set = s }
grow_there v more (Some None) s = record { answer = Failed NoEntry 0; set = s }
grow_there v more (Some (Some volume)) s = grow_checked v more volume (grow_refusal (ranges_used volume.ranges) s.spare more) s

-- this many more ranges for the volume of a number
abbrev pub grow_aggregate : ℕ → ℕ → AggregateSet → AggregateAnswer
grow_aggregate v more s = grow_there v more (slice_get s.volumes v) s
