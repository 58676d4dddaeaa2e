-- What is in the parcels of a filer, by kind of node (our profile).
use Rattle.std.specs.Prelude.{ℕ, []}
use Rattle.std.specs.FinMap as maps
use Rattle.std.specs.FinSet as sets
use Rattle.nfs_model.specs.Parts.{most_ranges}
use Rattle.parcels.specs.declared.family.Parcel.{Parcel}
use Rattle.nfs_model.specs.volume.Stripes.{StripeValue, empty_stripe}
use Rattle.nfs_model.specs.volume.Ranges.{RangeValue, unused_range, no_dead}
use Rattle.nfs_model.specs.volume.Logical.{LogicalValue}

-- A Range has the numbers that are free in it, a Stripe cards and blocks, Logical the rest of what calls see of a volume, an
-- Aggregate its spare ranges. Vbn, Volume and Serial have nothing of their own. P is a family of parcel types with these values.
abbrev pub FilerParcel : Type 0 → Type 0
FilerParcel P = Parcel P RangeValue (Unit {0}) StripeValue LogicalValue (Unit {0}) ℕ (Unit {0})

-- ---- what stands where a node has no parcel of its kind, so that the words below are of all parcels

-- with a number that no range has
abbrev pub no_range : RangeValue
no_range = unused_range 1024 most_ranges

abbrev pub no_stripe : StripeValue
no_stripe = empty_stripe [] 0 0

abbrev pub no_logical : LogicalValue
no_logical = record {
  verifier = [];
  stripes = 0;
  largest = 0;
  most_inodes = 0;
  most_steps = 0;
  inodes = record { next = 0; used = 0; inodes = maps.empty };
  directories = maps.empty;
  texts = maps.empty;
  stock = sets.empty;
  dead = no_dead 1024;
  memos = [];
}
