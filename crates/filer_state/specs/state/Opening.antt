-- The parcels as a run begins, by the layout and the verifier: each volume has its root alone, and all its numbers below total
-- are free (our profile).
use Rattle.std.specs.Prelude.{◌≡◌, ℕ, nat_lt, List, [], ◌∷◌, Option, Some, None, slice_get, slice_index_or, replicate, if◌then◌else◌}
use Rattle.std.specs.FinMap.{empty, from_sorted}
use Rattle.std.specs.FinSet as sets
use Rattle.nfs_model.specs.Types.{Moment, Ownership}
use Rattle.nfs_model.specs.Tree as trees
use Rattle.nfs_model.specs.Tree.{Layout, VolumeLayout, Affinity, stripes_of, range_blocks_of}
use Rattle.affinity.specs.Tree.{IsNode}
use Rattle.affinity.specs.Largest.{largest_of, inodes_of, steps_of, begun_of, root_of, remembered_of}
use Rattle.parcels.specs.declared.family.Parcel.TheVariants.{Range, Vbn, Stripe, Logical, Volume, Aggregate, Serial}
use Rattle.nfs_model.specs.volume.Directories.{empty_directory}
use Rattle.nfs_model.specs.volume.Inodes.{opening_inodes}
use Rattle.nfs_model.specs.volume.Logical.{LogicalValue}
use Rattle.nfs_model.specs.volume.Stripes.{StripeValue, OfDirectory, empty_stripe}
use Rattle.nfs_model.specs.volume.Ranges.{RangeValue, unused_range, put_in_use, no_dead}
use Rattle.filer_state.specs.state.Parcels.{FilerParcel}
use Rattle.filer_state.specs.state.Contents.{at}
use Rattle.filer_state.specs.state.Names.{root}

-- of a volume of this many stripes, with this largest size, this many inodes and steps, a root of an owner, begun at a moment, ranges
-- of this many blocks, and this many places for replies that are remembered
abbrev pub opening_logical : List ℕ → (stripes largest most_inodes most_steps : ℕ) → Ownership → Moment → (size remembered : ℕ) → LogicalValue
opening_logical verifier stripes largest most_inodes most_steps owner begun size remembered = record {
  verifier = verifier;
  stripes = stripes;
  largest = largest;
  most_inodes = most_inodes;
  most_steps = most_steps;
  inodes = opening_inodes owner begun;
  directories = from_sorted ((root, empty_directory) ∷ []);
  texts = empty;
  stock = sets.empty;
  dead = no_dead size;
  memos = replicate remembered None;
}

abbrev pub opening_stripe : List ℕ → ℕ → ℕ → StripeValue
opening_stripe verifier stripes largest = record (empty_stripe verifier stripes largest) { cards = from_sorted ((root, OfDirectory) ∷ []) }

-- the r-th range, where a range has this many blocks and this many are in use
abbrev pub opening_range : (size used r : ℕ) → RangeValue
opening_range size used r = if nat_lt r used then put_in_use (unused_range size r) else unused_range size r

-- the ranges of a volume that are in use as a run begins
abbrev pub ranges_in : Option VolumeLayout → ℕ
ranges_in None = 0
ranges_in (Some v) = v.ranges

-- the parcel of a node
abbrev pub opening_parcel : {P : Type 0} → Layout → List ℕ → Affinity → FilerParcel P
opening_parcel layout verifier trees.Serial = Serial tt
opening_parcel layout verifier (trees.Aggregate a) = Aggregate (slice_index_or layout.spare a 0)
opening_parcel layout verifier (trees.Volume v) = Volume tt
opening_parcel layout verifier (trees.Logical v) =
    Logical (opening_logical verifier (stripes_of layout v) (largest_of layout v) (inodes_of layout v) (steps_of layout v)
    (root_of layout v) (begun_of layout v) (range_blocks_of layout v) (remembered_of layout v))
opening_parcel layout verifier (trees.Stripe v i) = Stripe (opening_stripe verifier (stripes_of layout v) (largest_of layout v))
opening_parcel layout verifier (trees.Vbn v) = Vbn tt
opening_parcel layout verifier (trees.Range v r) = Range (opening_range (range_blocks_of layout v) (ranges_in (slice_get layout.volumes v)) r)

-- parcels by number, each as its node's begins
abbrev pub AreOpening : {P : Type 0} → Layout → List ℕ → (ℕ → Option (FilerParcel P)) → Type 0
AreOpening layout verifier f = (node : Affinity) → IsNode layout node → at layout f node ≡ Some (opening_parcel layout verifier node)
