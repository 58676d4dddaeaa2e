-- Block numbers that leave the dead of a volume, where there are no others.
use Rattle.std.proofs.Common.{◌≡◌, ℕ, suc, ◌<◌, true, List, [], ◌∷◌, take, map, Some, refl, sym, ap, ◌∙◌, arith, inr}
use Rattle.std.specs.Ordering.{nat_cmp}
use Rattle.std.specs.List.{range_with_len}
use Rattle.std.specs.FinSet as sets
use Rattle.std.specs.FinSet.{FinSet, contains, len, len-empty}
use Rattle.nfs_model.specs.Moves.{in_range, batch, first_filled, lowest_batch}
use Rattle.nfs_model.specs.Parts.{most_carried, most_ranges}
use Rattle.depot_rule.specs.Sums.{total}
use Rattle.nfs_model.specs.volume.Logical.{LogicalValue}
use Rattle.nfs_model.specs.volume.Ranges.{RangeValue, DeadValue, dead_taken}
use Rattle.vbn_ranges.specs.Batch.{first_of}
use Rattle.filer_state.specs.state.Lenses.{VolumeSet}
use Rattle.filer_state.specs.state.Sets.{FilerVolume, FilerVbn, vbn_set, volume_before, volume_after}
use Rattle.filer_state.specs.bytes.WritingUp.{for_holes}
use Rattle.service_data.specs.Parts.{NoneFree, LeavesOne}
use Rattle.service_data.proofs.Parted.{free-head}

-- the first of the lowest batch is there
first-there : (size : ℕ) (s : FinSet nat_cmp) (x : ℕ) (ranges : List ℕ) → Some x ≡ first_of (first_filled (map (λ r. batch size r s) ranges))
    → contains s x ≡ true
first-there size s x [] e = absurd cc
first-there size s x (r ∷ ranges) e = by (in_range size r s) refl e (first-there size s x ranges)
  where
    by : (l : List ℕ) → in_range size r s ≡ l → Some x ≡ first_of (first_filled (take most_carried l ∷ map (λ r. batch size r s) ranges))
        → (Some x ≡ first_of (first_filled (map (λ r. batch size r s) ranges)) → contains s x ≡ true) → contains s x ≡ true
    by [] h e rest = rest e
    by (y ∷ ys) h e rest = let same : x ≡ y = cc in ap (contains s) same ∙ free-head size r s y ys h

pub lowest-there : (size : ℕ) (s : FinSet nat_cmp) (x : ℕ) → Some x ≡ first_of (lowest_batch size s) → contains s x ≡ true
unfolding lowest_batch
lowest-there size s x e = first-there size s x (range_with_len 0 most_ranges) e

no-count : (ranges : List RangeValue) → NoneFree ranges → total (λ (r : RangeValue). len r.free) ranges ≡ 0
no-count [] none = refl
no-count (r ∷ ranges) none =
    let here : len r.free ≡ 0 = ap len (none 0 (omega arith)) ∙ len-empty nat_cmp in
    let rest = no-count ranges (λ i less. none (suc i) (omega (arith, less))) in
    omega (arith, here, rest)

-- there is no number for a hole
pub none-for-holes : (set : VolumeSet) → set.logical.own.stock ≡ sets.empty → NoneFree set.ranges → set.logical.own.dead.blocks ≡ sets.empty
    → 0 < for_holes set → ⊥
none-for-holes set stock free dead some =
    let no_stock : len set.logical.own.stock ≡ 0 = ap len stock ∙ len-empty nat_cmp in
    let no_dead : len set.logical.own.dead.blocks ≡ 0 = ap len dead ∙ len-empty nat_cmp in
    let no_free = no-count set.ranges free in
    absurd (omega (arith, some, no_stock, no_dead, no_free))

pub leaves-dead : {P : Type 0} (held : FilerVolume P) (mid : LogicalValue) (vbn : FilerVbn P) (n : ℕ) (dead : DeadValue) → mid ≡ held.logical.own
    → vbn ≡ held.vbn → held.logical.own.stock ≡ sets.empty → NoneFree (vbn_set held.vbn) → contains mid.dead.blocks n ≡ true
    → dead ≡ dead_taken (n ∷ []) mid.dead
    → LeavesOne n (volume_before held)
    (volume_after held (record held { logical = record held.logical { own = record mid { dead = dead } }; vbn = vbn }))
leaves-dead held mid vbn n dead same kept no_stock none_free there left = inr (inr (record {
  no_stock = no_stock;
  none_free = none_free;
  there = ap (λ (l : LogicalValue). contains l.dead.blocks n) (sym same) ∙ there;
  left = λ j. record {
    logical = record {
      own = record (same j) { dead = (left ∙ ap (λ (l : LogicalValue). dead_taken (n ∷ []) l.dead) same) j };
      stripes = (volume_before held).logical.stripes;
    };
    ranges = vbn_set (kept j);
  };
}))
