-- Blocks that are put down are nowhere else: what follows from the partition of their volume with their batch in a hand.
use Rattle.std.proofs.Common.{◌≡◌, ℕ, zero, suc, ◌+◌, ◌*◌, ◌<◌, nat_lt, ◌≤◌, ◌||◌, Bool, true}
use Rattle.std.proofs.Common.{false, List, [], ◌∷◌, length, refl, sym, ap, ◌∙◌, arith, eq-eqb}
use Rattle.std.specs.Prelude.{◌==◌, if◌then◌else◌, slice_index_or}
use Rattle.std.proofs.lemmas.Bool.Decides.{nat_tests}
use Rattle.std.proofs.lemmas.List.{get_or-set_same}
use Rattle.std.specs.List.{AllByRecursion}
use Rattle.std.specs.Ordering.{nat_cmp}
use Rattle.std.specs.Cmp.{nat_cmp_total}
use Rattle.std.specs.FinSet as sets
use Rattle.std.specs.FinSet.{FinSet, contains, from_list, contains-empty, contains-union}
use Rattle.nfs_model.specs.Parts.{Fresh, Dead, IsBatch, one_if, times_listed, most_ranges}
use Rattle.nfs_laws.specs.lemmas.Counting.{contains_listed}
use Rattle.depot_rule.specs.Sums.{total}
use Rattle.nfs_model.specs.volume.Ranges.{RangeValue, MayBeGiven, given, with_numbers}
use Rattle.filer_state.specs.state.Contents.{VolumeContents}
use Rattle.filer_state.specs.state.Lenses.{LogicalSet, range_lens, logical_lens}
use Rattle.filer_state.specs.state.Parcels.{no_range}
use Rattle.filer_state.specs.state.Partition.{times_in_hand}
use Rattle.filer_state.specs.state.Promises.{HasVolume}
use Rattle.filer_state.specs.state.Tree.{ranges_used}
use Rattle.filer_state.specs.state.WellFormed.{range_at}
use Rattle.filer_state.specs.laws.lemmas.Freeing.{free-right}

-- each number of a list fails a test
all-apart : (test : ℕ → Bool) (blocks : List ℕ) → ((n : ℕ) → 0 < times_listed n blocks → test n ≡ false) → AllByRecursion (λ b. test b ≡ false) blocks
all-apart test [] none = tt
all-apart test (b ∷ blocks) none =
    let here : one_if (b == b) ≡ 1 = ap one_if (eq-eqb b b refl) in
    (none b (omega (arith, here)), all-apart test blocks (λ n some. none n (omega (arith, some))))

-- one at most, and one is there
not-both : (b : Bool) (n t : ℕ) → one_if b + n ≤ t → t ≤ 1 → 0 < n → b ≡ false
not-both true n t sum most some = absurd (omega (arith, sum, most, some))
not-both false n t sum most some = refl

one-at-most : (b : Bool) → one_if b ≤ 1
one-at-most true = omega arith
one-at-most false = omega arith

summand : {A : Type 0} (f : A → ℕ) (xs : List A) (i : ℕ) (d : A) → i < length xs → f (slice_index_or xs i d) ≤ total f xs
summand f [] i d less = absurd (omega arith)
summand f (x ∷ xs) zero d less = omega arith
summand f (x ∷ xs) (suc i) d less = let rest = summand f xs i d (omega arith) in omega arith

-- a number that is listed is in a union with the list
sure : (n : ℕ) → 0 < n → nat_lt 0 n ≡ true
sure n some = grind (arith, nat_tests)

either : (a b : Bool) → b ≡ true → (a || b) ≡ false → ⊥
either true b e gone = cc
either false b e gone = let bad : true ≡ false = sym e ∙ gone in cc

-- ---- a fresh batch

-- none of it is in the stock
pub not-in-stock : (v : ℕ) (blocks : List ℕ) (set : LogicalSet) → HasVolume v logical_lens (Fresh v blocks ∷ []) set
    → AllByRecursion (λ b. contains set.own.stock b ≡ false) blocks
not-in-stock v blocks set h = all-apart (contains set.own.stock) blocks (λ n some. in-hand n some)
  where
    in-hand : (n : ℕ) → 0 < times_listed n blocks → contains set.own.stock n ≡ false
    in-hand n some =
        let p : VolumeContents = h.0 in
        let once = h.8.partition n in
        let weighed = h.7 (times_in_hand p.number n) in
        let mine : times_in_hand p.number n (Fresh v blocks) ≡ times_listed n blocks =
        ap (λ (b : Bool). times_listed n (if b then blocks else [])) (eq-eqb p.number v h.5) in
        let most = one-at-most (nat_lt n (p.logical.dead.range_blocks * ranges_used p.ranges)) in
        ap (λ (s : LogicalSet). contains s.own.stock n) (sym h.4)
        ∙ not-both (contains p.logical.stock n) (times_listed n blocks)
        (one_if (nat_lt n (p.logical.dead.range_blocks * ranges_used p.ranges))) (omega (arith, once, weighed, mine)) most some

-- ---- a dead one

module _ (v : ℕ) (blocks : List ℕ) (x : RangeValue) (some : 0 < length blocks)
    (batch : IsBatch x.range_blocks x.number blocks) (less : x.number < most_ranges) (h : HasVolume v (range_lens x.number) (Dead v blocks ∷ []) x) where
  abbrev p : VolumeContents
  p = h.0

  there : x.number < length p.ranges
  there = let size = h.8.well_formed.sixteen in omega (arith, size, less)

  -- none of it is free
  not-free : (n : ℕ) → 0 < times_listed n blocks → contains x.free n ≡ false
  not-free n listed =
      let once = h.8.partition n in
      let weighed = h.7 (times_in_hand p.number n) in
      let mine : times_in_hand p.number n (Dead v blocks) ≡ times_listed n blocks =
      ap (λ (b : Bool). times_listed n (if b then blocks else [])) (eq-eqb p.number v h.5) in
      let most = one-at-most (nat_lt n (p.logical.dead.range_blocks * ranges_used p.ranges)) in
      let one = summand (λ (y : RangeValue). one_if (contains y.free n)) p.ranges x.number no_range there in
      ap (λ (y : RangeValue). contains y.free n) (sym h.4)
      ∙ not-both (contains (range_at p.ranges x.number).free n) (times_listed n blocks) (one_if (nat_lt n (p.logical.dead.range_blocks * ranges_used p.ranges)))
      (omega (arith, once, weighed, mine, one)) most listed

  -- the range is in use, since with the batch it has free blocks and is sound
  is-used : (b : Bool) → x.is_used ≡ b → b ≡ true
  is-used true e = refl
  is-used false e = absurd (by blocks some nothing)
    where
      after : VolumeContents
      after = (range_lens x.number).put (given blocks x) p

      nothing : with_numbers blocks x.free ≡ sets.empty
      nothing =
          let right = free-right v x.number less blocks some x batch p h.1 h.2 h.3 h.4 h.5 h.8 h.7 in
          let fits = right.1.well_formed.ranges x.number (let size = right.1.well_formed.sixteen in omega (arith, size, less)) in
          let at = get_or-set_same p.ranges x.number (given blocks x) no_range there in
          ap (λ (y : RangeValue). y.free) (sym at) ∙ fits.free.used (ap (λ (y : RangeValue). y.is_used) at ∙ e)

      by : (bs : List ℕ) → 0 < length bs → with_numbers bs x.free ≡ sets.empty → ⊥
      by [] none e = absurd (omega (arith, none))
      by (b ∷ bs) most e =
          let first : one_if (b == b) ≡ 1 = ap one_if (eq-eqb b b refl) in
          let listed : 0 < times_listed b (b ∷ bs) = omega (arith, first) in
          let is : contains (with_numbers (b ∷ bs) x.free) b ≡ (contains x.free b || contains (from_list {R = nat_cmp} (b ∷ bs)) b) =
          contains-union nat_cmp_total x.free (from_list (b ∷ bs)) b in
          either (contains x.free b) (contains (from_list {R = nat_cmp} (b ∷ bs)) b) (contains_listed (b ∷ bs) b ∙ sure (times_listed b (b ∷ bs)) listed)
          (sym is ∙ ap (λ (s : FinSet nat_cmp). contains s b) e ∙ contains-empty nat_cmp b)

  -- it may be given back
  pub may-be-given : MayBeGiven blocks x
  may-be-given = record { used = is-used x.is_used refl; batch = batch; apart = all-apart (contains x.free) blocks not-free }
