-- A batch of dead blocks given back to its range.
use Rattle.std.proofs.Common.{◌≡◌, ℕ, zero, suc, ◌+◌, ◌*◌, ◌/◌, ◌<◌, ◌≤◌, ◌||◌, Bool, true, false, List, [], ◌∷◌, length, Some}
use Rattle.std.proofs.Common.{refl, sym, ap, ◌∙◌, subst, arith, eq-eqb, nat_lt}
use Rattle.std.specs.Prelude.{◌==◌, if◌then◌else◌, slice_set, slice_index_or}
use Rattle.std.proofs.lemmas.Bool.{eqb-true, lt-ltb, ltb-true}
use Rattle.std.proofs.lemmas.Bool.Decides.{nat_tests}
use Rattle.std.proofs.lemmas.List.{get_or-set_same}
use Rattle.std.specs.List.{AllByRecursion}
use Rattle.std.specs.Ordering.{nat_cmp}
use Rattle.std.specs.Cmp.{nat_cmp_total}
use Rattle.std.specs.FinMap.{nat_cmp-IsAntisymmetric}
use Rattle.std.specs.FinSet.{contains, union, from_list, contains-union, same_set}
use Rattle.nfs_model.specs.Parts.{Hand, Empty, Dead, IsBatch, one_if, times_listed}
use Rattle.nfs_laws.specs.lemmas.Counting.{batch_comes, contains_listed}
use Rattle.depot_rule.specs.Sums.{total}
use Rattle.nfs_model.specs.volume.Ranges.{RangeValue, given}
use Rattle.filer_state.specs.state.Contents.{VolumeContents}
use Rattle.filer_state.specs.state.Parcels.{no_range}
use Rattle.filer_state.specs.state.Tree.{ranges_used, volume_of}
use Rattle.filer_state.specs.state.WellFormed.{RangeFits, range_at}
use Rattle.filer_state.specs.state.Partition.{free_in, parts_of, times_in_hand}
use Rattle.filer_state.specs.state.Sound.{IsSound}
use Rattle.filer_state.specs.state.Jobs.{Free, Gave}
use Rattle.filer_state.specs.state.Lenses.{range_lens}
use Rattle.filer_state.specs.state.Promises.{HandsMove}
use Rattle.filer_state.specs.state.Calls.{DoesInnerOn}
use Rattle.filer_state.specs.state.Running.{InnerRunsOn}
use Rattle.filer_state.specs.laws.lemmas.Parts.{used-put, range-sound}
use Rattle.filer_state.specs.laws.lemmas.Sizes.{quotient-below, size-some}
use Rattle.filer_state.specs.laws.lemmas.Fetching.{free-at, free-other}

-- one summand
total-at : {A : Type 0} (f : A → ℕ) (xs : List A) (i : ℕ) (d : A) → i < length xs → f (slice_index_or xs i d) ≤ total f xs
total-at f [] i d less = absurd (omega arith)
total-at f (x ∷ xs) zero d less = omega arith
total-at f (x ∷ xs) (suc i) d less = let rest = total-at f xs i d (omega arith) in omega arith

-- a number of a list, of which each is of a range
listed-of : (size r n : ℕ) (blocks : List ℕ) → AllByRecursion (λ b. b / size ≡ r) blocks → 0 < times_listed n blocks → n / size ≡ r
listed-of size r n [] all some = absurd (omega arith)
listed-of size r n (b ∷ blocks) all some = by (b == n) refl some (λ more. listed-of size r n blocks all.1 more)
  where
    by : (c : Bool) → (b == n) ≡ c → 0 < one_if c + times_listed n blocks → (0 < times_listed n blocks → n / size ≡ r) → n / size ≡ r
    by true e some rest = ap (λ (k : ℕ). k / size) (sym (eqb-true b n e)) ∙ all.0
    by false e some rest = rest (omega arith)

either : (a b : Bool) → (a || b) ≡ true → (A : Type 0) → (a ≡ true → A) → (b ≡ true → A) → A
either true b e A f g = f refl
either false b e A f g = g e

or-true : (a b : Bool) → b ≡ true → (a || b) ≡ true
or-true true b e = refl
or-true false b e = e

or-not : (a b : Bool) → b ≡ false → (a || b) ≡ a
or-not true b e = refl
or-not false b e = e

module _ (p : VolumeContents) (r : ℕ) (on : r < length p.ranges) (v : ℕ) (numbered : p.number ≡ v) (blocks : List ℕ) (some : 0 < length blocks)
    (batch : IsBatch p.logical.dead.range_blocks r blocks) (hands hands' : List Hand) (made : ℕ) (sound : IsSound p hands made)
    (moved : HandsMove [] (Dead v blocks ∷ []) hands hands') where
  abbrev x : RangeValue
  x = range_at p.ranges r

  abbrev next : RangeValue
  next = given blocks x

  abbrev after : VolumeContents
  after = (range_lens r).put next p

  weighed : (n : ℕ) → times_listed n blocks + total (times_in_hand p.number n) hands' ≡ total (times_in_hand p.number n) hands
  weighed n =
      let e = moved (times_in_hand p.number n) in
      let mine : times_listed n (if p.number == v then blocks else []) ≡ times_listed n blocks =
      ap (λ (c : Bool). times_listed n (if c then blocks else [])) (eq-eqb p.number v numbered) in
      omega (arith, e, mine)

  at-most : (b : Bool) → one_if b ≤ 1
  at-most true = omega arith
  at-most false = omega arith

  -- what is given back isn't free, and is of a range in use
  apart : (n : ℕ) → one_if (contains x.free n) + times_listed n blocks ≤ one_if (nat_lt n (p.logical.dead.range_blocks * ranges_used p.ranges))
  apart n =
      let once = sound.partition n in
      let mine = weighed n in
      let here = total-at (λ (y : RangeValue). one_if (contains y.free n)) p.ranges r no_range on in
      omega (arith, once, mine, here)

  in-use : x.is_used ≡ true
  in-use = (sound.well_formed.ranges r on).in_use ∙ by blocks some batch.of_range (λ n. let a = apart n in
      let t : times_listed n blocks ≤ one_if (nat_lt n (p.logical.dead.range_blocks * ranges_used p.ranges)) = omega arith in t)
    where
      below : (b : ℕ) (c : Bool) → nat_lt b (p.logical.dead.range_blocks * ranges_used p.ranges) ≡ c → 1 ≤ one_if c
          → b / p.logical.dead.range_blocks ≡ r
          → nat_lt r (ranges_used p.ranges) ≡ true
      below b true e l of =
          let in_some = quotient-below p.logical.dead.range_blocks (ranges_used p.ranges) b (size-some p.logical.dead.range_blocks sound.well_formed.size)
          (ltb-true b (p.logical.dead.range_blocks * ranges_used p.ranges) e) in
          lt-ltb r (ranges_used p.ranges) (omega (arith, in_some, of))
      below b false e l of = absurd (omega arith)

      by : (bs : List ℕ) → 0 < length bs → AllByRecursion (λ b. b / p.logical.dead.range_blocks ≡ r) bs
          → ((n : ℕ) → times_listed n bs ≤ one_if (nat_lt n (p.logical.dead.range_blocks * ranges_used p.ranges))) → nat_lt r (ranges_used p.ranges) ≡ true
      by [] less all most = absurd (omega arith)
      by (b ∷ bs) less all most =
          let first : one_if (b == b) ≡ 1 = ap one_if (eq-eqb b b refl) in
          let m = most b in
          below b (nat_lt b (p.logical.dead.range_blocks * ranges_used p.ranges)) refl (omega (arith, first, m)) all.0

  of-range : (n : ℕ) → contains (from_list {R = nat_cmp} blocks) n ≡ true → n / p.logical.dead.range_blocks ≡ r
  of-range n e = let t : nat_lt 0 (times_listed n blocks) ≡ true = sym (contains_listed blocks n) ∙ e in
      listed-of p.logical.dead.range_blocks r n blocks batch.of_range (grind (arith, nat_tests))

  fits-next : RangeFits p.logical.dead.range_blocks (ranges_used p.ranges) r next
  fits-next =
      let fits = sound.well_formed.ranges r on in record {
        blocks = fits.blocks;
        number = fits.number;
        in_use = fits.in_use;
        free = record {
          size = fits.free.size;
          own = λ b e. either (contains x.free b) (contains (from_list {R = nat_cmp} blocks) b)
              (sym (contains-union nat_cmp_total x.free (from_list blocks) b) ∙ e) (b / x.range_blocks ≡ x.number)
              (λ h. fits.free.own b h) (λ h. ap (λ (k : ℕ). b / k) fits.blocks ∙ of-range b h ∙ sym fits.number);
          used = λ e. absurd (let bad : true ≡ false = sym in-use ∙ e in cc);
        };
      }

  sound-next : IsSound after hands' (made + 1)
  sound-next = range-sound p r next on fits-next hands hands' made sound (λ n.
      let mine = weighed n in
      let a = apart n in
      let most = at-most (nat_lt n (p.logical.dead.range_blocks * ranges_used p.ranges)) in
      let comes = batch_comes x.free blocks n (omega (arith, a, most)) in
      omega (arith, mine, comes))

  free-next : free_in (slice_set p.ranges r next) ≡ union (free_in p.ranges) (from_list blocks)
  free-next = same_set nat_cmp_total nat_cmp-IsAntisymmetric _ _ (λ n. by n (contains (from_list {R = nat_cmp} blocks) n) refl)
    where
      by : (n : ℕ) (b : Bool) → contains (from_list {R = nat_cmp} blocks) n ≡ b
          → contains (free_in (slice_set p.ranges r next)) n ≡ contains (union (free_in p.ranges) (from_list blocks)) n
      by n true e =
          let long = sound-next.well_formed.sixteen in
          let size = sound.well_formed.sixteen in
          free-at after sound-next.well_formed r (omega arith) n (of-range n e)
          ∙ ap (λ (y : RangeValue). contains y.free n) (get_or-set_same p.ranges r next no_range on)
          ∙ contains-union nat_cmp_total x.free (from_list blocks) n
          ∙ or-true (contains x.free n) (contains (from_list {R = nat_cmp} blocks) n) e
          ∙ sym (contains-union nat_cmp_total (free_in p.ranges) (from_list blocks) n
          ∙ or-true (contains (free_in p.ranges) n) (contains (from_list {R = nat_cmp} blocks) n) e)
      by n false e =
          free-other p.ranges r next n (contains-union nat_cmp_total x.free (from_list blocks) n
          ∙ or-not (contains x.free n) (contains (from_list {R = nat_cmp} blocks) n) e)
          ∙ sym (contains-union nat_cmp_total (free_in p.ranges) (from_list blocks) n
          ∙ or-not (contains (free_in p.ranges) n) (contains (from_list {R = nat_cmp} blocks) n) e)

  does-free : DoesInnerOn (Free v r) p (Gave (Dead v blocks)) after
  does-free = (
    λ j. record (volume_of p) { total = p.logical.dead.range_blocks * used-put p.ranges r next refl j },
    (refl, (some, batch, (refl, λ j. record { parts = record (parts_of p) { free = free-next j }; hand = Empty }))),
  )

pub free-right : (v r : ℕ) → r < 16 → (blocks : List ℕ) → 0 < length blocks → (x : RangeValue) → IsBatch x.range_blocks r blocks
    → InnerRunsOn v (range_lens r) (Free v r) x (Some (Gave (Dead v blocks))) (given blocks x)
free-right v r less blocks some x batch p hands hands' made has numbered sound moved =
    let on : r < length p.ranges = (let size = sound.well_formed.sixteen in omega arith) in
    let of_volume : IsBatch p.logical.dead.range_blocks r blocks =
    subst (λ (k : ℕ). IsBatch k r blocks) (ap (λ (y : RangeValue). y.range_blocks) (sym has) ∙ (sound.well_formed.ranges r on).blocks) batch in
    subst (λ (y : RangeValue). DoesInnerOn (Free v r) p (Gave (Dead v blocks)) ((range_lens r).put (given blocks y) p)
    × IsSound ((range_lens r).put (given blocks y) p) hands' (made + 1)) has (
      does-free p r on v numbered blocks some of_volume hands hands' made sound moved,
      sound-next p r on v numbered blocks some of_volume hands hands' made sound moved,
    )
