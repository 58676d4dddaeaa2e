-- A batch fetched from a range, and a dead one given back to it.
use Rattle.std.proofs.Common.{◌≡◌, ℕ, zero, suc, ◌+◌, ◌*◌, ◌/◌, ◌<◌, ◌≤◌, ◌&&◌, ◌||◌, not, Bool, true, false, cond, List, [], ◌∷◌, length, take, Some, None}
use Rattle.std.proofs.Common.{refl, sym, ap, ◌∙◌, subst, arith, eq-eqb, nat_lt}
use Rattle.std.specs.Prelude.{◌==◌, if◌then◌else◌, slice_set}
use Rattle.std.proofs.lemmas.Bool.Decides.{nat_tests}
use Rattle.std.proofs.lemmas.List.{set-get_or, get_or-set_same}
use Rattle.std.specs.List.{filter, range_with_len}
use Rattle.std.specs.Ordering.{nat_cmp}
use Rattle.std.specs.Cmp.{nat_cmp_total}
use Rattle.std.specs.FinMap.{nat_cmp-IsAntisymmetric}
use Rattle.std.specs.FinSet.{FinSet, contains, difference, from_list, contains-difference, contains-union, contains-empty, same_set}
use Rattle.nfs_model.specs.Parts.{Hand, batch_in, one_if, times_listed, most_carried}
use Rattle.nfs_model.specs.Moves.{in_range, batch, fresh_hand}
use Rattle.nfs_laws.specs.lemmas.Counting.{batch_within, batch_leaves, contains_listed}
use Rattle.depot_rule.specs.Sums.{total}
use Rattle.nfs_model.specs.volume.Ranges.{RangeValue, taken}
use Rattle.filer_state.specs.state.Contents.{VolumeContents}
use Rattle.filer_state.specs.state.Parcels.{no_range}
use Rattle.filer_state.specs.state.Tree.{ranges_used, volume_of}
use Rattle.filer_state.specs.state.WellFormed.{WellFormed, RangeFits, range_at}
use Rattle.filer_state.specs.state.Partition.{free_in, parts_of, times_in_hand}
use Rattle.filer_state.specs.state.Sound.{IsSound}
use Rattle.filer_state.specs.state.Jobs.{Fetch, Took, batches_in}
use Rattle.filer_state.specs.state.Lenses.{range_lens}
use Rattle.filer_state.specs.state.Promises.{HandsMove}
use Rattle.filer_state.specs.state.Calls.{DoesInnerOn}
use Rattle.filer_state.specs.state.Running.{InnerRunsOn}
use Rattle.filer_state.specs.laws.lemmas.Parts.{used-put, range-sound}
use Rattle.filer_state.specs.laws.lemmas.Sizes.{quotient-is}
use Rattle.filer_state.specs.laws.lemmas.Steps.{sound-later}

false-where : (b : Bool) → (b ≡ true → ⊥) → b ≡ false
false-where true h = absurd (h refl)
false-where false h = refl

or-false : (a b : Bool) → b ≡ false → (a || b) ≡ a
or-false true b e = refl
or-false false b e = e

-- ---- a number is free in the range that it is of

-- the free numbers of each range are its own, from a number of ranges on
abbrev AreOwn : (size from : ℕ) → List RangeValue → Type 0
AreOwn size from ranges = (j : ℕ) → j < length ranges → (b : ℕ) → contains (range_at ranges j).free b ≡ true → b / size ≡ from + j

later-own : (size from : ℕ) (x : RangeValue) (ranges : List RangeValue) → AreOwn size from (x ∷ ranges) → AreOwn size (from + 1) ranges
later-own size from x ranges own j less b e = let at = own (suc j) (omega arith) b e in omega arith

free-before : (size from : ℕ) (ranges : List RangeValue) → AreOwn size from ranges → (n : ℕ) → n / size < from → contains (free_in ranges) n ≡ false
free-before size from [] own n below = contains-empty nat_cmp n
free-before size from (x ∷ ranges) own n below =
    let here : contains x.free n ≡ false = false-where (contains x.free n) (λ e. let at = own 0 (omega arith) n e in omega arith) in
    contains-union nat_cmp_total x.free (free_in ranges) n ∙ ap (λ (b : Bool). b || contains (free_in ranges) n) here
    ∙ free-before size (from + 1) ranges (later-own size from x ranges own) n (omega arith)

free-from : (size from : ℕ) (ranges : List RangeValue) → AreOwn size from ranges → (r : ℕ) → r < length ranges → (n : ℕ) → n / size ≡ from + r
    → contains (free_in ranges) n ≡ contains (range_at ranges r).free n
free-from size from [] own r less n of = absurd (omega arith)
free-from size from (x ∷ ranges) own zero less n of =
    contains-union nat_cmp_total x.free (free_in ranges) n
    ∙ or-false (contains x.free n) (contains (free_in ranges) n) (free-before size (from + 1) ranges (later-own size from x ranges own) n (omega arith))
free-from size from (x ∷ ranges) own (suc r) less n of =
    let here : contains x.free n ≡ false = false-where (contains x.free n) (λ e. let at = own 0 (omega arith) n e in omega arith) in
    contains-union nat_cmp_total x.free (free_in ranges) n ∙ ap (λ (b : Bool). b || contains (free_in ranges) n) here
    ∙ free-from size (from + 1) ranges (later-own size from x ranges own) r (omega arith) n (omega arith)

module _ (p : VolumeContents) (well : WellFormed p) where
  abbrev size : ℕ
  size = p.logical.dead.range_blocks

  are-own : AreOwn size 0 p.ranges
  are-own j less b e =
      let fits = well.ranges j less in
      let at : b / size ≡ j = ap (λ (k : ℕ). b / k) (sym fits.blocks) ∙ fits.free.own b e ∙ fits.number in
      omega (arith, at)

  pub free-at : (r : ℕ) → r < length p.ranges → (n : ℕ) → n / size ≡ r → contains (free_in p.ranges) n ≡ contains (range_at p.ranges r).free n
  free-at r on n of = free-from size 0 p.ranges are-own r on n (omega (arith, of))

  filter-agree : (f g : ℕ → Bool) (a k : ℕ) → ((n : ℕ) → a ≤ n → n < a + k → f n ≡ g n) → filter f (range_with_len a k) ≡ filter g (range_with_len a k)
  filter-agree f g a zero same = refl
  filter-agree f g a (suc k) same =
      let here = same a (omega arith) (omega arith) in
      let others = filter-agree f g (a + 1) k (λ n l m. same n (omega arith) (omega arith)) in
      λ j. cond (here j) (a ∷ others j) (others j)

  -- the volume's free numbers of a range are the range's
  pub in-range-at : (r : ℕ) → r < length p.ranges → in_range size r (free_in p.ranges) ≡ in_range size r (range_at p.ranges r).free
  unfolding in_range
  in-range-at r on = filter-agree (contains (free_in p.ranges)) (contains (range_at p.ranges r).free) (size * r) size
      (λ n l m. free-at r on n (quotient-is size r n l m))

-- a number that is as free in a range's place as it was
pub free-other : (ranges : List RangeValue) (r : ℕ) (x : RangeValue) (n : ℕ) → contains x.free n ≡ contains (range_at ranges r).free n
    → contains (free_in (slice_set ranges r x)) n ≡ contains (free_in ranges) n
free-other [] r x n e = refl
free-other (y ∷ ranges) zero x n e =
    contains-union nat_cmp_total x.free (free_in ranges) n ∙ ap (λ (b : Bool). b || contains (free_in ranges) n) e
    ∙ sym (contains-union nat_cmp_total y.free (free_in ranges) n)
free-other (y ∷ ranges) (suc r) x n e =
    contains-union nat_cmp_total y.free (free_in (slice_set ranges r x)) n ∙ ap (λ (b : Bool). contains y.free n || b) (free-other ranges r x n e)
    ∙ sym (contains-union nat_cmp_total y.free (free_in ranges) n)

-- ---- fetch

-- a batch has numbers of its set alone
in-batch : (size k n : ℕ) (s : FinSet nat_cmp) → contains (from_list {R = nat_cmp} (batch size k s)) n ≡ true → contains s n ≡ true
in-batch size k n s h =
    let most = batch_within size k n s in
    let some : nat_lt 0 (times_listed n (batch size k s)) ≡ true = sym (contains_listed (batch size k s) n) ∙ h in
    by (contains s n) (times_listed n (batch size k s)) most some
  where
    by : (b : Bool) (t : ℕ) → t ≤ one_if b → nat_lt 0 t ≡ true → b ≡ true
    by true t most some = refl
    by false t most some = absurd (grind (arith, nat_tests))

and-not : (a b : Bool) → b ≡ false → (a && not b) ≡ a
and-not true b e = ap not e
and-not false b e = refl

and-gone : (a b : Bool) → b ≡ true → (a && not b) ≡ false
and-gone true b e = ap not e
and-gone false b e = refl

carried-fresh : (v : ℕ) (blocks : List ℕ) → length (batch_in (fresh_hand v blocks)) ≡ length blocks
carried-fresh v [] = refl
carried-fresh v (b ∷ blocks) = refl

times-fresh : (u v n : ℕ) (blocks : List ℕ) → u ≡ v → total (times_in_hand u n) (batches_in (fresh_hand v blocks)) ≡ times_listed n blocks
times-fresh u v n [] e = refl
times-fresh u v n (b ∷ blocks) e =
    let mine : times_listed n (if u == v then b ∷ blocks else []) ≡ times_listed n (b ∷ blocks) =
    ap (λ (c : Bool). times_listed n (if c then b ∷ blocks else [])) (eq-eqb u v e) in
    omega (arith, mine)

-- the batch that is fetched of a range, and the range without it
abbrev pub fetched_of : ℕ → RangeValue → List ℕ
fetched_of r x = batch x.range_blocks r x.free

abbrev pub fetched_from : ℕ → RangeValue → RangeValue
fetched_from r x = taken (fetched_of r x) x

module _ (p : VolumeContents) (r : ℕ) (on : r < length p.ranges) (hands hands' : List Hand) (made : ℕ) (sound : IsSound p hands made) where
  abbrev x : RangeValue
  x = range_at p.ranges r

  abbrev blocks : List ℕ
  blocks = fetched_of r x

  abbrev next : RangeValue
  next = fetched_from r x

  abbrev after : VolumeContents
  after = (range_lens r).put next p

  fits-next : RangeFits p.logical.dead.range_blocks (ranges_used p.ranges) r next
  fits-next =
      let fits = sound.well_formed.ranges r on in record {
        blocks = fits.blocks;
        number = fits.number;
        in_use = fits.in_use;
        free = record {
          size = fits.free.size;
          own = λ b e. fits.free.own b (first (contains x.free b) (contains (from_list {R = nat_cmp} blocks) b)
              (sym (contains-difference nat_cmp_total x.free (from_list blocks) b) ∙ e));
          used = λ e. same_set nat_cmp_total nat_cmp-IsAntisymmetric _ _ (λ b.
              contains-difference nat_cmp_total x.free (from_list blocks) b
              ∙ ap (λ (s : FinSet nat_cmp). contains s b && not (contains (from_list {R = nat_cmp} blocks) b)) (fits.free.used e)
              ∙ ap (λ (c : Bool). c && not (contains (from_list {R = nat_cmp} blocks) b)) (contains-empty nat_cmp b)
              ∙ sym (contains-empty nat_cmp b));
        };
      }
    where
      first : (a b : Bool) → (a && not b) ≡ true → a ≡ true
      first true b e = refl
      first false b e = absurd cc

  used-same : ranges_used (slice_set p.ranges r next) ≡ ranges_used p.ranges
  used-same = used-put p.ranges r next refl

  sound-next : (v : ℕ) → p.number ≡ v → HandsMove (batches_in (fresh_hand v blocks)) [] hands hands' → IsSound after hands' (made + 1)
  sound-next v numbered moved = range-sound p r next on fits-next hands hands' made sound (λ n.
      let weighed = moved (times_in_hand p.number n) in
      let mine = times-fresh p.number v n blocks numbered in
      let left = batch_leaves x.free blocks n (batch_within x.range_blocks r n x.free) in
      omega (arith, weighed, mine, left))

  -- the volume's free numbers lose the batch
  free-next : (v : ℕ) → p.number ≡ v → HandsMove (batches_in (fresh_hand v blocks)) [] hands hands'
      → free_in (slice_set p.ranges r next) ≡ difference (free_in p.ranges) (from_list blocks)
  free-next v numbered moved = same_set nat_cmp_total nat_cmp-IsAntisymmetric _ _ (λ n. by n (contains (from_list {R = nat_cmp} blocks) n) refl)
    where
      later : IsSound after hands' (made + 1)
      later = sound-next v numbered moved

      by : (n : ℕ) (b : Bool) → contains (from_list {R = nat_cmp} blocks) n ≡ b
          → contains (free_in (slice_set p.ranges r next)) n ≡ contains (difference (free_in p.ranges) (from_list blocks)) n
      by n true e =
          let of : n / p.logical.dead.range_blocks ≡ r =
          ap (λ (k : ℕ). n / k) (sym (sound.well_formed.ranges r on).blocks)
          ∙ (sound.well_formed.ranges r on).free.own n (in-batch x.range_blocks r n x.free e) ∙ (sound.well_formed.ranges r on).number in
          let long = later.well_formed.sixteen in
          let size = sound.well_formed.sixteen in
          free-at after later.well_formed r (omega arith) n of
          ∙ ap (λ (y : RangeValue). contains y.free n) (get_or-set_same p.ranges r next no_range on)
          ∙ contains-difference nat_cmp_total x.free (from_list blocks) n
          ∙ and-gone (contains x.free n) (contains (from_list {R = nat_cmp} blocks) n) e
          ∙ sym (contains-difference nat_cmp_total (free_in p.ranges) (from_list blocks) n
          ∙ and-gone (contains (free_in p.ranges) n) (contains (from_list {R = nat_cmp} blocks) n) e)
      by n false e =
          free-other p.ranges r next n (contains-difference nat_cmp_total x.free (from_list blocks) n
          ∙ and-not (contains x.free n) (contains (from_list {R = nat_cmp} blocks) n) e)
          ∙ sym (contains-difference nat_cmp_total (free_in p.ranges) (from_list blocks) n
          ∙ and-not (contains (free_in p.ranges) n) (contains (from_list {R = nat_cmp} blocks) n) e)

  does-fetch : (v : ℕ) → p.number ≡ v → x.is_used ≡ true → HandsMove (batches_in (fresh_hand v blocks)) [] hands hands'
      → DoesInnerOn (Fetch v r) p (Took (fresh_hand v blocks)) after
  does-fetch v numbered used moved =
      let same : batch p.logical.dead.range_blocks r (free_in p.ranges) ≡ blocks =
      ap (take most_carried) (in-range-at p sound.well_formed r on)
      ∙ ap (λ (k : ℕ). batch k r x.free) (sym (sound.well_formed.ranges r on).blocks) in
      let below : nat_lt r (ranges_used p.ranges) ≡ true = sym (sound.well_formed.ranges r on).in_use ∙ used in (
        λ j. record (volume_of p) { total = p.logical.dead.range_blocks * used-same j },
        (
          grind (arith, nat_tests),
          (
            carried-fresh v blocks ∙ ap length (sym same),
            λ j. record {
              parts = record (parts_of p) {
                free = (free-next v numbered moved ∙ ap (λ (bs : List ℕ). difference (free_in p.ranges) (from_list bs)) (sym same)) j;
              };
              hand = fresh_hand v (sym same j);
            },
          ),
        ),
      )

-- of a range in use
pub fetch-right : (v r : ℕ) → r < 16 → (x : RangeValue) → x.is_used ≡ true
    → InnerRunsOn v (range_lens r) (Fetch v r) x (Some (Took (fresh_hand v (fetched_of r x)))) (fetched_from r x)
fetch-right v r less x used p hands hands' made has numbered sound moved =
    let on : r < length p.ranges = (let size = sound.well_formed.sixteen in omega arith) in
    let moves = subst (λ (y : RangeValue). HandsMove (batches_in (fresh_hand v (fetched_of r y))) [] hands hands') (sym has) moved in
    subst (λ (y : RangeValue). DoesInnerOn (Fetch v r) p (Took (fresh_hand v (fetched_of r y))) ((range_lens r).put (fetched_from r y) p)
    × IsSound ((range_lens r).put (fetched_from r y) p) hands' (made + 1)) has (
      does-fetch p r on hands hands' made sound v numbered (ap (λ (y : RangeValue). y.is_used) has ∙ used) moves,
      sound-next p r on hands hands' made sound v numbered moves,
    )

-- of one that isn't it is refused
pub fetch-refused : (v r : ℕ) → r < 16 → (x : RangeValue) → x.is_used ≡ false → InnerRunsOn v (range_lens r) (Fetch v r) x None x
fetch-refused v r less x unused p hands hands' made has numbered sound moved =
    let on : r < length p.ranges = (let size = sound.well_formed.sixteen in omega arith) in
    let past : nat_lt r (ranges_used p.ranges) ≡ false =
    sym (sound.well_formed.ranges r on).in_use ∙ ap (λ (y : RangeValue). y.is_used) has ∙ unused in
    let same : (range_lens r).put x p ≡ p = λ j. record p { ranges = (ap (slice_set p.ranges r) (sym has) ∙ set-get_or p.ranges r no_range) j } in (
      (grind (arith, nat_tests), same),
      subst (λ (q : VolumeContents). IsSound q hands' (made + 1)) (sym same)
          (sound-later p hands hands' made (λ n. let e = moved (times_in_hand p.number n) in omega (arith, e)) sound),
    )
