-- A file of a size set in all stripes, from the last down to the first.
use Rattle.std.proofs.Common.{◌≡◌, ◌≢◌, ℕ, zero, suc, ◌+◌, ◌-◌, ◌<◌, ◌≤◌, List, Option, Some, refl, sym, ap, ◌∙◌, subst, arith}
use Rattle.std.proofs.Common.{length-append, ⊎_elim}
use Rattle.std.proofs.lemmas.Bool.{cases_eq}
use Rattle.std.specs.Prelude.{length, map, is_some, IsSome, slice_get, slice_set, slice_index_or}
use Rattle.std.specs.FinMap.{get}
use Rattle.parcels.specs.Filled.{is_filled, AreFilledAlike}
use Rattle.nfs_model.specs.Types.{Ownership}
use Rattle.nfs_model.specs.volume.Logical.{LogicalValue}
use Rattle.nfs_model.specs.volume.Stripes.{StripeValue, numbers_freed}
use Rattle.filer_state.specs.state.Contents.{each}
use Rattle.filer_state.specs.state.Parcels.{no_stripe}
use Rattle.filer_state.specs.state.Sets.{FilerStripe, FilerLogical, stripe_value, placed, in_one, logical_before}
use Rattle.filer_state.specs.laws.lemmas.Each.{each-same, each-map, each-index}
use Rattle.filer_state.specs.changes.NodesSized.{all_freed}
use Rattle.service_names.specs.Shaping.{stripe_shaped}
use Rattle.service_names.specs.Changing.{AreNumbers, MayBeSet, with_dead}
use Rattle.service_names.proofs.Freed.{marked-none, marked-before, numbers-parted}
use Rattle.service_names.proofs.Taking.{set-here, set-else, found-here, filled-as}

module _ (blocks fileid size : ℕ) where
  -- the numbers that leave one of the stripes
  numbers-each : (f : ℕ → StripeValue) (from n i : ℕ) → from ≤ i → i < from + n → AreNumbers blocks (all_freed fileid size (each f from n))
      → AreNumbers blocks (numbers_freed fileid size (f i))
  numbers-each f from zero i low high are = absurd (omega arith)
  numbers-each f from (suc n) i low high are = ⊎_elim
      (λ (e : i ≡ from). subst (λ (k : ℕ). AreNumbers blocks (numbers_freed fileid size (f k))) (sym e)
      (numbers-parted blocks (numbers_freed fileid size (f from)) (all_freed fileid size (each f (from + 1) n)) are).0)
      (λ (ne : i ≢ from). numbers-each f (from + 1) n i (omega (arith, ne)) (omega arith)
      (numbers-parted blocks (numbers_freed fileid size (f from)) (all_freed fileid size (each f (from + 1) n)) are).1)
      (cases_eq i from)

module _ {P : Type 0} (fileid size : ℕ) (owner : Option Ownership) (n : ℕ) (old : List (Option (FilerStripe P))) (own : LogicalValue) (filled : ℕ) where
  abbrev was : ℕ → StripeValue
  was i = stripe_value (placed old i)

  -- the numbers that leave the stripes from one on
  abbrev freed_from : ℕ → ℕ → List ℕ
  freed_from left m = all_freed fileid size (each was left m)

  -- from a stripe on the file has its size, and the blocks that left it there are dead; the stripes before are as they were
  pub record AreSizedFrom (left : ℕ) (now : List (Option (FilerStripe P))) (own_now : LogicalValue) (rest : ℕ) : Type 0 where
    pub alike : AreFilledAlike old now
    pub before : (i : ℕ) → i < left → stripe_value (placed now i) ≡ was i
    pub sized : (i : ℕ) → left ≤ i → i < n → stripe_value (placed now i) ≡ stripe_shaped fileid size owner (was i)
    pub dead : (m : ℕ) → left + m ≡ n → own_now ≡ with_dead (freed_from left m) own
    pub stays : (m : ℕ) → left + m ≡ n → rest ≡ filled - length (freed_from left m)

  pub none-sized : AreSizedFrom n old own filled
  none-sized = record {
    alike = λ i. refl;
    before = λ i less. refl;
    sized = λ i on less. absurd (omega arith);
    dead = dead;
    stays = stays;
  }
    where
      dead : (m : ℕ) → n + m ≡ n → own ≡ with_dead (freed_from n m) own
      dead zero e = λ j. record own { dead = sym (marked-none own.dead) j }
      dead (suc m) e = absurd (omega arith)

      stays : (m : ℕ) → n + m ≡ n → filled ≡ filled - length (freed_from n m)
      stays zero e = omega arith
      stays (suc m) e = absurd (omega arith)

  -- one stripe more, by what comes into its place
  more-sized : (i : ℕ) (now : List (Option (FilerStripe P))) (own_now own_next : LogicalValue) (rest next : ℕ) (was_here here : Option (FilerStripe P))
      → i < n → i < length now → slice_get now i ≡ Some was_here
      → next ≡ rest - length (numbers_freed fileid size (stripe_value was_here))
      → own_next ≡ with_dead (numbers_freed fileid size (stripe_value was_here)) own_now
      → stripe_value here ≡ stripe_shaped fileid size owner (stripe_value was_here)
      → is_some here ≡ is_some was_here → AreSizedFrom (i + 1) now own_now rest → AreSizedFrom i (slice_set now i here) own_next next
  more-sized i now own_now own_next rest next was_here here less long found next_is own_is sized_is same t =
      let value : stripe_value was_here ≡ was i = ap (λ o. stripe_value (in_one o)) (sym found) ∙ t.before i (omega arith) in
      let else_same : (k : ℕ) → k ≢ i → stripe_value (placed (slice_set now i here) k) ≡ stripe_value (placed now k) =
      λ k ne. ap (λ o. stripe_value (in_one o)) (set-else now i k here ne) in
      record {
        alike = λ k. ⊎_elim
            (λ (e : k ≡ i). t.alike k
            ∙ ap (λ (m : ℕ). is_filled (slice_get now m)) e ∙ ap is_filled found ∙ filled-as was_here here same
            ∙ sym (ap is_filled (set-here now i here long)) ∙ ap (λ (m : ℕ). is_filled (slice_get (slice_set now i here) m)) (sym e))
            (λ (ne : k ≢ i). t.alike k ∙ sym (ap is_filled (set-else now i k here ne)))
            (cases_eq k i);
        before = λ k below. else_same k (λ e. omega arith) ∙ t.before k (omega arith);
        sized = λ k on below. ⊎_elim
            (λ (e : k ≡ i). ap (λ (m : ℕ). stripe_value (placed (slice_set now i here) m)) e
            ∙ ap (λ o. stripe_value (in_one o)) (set-here now i here long)
            ∙ sized_is ∙ ap (stripe_shaped fileid size owner) value ∙ ap (λ (m : ℕ). stripe_shaped fileid size owner (was m)) (sym e))
            (λ (ne : k ≢ i). else_same k ne ∙ t.sized k (omega (arith, ne)) below)
            (cases_eq k i);
        dead = dead value;
        stays = stays value;
      }
    where
      dead : stripe_value was_here ≡ was i → (m : ℕ) → i + m ≡ n → own_next ≡ with_dead (freed_from i m) own
      dead value zero e = absurd (omega arith)
      dead value (suc m) e =
          own_is ∙ ap (λ (s : StripeValue). with_dead (numbers_freed fileid size s) own_now) value
          ∙ ap (with_dead (numbers_freed fileid size (was i))) (t.dead m (omega arith))
          ∙ (λ j. record own { dead = marked-before (numbers_freed fileid size (was i)) (freed_from (i + 1) m) own.dead j })

      stays : stripe_value was_here ≡ was i → (m : ℕ) → i + m ≡ n → next ≡ filled - length (freed_from i m)
      stays value zero e = absurd (omega arith)
      stays value (suc m) e =
          let here : length (numbers_freed fileid size (stripe_value was_here)) ≡ length (numbers_freed fileid size (was i)) =
          ap (λ (s : StripeValue). length (numbers_freed fileid size s)) value in
          let others = t.stays m (omega arith) in
          let both = length-append (numbers_freed fileid size (was i)) (freed_from (i + 1) m) in
          omega (arith, next_is, here, others, both)

  pub place-sized : (left : ℕ) (now : List (Option (FilerStripe P))) (own_now own_next : LogicalValue) (rest next : ℕ)
      (d was_here here : Option (FilerStripe P)) → 0 < left
      → left ≤ n → n ≤ length now → slice_index_or now (left - 1) d ≡ was_here
      → next ≡ rest - length (numbers_freed fileid size (stripe_value was_here))
      → own_next ≡ with_dead (numbers_freed fileid size (stripe_value was_here)) own_now
      → stripe_value here ≡ stripe_shaped fileid size owner (stripe_value was_here)
      → is_some here ≡ is_some was_here → AreSizedFrom left now own_now rest
      → AreSizedFrom (left - 1) (slice_set now (left - 1) here) own_next next
  place-sized zero now own_now own_next rest next d was_here here some below long is next_is own_is sized_is same t = absurd (omega arith)
  place-sized (suc i) now own_now own_next rest next d was_here here some below long is next_is own_is sized_is same t =
      let down : suc i - 1 ≡ i = omega arith in
      let up : suc i ≡ i + 1 = omega arith in
      subst (λ (m : ℕ). AreSizedFrom m (slice_set now m here) own_next next) (sym down)
      (more-sized i now own_now own_next rest next was_here here (omega arith) (omega arith)
      (found-here now i d (omega arith) ∙ ap (λ (m : ℕ). Some (slice_index_or now m d)) (sym down) ∙ ap Some is)
      next_is own_is sized_is same (subst (λ (m : ℕ). AreSizedFrom m now own_now rest) up t))

  -- what the stripe of a place has before its turn
  pub place-was : (left : ℕ) (now : List (Option (FilerStripe P))) (own_now : LogicalValue) (rest : ℕ)
      (d was_here : Option (FilerStripe P)) → 0 < left → left ≤ n → n ≤ length now → slice_index_or now (left - 1) d ≡ was_here
      → AreSizedFrom left now own_now rest → stripe_value was_here ≡ was (left - 1)
  place-was zero now own_now rest d was_here some below long is t = absurd (omega arith)
  place-was (suc i) now own_now rest d was_here some below long is t =
      let down : suc i - 1 ≡ i = omega arith in
      subst (λ (m : ℕ). stripe_value was_here ≡ was m) (sym down)
      (ap stripe_value (sym is) ∙ ap (λ (m : ℕ). stripe_value (slice_index_or now m d)) down
      ∙ ap (λ o. stripe_value (in_one o)) (sym (found-here now i d (omega arith))) ∙ t.before i (omega arith))

  -- the ranges of the dead have as many blocks as before
  pub size-stays : (left : ℕ) (now : List (Option (FilerStripe P))) (own_now : LogicalValue) (rest : ℕ) → left ≤ n
      → AreSizedFrom left now own_now rest → own_now.dead.range_blocks ≡ own.dead.range_blocks
  size-stays left now own_now rest below t = ap (λ (l : LogicalValue). l.dead.range_blocks) (t.dead (n - left) (omega (arith, below)))

  -- all of them
  pub all-sized : (left : ℕ) (now : List (Option (FilerStripe P))) (own_now : LogicalValue) (rest : ℕ) → left ≤ 0 → AreSizedFrom left now own_now rest
      → (rest ≡ filled - length (all_freed fileid size (each was 0 n)))
      × (own_now ≡ with_dead (all_freed fileid size (each was 0 n)) own)
      × (each (λ i. stripe_value (placed now i)) 0 n ≡ map (stripe_shaped fileid size owner) (each was 0 n))
      × AreFilledAlike old now
  all-sized zero now own_now rest none t = (
    t.stays n (omega arith),
    t.dead n (omega arith),
    each-same (λ i. stripe_value (placed now i)) (λ i. stripe_shaped fileid size owner (was i)) 0 n (λ i low high. t.sized i low (omega arith))
        ∙ sym (each-map (stripe_shaped fileid size owner) was 0 n),
    t.alike,
  )
  all-sized (suc left) now own_now rest none t = absurd (omega arith)

pub numbers-then : (blocks now fileid size : ℕ) (was here : StripeValue) → now ≡ blocks → here ≡ was → AreNumbers blocks (numbers_freed fileid size was)
    → AreNumbers now (numbers_freed fileid size here)
numbers-then blocks now fileid size was here same is are =
    subst (λ (m : ℕ). AreNumbers m (numbers_freed fileid size here)) (sym same)
    (subst (λ (s : StripeValue). AreNumbers blocks (numbers_freed fileid size s)) (sym is) are)

module _ {P : Type 0} (held : FilerLogical P) (fileid size i : ℕ) (may : MayBeSet fileid (logical_before held)) (less : i < held.own.stripes) where
  pub card-of-place : IsSome (get (stripe_value (placed held.stripes.at i)).cards fileid)
  card-of-place = subst (λ (s : StripeValue). IsSome (get s.cards fileid))
      (each-index (λ k. stripe_value (placed held.stripes.at k)) no_stripe held.own.stripes i less) (may.cards i less)

  pub numbers-of-place : AreNumbers held.own.dead.range_blocks (numbers_freed fileid size (stripe_value (placed held.stripes.at i)))
  numbers-of-place =
      numbers-each held.own.dead.range_blocks fileid size (λ k. stripe_value (placed held.stripes.at k)) 0 held.own.stripes i (omega arith) (omega arith)
      (may.numbers size)
