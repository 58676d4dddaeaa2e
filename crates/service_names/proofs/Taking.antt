-- The touches of a file taken, from the last stripe down to the first.
use Rattle.std.proofs.Common.{◌≡◌, ◌≢◌, ℕ, zero, suc, ◌+◌, ◌-◌, ◌<◌, ◌≤◌, List, [], ◌∷◌, Option, Some, None, refl, sym, ap, ◌∙◌, subst, arith, ⊎_elim}
use Rattle.std.proofs.lemmas.Bool.{cases_eq}
use Rattle.std.specs.Prelude.{slice_get, slice_set, slice_index_or, length, is_some}
use Rattle.std.specs.FinMap as maps
use Rattle.std.specs.Ordering.{nat_cmp}
use Rattle.nfs_model.specs.Types.{Moment}
use Rattle.parcels.specs.Filled.{is_filled, AreFilledAlike}
use Rattle.nfs_model.specs.volume.Stripes.{StripeValue, Card, card_settled, touch_of, touch_taken}
use Rattle.nfs_model.specs.volume.Maps.{changed_value}
use Rattle.filer_state.specs.state.Contents.{each}
use Rattle.filer_state.specs.state.Changes.{touches_taken}
use Rattle.filer_state.specs.state.Parcels.{no_stripe}
use Rattle.filer_state.specs.state.Tree.{file_touch, later}
use Rattle.filer_state.specs.state.Sets.{FilerStripe, stripe_value, placed, in_one}
use Rattle.filer_state.specs.laws.lemmas.Each.{each-same, each-map}
use Rattle.service_names.proofs.Latest.{IsTouchFrom, touch-more}

-- an empty place stays as it is
pub vacant-taken : {P : Type 0} (o p : Option (FilerStripe P)) (fileid : ℕ) → o ≡ None → p ≡ o → stripe_value p ≡ touch_taken fileid (stripe_value o)
vacant-taken None None fileid e same =
    λ j. record no_stripe { cards = changed_value card_settled (sym (maps.get-empty {X = Card} nat_cmp fileid) j) fileid no_stripe.cards }
vacant-taken None (Some p) fileid e same = absurd cc
vacant-taken (Some s) p fileid e same = absurd cc

module _ {A : Type 0} where
  pub set-here : (xs : List A) (i : ℕ) (x : A) → i < length xs → slice_get (slice_set xs i x) i ≡ Some x
  set-here [] i x less = absurd (omega arith)
  set-here (y ∷ ys) zero x less = refl
  set-here (y ∷ ys) (suc i) x less = set-here ys i x (omega arith)

  pub set-else : (xs : List A) (i k : ℕ) (x : A) → k ≢ i → slice_get (slice_set xs i x) k ≡ slice_get xs k
  set-else [] i k x ne = refl
  set-else (y ∷ ys) zero zero x ne = absurd (ne refl)
  set-else (y ∷ ys) zero (suc k) x ne = refl
  set-else (y ∷ ys) (suc i) zero x ne = refl
  set-else (y ∷ ys) (suc i) (suc k) x ne = set-else ys i k x (λ e. ne (ap suc e))

  pub found-here : (xs : List A) (i : ℕ) (d : A) → i < length xs → slice_get xs i ≡ Some (slice_index_or xs i d)
  found-here [] i d less = absurd (omega arith)
  found-here (y ∷ ys) zero d less = refl
  found-here (y ∷ ys) (suc i) d less = found-here ys i d (omega arith)

pub filled-as : {H : Type 0} (o p : Option H) → is_some p ≡ is_some o → is_filled (Some o) ≡ is_filled (Some p)
filled-as None None e = refl
filled-as None (Some y) e = absurd cc
filled-as (Some x) None e = absurd cc
filled-as (Some x) (Some y) e = refl

module _ {P : Type 0} (fileid n : ℕ) (old : List (Option (FilerStripe P))) where
  abbrev was : ℕ → StripeValue
  was i = stripe_value (placed old i)

  -- from a stripe on the touches are taken, of which this is the latest; those before are as they were
  pub record AreTakenFrom (left : ℕ) (touch : Option Moment) (now : List (Option (FilerStripe P))) : Type 0 where
    pub alike : AreFilledAlike old now
    pub before : (i : ℕ) → i < left → stripe_value (placed now i) ≡ was i
    pub taken : (i : ℕ) → left ≤ i → i < n → stripe_value (placed now i) ≡ touch_taken fileid (was i)
    pub latest : IsTouchFrom was fileid n left touch

  -- one stripe more, by what comes into its place
  more-taken : (i : ℕ) (touch one next : Option Moment) (now : List (Option (FilerStripe P))) (was_here here : Option (FilerStripe P)) → i < n
      → i < length now → slice_get now i ≡ Some was_here
      → one ≡ touch_of (maps.get (stripe_value was_here).cards fileid) → stripe_value here ≡ touch_taken fileid (stripe_value was_here)
      → is_some here ≡ is_some was_here → next ≡ later one touch → AreTakenFrom (i + 1) touch now → AreTakenFrom i next (slice_set now i here)
  more-taken i touch one next now was_here here less long found one_is taken_is same later_is t =
      let value : stripe_value was_here ≡ was i = ap (λ o. stripe_value (in_one o)) (sym found) ∙ t.before i (omega arith) in
      let else_same : (k : ℕ) → k ≢ i → stripe_value (placed (slice_set now i here) k) ≡ stripe_value (placed now k) =
      λ k ne. ap (λ o. stripe_value (in_one o)) (set-else now i k here ne) in
      record {
        alike = λ k. ⊎_elim
            (λ (e : k ≡ i). t.alike k
            ∙ ap (λ (m : ℕ). is_filled (slice_get now m)) e ∙ ap is_filled found ∙ filled-as was_here here same
            ∙ sym (ap is_filled (set-here now i here long)) ∙ ap (λ (m : ℕ). is_filled (slice_get (slice_set now i here) m)) (sym e))
            (λ (ne : k ≢ i). t.alike k ∙ sym (ap is_filled (set-else now i k here ne)))
            (cases_eq k i);
        before = λ k below. else_same k (λ e. omega arith) ∙ t.before k (omega arith);
        taken = λ k on below. ⊎_elim
            (λ (e : k ≡ i). ap (λ (m : ℕ). stripe_value (placed (slice_set now i here) m)) e
            ∙ ap (λ o. stripe_value (in_one o)) (set-here now i here long)
            ∙ taken_is ∙ ap (touch_taken fileid) value ∙ ap (λ (m : ℕ). touch_taken fileid (was m)) (sym e))
            (λ (ne : k ≢ i). else_same k ne ∙ t.taken k (omega (arith, ne)) below)
            (cases_eq k i);
        latest = touch-more was fileid n i touch next (omega arith) t.latest
            (later_is ∙ ap (λ o. later o touch) (one_is ∙ ap (λ (s : StripeValue). touch_of (maps.get s.cards fileid)) value));
      }

  pub place-taken : (left : ℕ) (touch one next : Option Moment) (now : List (Option (FilerStripe P))) (d was_here here : Option (FilerStripe P)) → 0 < left
      → left ≤ n → n ≤ length now → slice_index_or now (left - 1) d ≡ was_here
      → one ≡ touch_of (maps.get (stripe_value was_here).cards fileid) → stripe_value here ≡ touch_taken fileid (stripe_value was_here)
      → is_some here ≡ is_some was_here → next ≡ later one touch → AreTakenFrom left touch now
      → AreTakenFrom (left - 1) next (slice_set now (left - 1) here)
  place-taken zero touch one next now d was_here here some below long is one_is taken_is same later_is t = absurd (omega arith)
  place-taken (suc i) touch one next now d was_here here some below long is one_is taken_is same later_is t =
      let down : suc i - 1 ≡ i = omega arith in
      let up : suc i ≡ i + 1 = omega arith in
      subst (λ (m : ℕ). AreTakenFrom m next (slice_set now m here)) (sym down)
      (more-taken i touch one next now was_here here (omega arith) (omega arith)
      (found-here now i d (omega arith) ∙ ap (λ (m : ℕ). Some (slice_index_or now m d)) (sym down) ∙ ap Some is)
      one_is taken_is same later_is (subst (λ (m : ℕ). AreTakenFrom m touch now) up t))

  -- all of them
  pub all-taken : (left : ℕ) (touch : Option Moment) (now : List (Option (FilerStripe P))) → left ≤ 0 → AreTakenFrom left touch now
      → (touch ≡ file_touch (each was 0 n) fileid)
      × (each (λ i. stripe_value (placed now i)) 0 n ≡ touches_taken fileid (each was 0 n))
      × AreFilledAlike old now
  all-taken zero touch now none t = (
    t.latest n (omega arith),
    each-same (λ i. stripe_value (placed now i)) (λ i. touch_taken fileid (was i)) 0 n (λ i low high. t.taken i low (omega arith))
        ∙ sym (each-map (touch_taken fileid) was 0 n),
    t.alike,
  )
  all-taken (suc left) touch now none t = absurd (omega arith)
