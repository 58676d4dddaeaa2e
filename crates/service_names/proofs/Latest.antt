-- The latest touch of a file, from the last stripe down to the first.
use Rattle.std.proofs.Common.{◌≡◌, ℕ, zero, suc, ◌+◌, ◌-◌, ◌<◌, ◌≤◌, List, [], ◌∷◌, Option, Some, None, refl, sym, ap, ◌∙◌, subst, arith}
use Rattle.std.specs.Prelude.{slice_get, slice_index_or, length}
use Rattle.std.specs.Ordering.{nat_cmp}
use Rattle.std.specs.FinMap.{get, get-empty}
use Rattle.nfs_model.specs.Types.{Moment}
use Rattle.nfs_model.specs.volume.Stripes.{StripeValue, Card, touch_of}
use Rattle.filer_state.specs.state.Contents.{each}
use Rattle.filer_state.specs.state.Tree.{file_touch, later}
use Rattle.filer_state.specs.state.Sets.{FilerStripe, FilerLogical, stripe_value, placed, in_one, logical_before}

-- an empty place has no touch
pub vacant-touch : {P : Type 0} (o : Option (FilerStripe P)) (fileid : ℕ) → o ≡ None → None ≡ touch_of (get (stripe_value o).cards fileid)
vacant-touch None fileid e = ap touch_of (sym (get-empty {X = Card} nat_cmp fileid))
vacant-touch (Some s) fileid e = absurd cc

module _ (f : ℕ → StripeValue) (fileid n : ℕ) where
  -- this is the latest touch of the stripes from one on
  abbrev pub IsTouchFrom : ℕ → Option Moment → Type 0
  IsTouchFrom left touch = (m : ℕ) → left + m ≡ n → touch ≡ file_touch (each f left m) fileid

  pub touch-more : (left : ℕ) (touch next : Option Moment) → left + 1 ≤ n → IsTouchFrom (left + 1) touch
      → next ≡ later (touch_of (get (f left).cards fileid)) touch → IsTouchFrom left next
  touch-more left touch next less before is zero e = absurd (omega arith)
  touch-more left touch next less before is (suc m) e = is ∙ ap (later (touch_of (get (f left).cards fileid))) (before m (omega arith))

-- what is in a place, where there is such a place
place-there : {A : Type 0} (xs : List A) (i : ℕ) (x : A) → i < length xs → slice_get xs i ≡ Some (slice_index_or xs i x)
place-there [] i x less = absurd (omega arith)
place-there (y ∷ ys) zero x less = refl
place-there (y ∷ ys) (suc i) x less = place-there ys i x (omega arith)

-- one stripe more, by what is in its place
pub touch-place : {P : Type 0} (held : FilerLogical P) (fileid left : ℕ) (touch one next : Option Moment) (place : Option (FilerStripe P))
    → 0 < left → left ≤ held.own.stripes
    → IsTouchFrom (λ i. stripe_value (placed held.stripes.at i)) fileid held.own.stripes left touch
    → length held.stripes.at ≡ 16 → held.own.stripes ≤ 16
    → one ≡ touch_of (get (stripe_value (slice_index_or held.stripes.at (left - 1) place)).cards fileid) → next ≡ later one touch
    → IsTouchFrom (λ i. stripe_value (placed held.stripes.at i)) fileid held.own.stripes (left - 1) next
touch-place held fileid zero touch one next place some below before long few is later_is = absurd (omega arith)
touch-place {P} held fileid (suc n) touch one next place some below before long few is later_is =
    let here : n + 1 ≡ suc n = omega arith in
    let down : suc n - 1 ≡ n = omega arith in
    let f : ℕ → StripeValue = λ i. stripe_value (placed held.stripes.at i) in
    let found : slice_get held.stripes.at n ≡ Some (slice_index_or held.stripes.at n place) = place-there held.stripes.at n place (omega arith) in
    let same : stripe_value (slice_index_or held.stripes.at (suc n - 1) place) ≡ f n =
    ap (λ (k : ℕ). stripe_value (slice_index_or held.stripes.at k place)) down
    ∙ ap (λ (o : Option (Option (FilerStripe P))). stripe_value (in_one o)) (sym found) in
    subst (λ (k : ℕ). IsTouchFrom f fileid held.own.stripes k next) (sym down)
    (touch-more f fileid held.own.stripes n touch next (omega arith) (subst (λ (k : ℕ). IsTouchFrom f fileid held.own.stripes k touch) (sym here) before)
    (later_is ∙ ap (λ t. later t touch) (is ∙ ap (λ (s : StripeValue). touch_of (get s.cards fileid)) same)))

-- the latest touch of all stripes
pub touch-all : {P : Type 0} (held : FilerLogical P) (fileid left : ℕ) (touch : Option Moment) → left ≤ 0
    → IsTouchFrom (λ i. stripe_value (placed held.stripes.at i)) fileid held.own.stripes left touch
    → touch ≡ file_touch (logical_before held).stripes fileid
touch-all held fileid zero touch none is = is held.own.stripes (omega arith)
touch-all held fileid (suc n) touch none is = absurd (omega arith)
