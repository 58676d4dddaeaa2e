-- The latest touch of a file in its stripes, where one stripe's gets later.
use Rattle.std.proofs.Common.{◌≡◌, ℕ, zero, suc, ◌<◌, ◌&&◌, ◌||◌, ◌==◌, Bool, true, false, List, [], ◌∷◌, length, Option, Some, None, nat_lt, nat_le}
use Rattle.std.proofs.Common.{refl, sym, ap, ◌∙◌, arith}
use Rattle.std.specs.Prelude.{if◌then◌else◌, slice_set}
use Rattle.std.specs.FinMap.{get}
use Rattle.std.proofs.lemmas.Bool.Decides.{nat_tests}
use Rattle.nfs_model.specs.Types.{Moment}
use Rattle.nfs_model.specs.Shown.{moment_le, touched}
use Rattle.nfs_model.specs.volume.Stripes.{StripeValue, touch_of}
use Rattle.filer_state.specs.state.Tree.{stripe_at, file_touch, later}

-- ---- moments are in one order

abbrev is_le : ℕ → ℕ → ℕ → ℕ → Bool
is_le s n t m = nat_lt s t || ((s == t) && nat_le n m)

le-total : (s n t m : ℕ) → is_le s n t m ≡ false → is_le t m s n ≡ true
le-total s n t m h = grind (arith, nat_tests)

le-after : (s n t m u k : ℕ) → is_le s n t m ≡ true → is_le t m u k ≡ true → is_le s n u k ≡ true
le-after s n t m u k g h = grind (arith, nat_tests)

not-le-after : (s n t m u k : ℕ) → is_le s n t m ≡ false → is_le t m u k ≡ false → is_le s n u k ≡ false
not-le-after s n t m u k g h = grind (arith, nat_tests)

same-seconds : (s n t m : ℕ) → is_le s n t m ≡ true → is_le t m s n ≡ true → s ≡ t
same-seconds s n t m g h = grind (arith, nat_tests)

same-nanoseconds : (s n t m : ℕ) → is_le s n t m ≡ true → is_le t m s n ≡ true → n ≡ m
same-nanoseconds s n t m g h = grind (arith, nat_tests)

-- ---- the later of two

abbrev later_of : Moment → Moment → Moment
later_of a b = if moment_le a b then b else a

turned : (a b : Moment) → later_of a b ≡ later_of b a
turned a b = by (moment_le a b) refl (moment_le b a) refl
  where
    by : (x : Bool) → moment_le a b ≡ x → (y : Bool) → moment_le b a ≡ y → (if x then b else a) ≡ (if y then a else b)
    by true e true h = λ j. record {
      seconds = sym (same-seconds a.seconds a.nanoseconds b.seconds b.nanoseconds e h) j;
      nanoseconds = sym (same-nanoseconds a.seconds a.nanoseconds b.seconds b.nanoseconds e h) j;
    }
    by true e false h = refl
    by false e true h = refl
    by false e false h = let other : moment_le b a ≡ true = le-total a.seconds a.nanoseconds b.seconds b.nanoseconds e in absurd cc

grouped : (a b c : Moment) → later_of a (later_of b c) ≡ later_of (later_of a b) c
grouped a b c = by (moment_le a b) refl (moment_le b c) refl
  where
    by : (x : Bool) → moment_le a b ≡ x → (y : Bool) → moment_le b c ≡ y → later_of a (if y then c else b) ≡ later_of (if x then b else a) c
    by true e true h =
        ap (λ (t : Bool). if t then c else a)
        (le-after a.seconds a.nanoseconds b.seconds b.nanoseconds c.seconds c.nanoseconds e h)
        ∙ sym (ap (λ (t : Bool). if t then c else b) h)
    by true e false h = ap (λ (t : Bool). if t then b else a) e ∙ sym (ap (λ (t : Bool). if t then c else b) h)
    by false e true h = refl
    by false e false h =
        ap (λ (t : Bool). if t then b else a) e
        ∙ sym (ap (λ (t : Bool). if t then c else a)
        (not-le-after a.seconds a.nanoseconds b.seconds b.nanoseconds c.seconds c.nanoseconds e h))

-- ---- the latest

later-first : (moment : Moment) (t r : Option Moment) → later (Some (touched t moment)) r ≡ Some (touched (later t r) moment)
later-first moment None None = refl
later-first moment None (Some b) = ap Some (turned moment b)
later-first moment (Some a) None = refl
later-first moment (Some a) (Some b) = ap Some (sym (grouped a moment b) ∙ ap (later_of a) (turned moment b) ∙ grouped a b moment)

later-next : (moment : Moment) (t r : Option Moment) → later t (Some (touched r moment)) ≡ Some (touched (later t r) moment)
later-next moment None r = refl
later-next moment (Some a) None = refl
later-next moment (Some a) (Some b) = ap Some (grouped a b moment)

-- ---- in the stripes

module _ (fileid : ℕ) (s : StripeValue) where
  pub touch-put : (moment : Moment) (stripes : List StripeValue) (i : ℕ) → i < length stripes
      → touch_of (get s.cards fileid) ≡ Some (touched (touch_of (get (stripe_at stripes i).cards fileid)) moment)
      → file_touch (slice_set stripes i s) fileid ≡ Some (touched (file_touch stripes fileid) moment)
  touch-put moment [] i on is = absurd (omega (arith, on))
  touch-put moment (t ∷ stripes) zero on is =
      ap (λ o. later o (file_touch stripes fileid)) is ∙ later-first moment (touch_of (get t.cards fileid)) (file_touch stripes fileid)
  touch-put moment (t ∷ stripes) (suc i) on is =
      ap (later (touch_of (get t.cards fileid))) (touch-put moment stripes i (omega (arith, on)) is)
      ∙ later-next moment (touch_of (get t.cards fileid)) (file_touch stripes fileid)

  pub touch-same : (stripes : List StripeValue) (i : ℕ) → touch_of (get s.cards fileid) ≡ touch_of (get (stripe_at stripes i).cards fileid)
      → file_touch (slice_set stripes i s) fileid ≡ file_touch stripes fileid
  touch-same [] i is = refl
  touch-same (t ∷ stripes) zero is = ap (λ o. later o (file_touch stripes fileid)) is
  touch-same (t ∷ stripes) (suc i) is = ap (later (touch_of (get t.cards fileid))) (touch-same stripes i is)
