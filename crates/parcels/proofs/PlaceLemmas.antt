-- What is found in slots.
use Rattle.std.proofs.Common.{◌≡◌, ℕ, zero, suc, ◌+◌, ◌<◌, Bool, List, Option, Some, None, refl, ◌∙◌, ap, arith, slice_get, add-one}
use Rattle.std.specs.Prelude.{if◌then◌else◌}
use Rattle.std.proofs.lemmas.Bool.{eq-eqb}
pub use Rattle.parcels.specs.lemmas.Nothing.{alone-none, or_else-none, slot-none, used-none, in_places-none}
use Rattle.parcels.specs.Slots.{alone, or_else, in_slot, in_used_place, in_places}

pub alone-there : {T : Type 0} (n : ℕ) (x : T) → alone n x n ≡ Some x
unfolding alone
alone-there n x = ap (λ b. if b then Some x else None) (eq-eqb n n refl)

module _ {H T : Type 0} (u : ℕ → Bool) (f : ℕ → H → Option T) where
  -- the first slots say what is found in them
  pub in_places-same : (xs ys : List (Option H)) (n : ℕ) → ((i : ℕ) → i < n → slice_get ys i ≡ slice_get xs i) → in_places u f ys n ≡ in_places u f xs n
  unfolding in_places
  in_places-same xs ys zero h = refl
  in_places-same xs ys (suc n) h =
      ap (λ o. or_else o (in_used_place u f ys n)) (in_places-same xs ys n (λ i l. h i (omega arith)))
      ∙ ap (λ o. or_else (in_places u f xs n) (if u n then in_slot (f n) o else None)) (h n (omega arith))

  -- one slot more, in use or not
  pub in_places-any : (xs : List (Option H)) (i : ℕ) (slot : Option H) → slice_get xs i ≡ Some slot
      → in_places u f xs (i + 1) ≡ or_else (in_places u f xs i) (if u i then in_slot (f i) (Some slot) else None)
  unfolding in_places
  in_places-any xs i slot e = ap (in_places u f xs) (add-one i) ∙ ap (λ o. or_else (in_places u f xs i) (if u i then in_slot (f i) o else None)) e
