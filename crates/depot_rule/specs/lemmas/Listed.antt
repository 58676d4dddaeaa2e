-- Parcels by node as a list.
use Rattle.std.proofs.Common.{◌≡◌, ℕ, zero, suc, ◌<◌, List, [], ◌∷◌, ◌++◌, length, slice_index_or, length-append, sym, refl, ap, ◌∙◌, arith, Option, None}
use mathlib.Core.Logic.{dite}
use native.Mathlib.Decide.{ℕ_discrete}
use Rattle.depot_rule.specs.History.{by_number}

last-at : {T : Type 0} (xs : List (Option T)) (y : Option T) (k : ℕ) → length xs ≡ k → slice_index_or (xs ++ y ∷ []) k None ≡ y
last-at [] y zero e = refl
last-at [] y (suc k) e = absurd (omega arith)
last-at (x ∷ xs) y zero e = absurd (omega arith)
last-at (x ∷ xs) y (suc k) e = last-at xs y k (omega arith)

earlier-at : {T : Type 0} (xs : List (Option T)) (y : Option T) (k : ℕ) → k < length xs → slice_index_or (xs ++ y ∷ []) k None ≡ slice_index_or xs k None
earlier-at [] y k l = absurd (omega arith)
earlier-at (x ∷ xs) y zero l = refl
earlier-at (x ∷ xs) y (suc k) l = earlier-at xs y k (omega arith)

module _ {T : Type 0} (f : ℕ → Option T) where
  pub by-number-length : (n : ℕ) → length (by_number f n) ≡ n
  by-number-length zero = refl
  by-number-length (suc n) = let r = by-number-length n in let l = length-append (by_number f n) (f n ∷ []) in omega arith

  pub by-number-at : (n k : ℕ) → k < n → slice_index_or (by_number f n) k None ≡ f k
  by-number-at zero k l = absurd (omega arith)
  by-number-at (suc n) k l =
      let size = by-number-length n in
      dite (ℕ_discrete k n)
      (λ e. last-at (by_number f n) (f n) k (size ∙ sym e) ∙ ap f (sym e))
      (λ ne. earlier-at (by_number f n) (f n) k (omega arith) ∙ by-number-at n k (omega arith))
