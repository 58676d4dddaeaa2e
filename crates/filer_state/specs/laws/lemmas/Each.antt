-- Lists of a function's values.
use Rattle.std.proofs.Common.{◌≡◌, ◌≢◌, ℕ, zero, suc, ◌+◌, ◌<◌, ◌≤◌, List, [], ◌∷◌, length, map, Some, refl, ap, ◌∙◌, arith}
use Rattle.std.specs.Prelude.{slice_set, slice_get, slice_index_or}
use Rattle.filer_state.specs.state.Contents.{each}

module _ {A : Type 0} where
  pub each-same : (f g : ℕ → A) (from n : ℕ) → ((i : ℕ) → from ≤ i → i < from + n → f i ≡ g i) → each f from n ≡ each g from n
  each-same f g from zero h = refl
  each-same f g from (suc n) h =
      λ i. h from (omega arith) (omega arith) i ∷ each-same f g (from + 1) n (λ k a b. h k (omega arith) (omega arith)) i

  each-set-from : (f g : ℕ → A) (from n i : ℕ) → i < n → ((k : ℕ) → k < from + n → k ≢ from + i → g k ≡ f k)
      → each g from n ≡ slice_set (each f from n) i (g (from + i))
  each-set-from f g from zero i less h = absurd (omega arith)
  each-set-from f g from (suc n) zero less h =
      let here : from ≡ from + 0 = omega arith in
      λ j. g (here j) ∷ each-same g f (from + 1) n (λ k a b. h k (omega arith) (λ e. omega arith)) j
  each-set-from f g from (suc n) (suc i) less h =
      let others = each-set-from f g (from + 1) n i (omega arith) (λ k l ne. h k (omega arith) (λ e. ne (omega arith))) in
      let here : from + 1 + i ≡ from + suc i = omega arith in
      let first = h from (omega arith) (λ e. omega arith) in
      λ j. first j ∷ (others ∙ ap (λ (m : ℕ). slice_set (each f (from + 1) n) i (g m)) here) j

  -- one value changed
  pub each-set : (f g : ℕ → A) (n i : ℕ) → i < n → ((k : ℕ) → k < n → k ≢ i → g k ≡ f k) → each g 0 n ≡ slice_set (each f 0 n) i (g i)
  each-set f g n i less h =
      let here : 0 + i ≡ i = omega arith in
      each-set-from f g 0 n i less (λ k l ne. h k (omega arith) (λ e. ne (omega arith)))
      ∙ ap (λ (m : ℕ). slice_set (each f 0 n) i (g m)) here

  each-get-from : (f : ℕ → A) (from n i : ℕ) → i < n → slice_get (each f from n) i ≡ Some (f (from + i))
  each-get-from f from zero i less = absurd (omega arith)
  each-get-from f from (suc n) zero less = let here : from ≡ from + 0 = omega arith in ap (λ (m : ℕ). Some (f m)) here
  each-get-from f from (suc n) (suc i) less =
      let here : from + 1 + i ≡ from + suc i = omega arith in
      each-get-from f (from + 1) n i (omega arith) ∙ ap (λ (m : ℕ). Some (f m)) here

  pub each-get : (f : ℕ → A) (n i : ℕ) → i < n → slice_get (each f 0 n) i ≡ Some (f i)
  each-get f n i less = let here : 0 + i ≡ i = omega arith in each-get-from f 0 n i less ∙ ap (λ (m : ℕ). Some (f m)) here

  each-index-from : (f : ℕ → A) (d : A) (from n i : ℕ) → i < n → slice_index_or (each f from n) i d ≡ f (from + i)
  each-index-from f d from zero i less = absurd (omega arith)
  each-index-from f d from (suc n) zero less = let here : from ≡ from + 0 = omega arith in ap f here
  each-index-from f d from (suc n) (suc i) less =
      let here : from + 1 + i ≡ from + suc i = omega arith in
      each-index-from f d (from + 1) n i (omega arith) ∙ ap f here

  pub each-index : (f : ℕ → A) (d : A) (n i : ℕ) → i < n → slice_index_or (each f 0 n) i d ≡ f i
  each-index f d n i less = let here : 0 + i ≡ i = omega arith in each-index-from f d 0 n i less ∙ ap f here

  pub each-length : (f : ℕ → A) (from n : ℕ) → length (each f from n) ≡ n
  each-length f from zero = refl
  each-length f from (suc n) = ap suc (each-length f (from + 1) n)

  pub each-map : {B : Type 0} (h : A → B) (f : ℕ → A) (from n : ℕ) → map h (each f from n) ≡ each (λ i. h (f i)) from n
  each-map h f from zero = refl
  each-map h f from (suc n) = ap (λ rest. h (f from) ∷ rest) (each-map h f (from + 1) n)

  -- what is found past the end, or in a place
  pub get-there : (xs : List A) (i : ℕ) (x : A) → slice_get xs i ≡ Some x → i < length xs
  get-there [] i x e = absurd cc
  get-there (y ∷ xs) zero x e = omega arith
  get-there (y ∷ xs) (suc i) x e = let less = get-there xs i x e in omega arith
