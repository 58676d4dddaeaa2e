-- A list changed at one place.
use Rattle.std.proofs.Common.{◌≡◌, ℕ, zero, suc, List, [], ◌∷◌, ◌++◌, length, Some, None, refl, ap, sym, ◌∙◌}
use Rattle.std.specs.Prelude.{slice_get}
use Rattle.nfs_model.specs.World.{changed_at}

pub changed_at-same : {X : Type 0} (f g : X → X) (xs : List X) (i : ℕ) → ((x : X) → f x ≡ g x) → changed_at f xs i ≡ changed_at g xs i
changed_at-same f g [] i e = refl
changed_at-same f g (x ∷ xs) zero e = ap (λ y. y ∷ xs) (e x)
changed_at-same f g (x ∷ xs) (suc i) e = ap (λ ys. x ∷ ys) (changed_at-same f g xs i e)

pub changed_at-twice : {X : Type 0} (f g : X → X) (xs : List X) (i : ℕ) → changed_at g (changed_at f xs i) i ≡ changed_at (λ x. g (f x)) xs i
changed_at-twice f g [] i = refl
changed_at-twice f g (x ∷ xs) zero = refl
changed_at-twice f g (x ∷ xs) (suc i) = ap (λ ys. x ∷ ys) (changed_at-twice f g xs i)

pub changed_at-none : {X : Type 0} (f : X → X) (xs : List X) (i : ℕ) → ((x : X) → f x ≡ x) → changed_at f xs i ≡ xs
changed_at-none f [] i e = refl
changed_at-none f (x ∷ xs) zero e = ap (λ y. y ∷ xs) (e x)
changed_at-none f (x ∷ xs) (suc i) e = ap (λ ys. x ∷ ys) (changed_at-none f xs i e)

pub slice_get-changed_at : {X : Type 0} (f : X → X) (xs : List X) (i : ℕ) (x : X) → slice_get xs i ≡ Some x → slice_get (changed_at f xs i) i ≡ Some (f x)
slice_get-changed_at f [] i x e = absurd cc
slice_get-changed_at f (y ∷ xs) zero x e = let same : y ≡ x = cc in ap (λ z. Some (f z)) same
slice_get-changed_at f (y ∷ xs) (suc i) x e = slice_get-changed_at f xs i x e

-- the last of a list
pub slice_get-last : {X : Type 0} (xs : List X) (x : X) → slice_get (xs ++ x ∷ []) (length xs) ≡ Some x
slice_get-last [] x = refl
slice_get-last (y ∷ xs) x = slice_get-last xs x

pub slice_get-end : {X : Type 0} (xs : List X) → slice_get xs (length xs) ≡ None
slice_get-end [] = refl
slice_get-end (y ∷ xs) = slice_get-end xs

-- a place that is set to what a function makes of what is there
pub put-at : {X : Type 0} (f : X → X) (x : X) (xs : List X) (i : ℕ) → slice_get xs i ≡ Some x → changed_at (λ y. f x) xs i ≡ changed_at f xs i
put-at f x [] i e = refl
put-at f x (y ∷ ys) zero e = let same : y ≡ x = cc in ap (λ z. f z ∷ ys) (sym same)
put-at f x (y ∷ ys) (suc i) e = ap (λ zs. y ∷ zs) (put-at f x ys i e)

pub put-same : {X : Type 0} (x : X) (xs : List X) (i : ℕ) → slice_get xs i ≡ Some x → changed_at (λ y. x) xs i ≡ xs
put-same x xs i e = put-at (λ y. y) x xs i e ∙ changed_at-none (λ y. y) xs i (λ y. refl)
