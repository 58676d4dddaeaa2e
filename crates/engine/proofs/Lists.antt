-- One place of a list, and what holds of each place.
use Rattle.std.proofs.Common.{◌≡◌, ◌≢◌, ◌<◌, ℕ, zero, suc, ◌+◌, List, [], ◌∷◌, ◌++◌, length, Some, None, refl, sym, ap, ◌∙◌, subst, arith}
use Rattle.std.specs.Prelude.{get_or, slice_get, slice_set}
use Rattle.std.specs.List.{AllByRecursion, remove}
use Rattle.std.proofs.lemmas.Option.{slice_get_read}
use Rattle.depot_rule.specs.Sums.{total}

pub inner : {X : Type 0} (x y : X) → Some x ≡ Some y → x ≡ y
inner x y e = cc

pub none-some : {X : Type 0} (x : X) → None ≡ Some x → ⊥
none-some x e = absurd cc

-- ---- one place

-- what was looked up
pub looked-up : {X : Type 0} (xs items : List X) (i : ℕ) (x k : X) → xs ≡ items → i < length xs → x ≡ get_or xs i x → x ≡ k → slice_get items i ≡ Some k
looked-up xs items i x k same within read is =
    subst (λ (l : List _). slice_get l i ≡ Some k) same (slice_get_read xs (length xs) i x refl within read ∙ ap Some is)

pub set-here : {X : Type 0} (xs : List X) (i : ℕ) (x y : X) → slice_get xs i ≡ Some x → slice_get (slice_set xs i y) i ≡ Some y
set-here [] i x y e = absurd (none-some x e)
set-here (z ∷ xs) zero x y e = refl
set-here (z ∷ xs) (suc i) x y e = set-here xs i x y e

pub set-elsewhere : {X : Type 0} (xs : List X) (i j : ℕ) (y : X) → j ≢ i → slice_get (slice_set xs i y) j ≡ slice_get xs j
set-elsewhere [] i j y d = refl
set-elsewhere (z ∷ xs) zero zero y d = absurd (d refl)
set-elsewhere (z ∷ xs) zero (suc j) y d = refl
set-elsewhere (z ∷ xs) (suc i) zero y d = refl
set-elsewhere (z ∷ xs) (suc i) (suc j) y d = set-elsewhere xs i j y (λ e. d (ap (λ (n : ℕ). suc n) e))

pub set-twice : {X : Type 0} (xs : List X) (i : ℕ) (x y : X) → slice_set (slice_set xs i x) i y ≡ slice_set xs i y
set-twice [] i x y = refl
set-twice (z ∷ xs) zero x y = refl
set-twice (z ∷ xs) (suc i) x y = ap (λ zs. z ∷ zs) (set-twice xs i x y)

pub set-same : {X : Type 0} (xs : List X) (i : ℕ) (x : X) → slice_get xs i ≡ Some x → slice_set xs i x ≡ xs
set-same [] i x e = refl
set-same (y ∷ xs) zero x e = let same : y ≡ x = cc in ap (λ z. z ∷ xs) (sym same)
set-same (y ∷ xs) (suc i) x e = ap (λ zs. y ∷ zs) (set-same xs i x e)

-- ---- each place

pub all-later : {X : Type 0} (P Q : X → Type 0) (xs : List X) → ((x : X) → P x → Q x) → AllByRecursion P xs → AllByRecursion Q xs
all-later P Q [] f p = tt
all-later P Q (x ∷ xs) f p = (f x p.0, all-later P Q xs f p.1)

pub all-after : {X : Type 0} (P : X → Type 0) (xs ys : List X) → AllByRecursion P (xs ++ ys) → AllByRecursion P ys
all-after P [] ys p = p
all-after P (x ∷ xs) ys p = all-after P xs ys p.1

pub all-set : {X : Type 0} (P : X → Type 0) (xs : List X) (i : ℕ) (x : X) → AllByRecursion P xs → P x → AllByRecursion P (slice_set xs i x)
all-set P [] i x all is = tt
all-set P (y ∷ xs) zero x all is = (is, all.1)
all-set P (y ∷ xs) (suc i) x all is = (all.0, all-set P xs i x all.1 is)

pub all-at : {X : Type 0} (P : X → Type 0) (xs : List X) (i : ℕ) (x : X) → AllByRecursion P xs → slice_get xs i ≡ Some x → P x
all-at P [] i x all there = absurd (none-some x there)
all-at P (y ∷ xs) zero x all there = subst P (inner y x there) all.0
all-at P (y ∷ xs) (suc i) x all there = all-at P xs i x all.1 there

pub all-removed : {X : Type 0} (P : X → Type 0) (xs : List X) (i : ℕ) → AllByRecursion P xs → AllByRecursion P (remove xs i)
all-removed P [] zero all = all
all-removed P [] (suc i) all = all
all-removed P (x ∷ xs) zero all = all.1
all-removed P (x ∷ xs) (suc i) all = (all.0, all-removed P xs i all.1)

pub total-removed : {X : Type 0} (weigh : X → ℕ) (xs : List X) (i : ℕ) (x : X) → slice_get xs i ≡ Some x → total weigh (remove xs i) + weigh x ≡ total weigh xs
total-removed weigh [] i x there = absurd (none-some x there)
total-removed weigh (y ∷ xs) zero x there = let same : weigh y ≡ weigh x = ap weigh (inner y x there) in omega arith
total-removed weigh (y ∷ xs) (suc i) x there = let others = total-removed weigh xs i x there in omega arith
