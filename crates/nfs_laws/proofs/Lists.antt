-- Lists: what holds of each element, look-ups, and a change at one place.
use Rattle.std.proofs.Common.{◌≡◌, ℕ, zero, suc, ◌<◌, true, List, [], ◌∷◌, ◌++◌, length, take, drop, Option, Some, None, refl, sym, ap, subst, arith}
use Rattle.std.specs.Prelude.{slice_get, is_none}
use Rattle.std.specs.List.{AllByRecursion, remove}
use Rattle.std.proofs.lemmas.List.{take-append-drop}
use Rattle.nfs_model.specs.World.{changed_at}

-- ---- each element

All-join : {A : Type 0} (P : A → Type 0) (xs ys : List A) → AllByRecursion P xs → AllByRecursion P ys → AllByRecursion P (xs ++ ys)
All-join P [] ys p q = q
All-join P (x ∷ xs) ys p q = (p.0, All-join P xs ys p.1 q)

All-left : {A : Type 0} (P : A → Type 0) (xs ys : List A) → AllByRecursion P (xs ++ ys) → AllByRecursion P xs
All-left P [] ys p = tt
All-left P (x ∷ xs) ys p = (p.0, All-left P xs ys p.1)

All-right : {A : Type 0} (P : A → Type 0) (xs ys : List A) → AllByRecursion P (xs ++ ys) → AllByRecursion P ys
All-right P [] ys p = p
All-right P (x ∷ xs) ys p = All-right P xs ys p.1

pub All-weaker : {A : Type 0} (P Q : A → Type 0) → ((x : A) → P x → Q x) → (xs : List A) → AllByRecursion P xs → AllByRecursion Q xs
All-weaker P Q f [] p = tt
All-weaker P Q f (x ∷ xs) p = (f x p.0, All-weaker P Q f xs p.1)

pub All-get : {A : Type 0} (P : A → Type 0) (xs : List A) (i : ℕ) (x : A) → slice_get xs i ≡ Some x → AllByRecursion P xs → P x
All-get P [] i x e p = absurd cc
All-get P (y ∷ xs) zero x e p = let same : y ≡ x = cc in subst P same p.0
All-get P (y ∷ xs) (suc i) x e p = All-get P xs i x e p.1

pub All-remove : {A : Type 0} (P : A → Type 0) (xs : List A) (i : ℕ) → AllByRecursion P xs → AllByRecursion P (remove xs i)
All-remove P xs i p =
    All-join P (take i xs) (drop (suc i) xs)
    (All-left P (take i xs) (drop i xs) (subst (AllByRecursion P) (sym (take-append-drop i xs)) p))
    (All-right P (take (suc i) xs) (drop (suc i) xs) (subst (AllByRecursion P) (sym (take-append-drop (suc i) xs)) p))

-- an element between others
pub All-between : {A : Type 0} (P : A → Type 0) (xs ys : List A) (x : A) → P x → AllByRecursion P (xs ++ ys) → AllByRecursion P (xs ++ x ∷ ys)
All-between P xs ys x h p = All-join P xs (x ∷ ys) (All-left P xs ys p) (h, All-right P xs ys p)

pub All-without : {A : Type 0} (P : A → Type 0) (xs ys : List A) (x : A) → AllByRecursion P (xs ++ x ∷ ys) → AllByRecursion P (xs ++ ys)
All-without P xs ys x p = All-join P xs ys (All-left P xs (x ∷ ys) p) (All-right P xs (x ∷ ys) p).1

pub All-there : {A : Type 0} (P : A → Type 0) (xs ys : List A) (x : A) → AllByRecursion P (xs ++ x ∷ ys) → P x
All-there P xs ys x p = (All-right P xs (x ∷ ys) p).0

pub All-push : {A : Type 0} (P : A → Type 0) (xs : List A) (x : A) → AllByRecursion P xs → P x → AllByRecursion P (xs ++ x ∷ [])
All-push P xs x p h = All-join P xs (x ∷ []) p (h, tt)

-- ---- look-ups

pub slice_get-append : {A : Type 0} (xs ys : List A) (i : ℕ) (x : A) → slice_get xs i ≡ Some x → slice_get (xs ++ ys) i ≡ Some x
slice_get-append [] ys i x e = absurd cc
slice_get-append (y ∷ xs) ys zero x e = e
slice_get-append (y ∷ xs) ys (suc i) x e = slice_get-append xs ys i x e

pub slice_get_next : {A : Type 0} (xs ys : List A) → slice_get (xs ++ ys) (length xs) ≡ slice_get ys 0
slice_get_next [] ys = refl
slice_get_next (y ∷ xs) ys = slice_get_next xs ys

pub slice_get_below : {A : Type 0} (xs : List A) (i : ℕ) (x : A) → slice_get xs i ≡ Some x → i < length xs
slice_get_below [] i x e = absurd cc
slice_get_below (y ∷ xs) zero x e = omega arith
slice_get_below (y ∷ xs) (suc i) x e = omega (arith, slice_get_below xs i x e)

pub Some_same : {A : Type 0} (x y : A) → Some x ≡ Some y → x ≡ y
Some_same x y e = cc

pub none_is : {A : Type 0} (o : Option A) → is_none o ≡ true → o ≡ None
none_is None e = refl
none_is (Some x) e = absurd cc

-- what holds at each place of a list and at one more holds at each place of the longer list
pub pushed_all : {X : Type 0} (P : ℕ → X → Type 0) (xs : List X) (y : X) → ((c : ℕ) (x : X) → slice_get xs c ≡ Some x → P c x) → P (length xs) y
    → (c : ℕ) (x : X) → slice_get (xs ++ y ∷ []) c ≡ Some x → P c x
pushed_all P [] y old here zero x e = subst (P 0) (Some_same y x e) here
pushed_all P [] y old here (suc c) x e = absurd cc
pushed_all P (z ∷ xs) y old here zero x e = old 0 x e
pushed_all P (z ∷ xs) y old here (suc c) x e = pushed_all (λ i. P (suc i)) xs y (λ i. old (suc i)) here c x e

-- ---- a change at one place

pub slice_get-changed_at : {X : Type 0} (f : X → X) (xs : List X) (k : ℕ) (x : X) → slice_get xs k ≡ Some x → slice_get (changed_at f xs k) k ≡ Some (f x)
slice_get-changed_at f [] k x e = absurd cc
slice_get-changed_at f (y ∷ xs) zero x e = ap (λ o. Some (f o)) (Some_same y x e)
slice_get-changed_at f (y ∷ xs) (suc k) x e = slice_get-changed_at f xs k x e

pub slice_get-changed_elsewhere : {X : Type 0} (f : X → X) (xs : List X) (k c : ℕ) → (c ≡ k → ⊥) → slice_get (changed_at f xs k) c ≡ slice_get xs c
slice_get-changed_elsewhere f [] k c ne = refl
slice_get-changed_elsewhere f (y ∷ xs) zero zero ne = absurd (ne refl)
slice_get-changed_elsewhere f (y ∷ xs) zero (suc c) ne = refl
slice_get-changed_elsewhere f (y ∷ xs) (suc k) zero ne = refl
slice_get-changed_elsewhere f (y ∷ xs) (suc k) (suc c) ne = slice_get-changed_elsewhere f xs k c (λ e. ne (ap suc e))

-- what holds elsewhere as before, and of the changed element, holds at each place
pub changed_all : {X : Type 0} (P : ℕ → X → Type 0) (f : X → X) (xs : List X) (k : ℕ)
    → ((c : ℕ) (x : X) → slice_get xs c ≡ Some x → (c ≡ k → ⊥) → P c x)
    → ((x : X) → slice_get xs k ≡ Some x → P k (f x))
    → (c : ℕ) (x : X) → slice_get (changed_at f xs k) c ≡ Some x → P c x
changed_all P f [] k other here c x e = absurd cc
changed_all P f (y ∷ xs) zero other here zero x e = subst (P 0) (Some_same (f y) x e) (here y refl)
changed_all P f (y ∷ xs) zero other here (suc c) x e = other (suc c) x e (λ z. absurd (omega arith))
changed_all P f (y ∷ xs) (suc k) other here zero x e = other 0 x e (λ z. absurd (omega arith))
changed_all P f (y ∷ xs) (suc k) other here (suc c) x e = changed_all (λ i. P (suc i)) f xs k (λ i z q ne. other (suc i) z q (λ s. ne (omega arith))) here c x e
