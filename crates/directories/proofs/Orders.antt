-- The order of names, and lists that are sorted by it.
use Rattle.std.proofs.Common.{◌≡◌, refl, sym, subst, ◌∙◌, ap, ℕ, zero, suc, Bool, true, false, List, [], ◌∷◌, take, drop, Some, arith, if◌then◌else◌}
use Rattle.std.specs.List.{AllByRecursion, slice_get, filter, insert}
use Rattle.std.specs.List.Sorted.{IsStrictlySortedBy}
use Rattle.std.specs.Ordering.{on, ordering_reverse}
use Rattle.std.specs.declared.cmp.Ordering.{Ordering}
use Rattle.std.specs.declared.cmp.Ordering.TheVariants.{Less, Equal, Greater}
use Rattle.std.specs.FinMap.{slice_cmp-IsAntisymmetric, nat_cmp-IsAntisymmetric}
use Rattle.std.proofs.lemmas.Cmp.{nat_list_cmp_total}
use Rattle.directories.specs.Hash.{name_hash}
use Rattle.directories.specs.Index.{name_cmp}

-- names are ordered as lists are that begin with their hashes
abbrev keyed : List ℕ → List ℕ
keyed x = name_hash x ∷ x

turned : (x y : List ℕ) → name_cmp x y ≡ ordering_reverse (name_cmp y x)
turned x y = nat_list_cmp_total.antisymm (keyed x) (keyed y)

turned-less : (x y : List ℕ) → name_cmp x y ≡ Greater → name_cmp y x ≡ Less
turned-less x y h = turned y x ∙ ap ordering_reverse h

pub turned-greater : (x y : List ℕ) → name_cmp x y ≡ Less → name_cmp y x ≡ Greater
turned-greater x y h = turned y x ∙ ap ordering_reverse h

less-less : (x y z : List ℕ) → name_cmp x y ≡ Less → name_cmp y z ≡ Less → name_cmp x z ≡ Less
less-less x y z = nat_list_cmp_total.trans (keyed x) (keyed y) (keyed z)

pub same-names : (x y : List ℕ) → name_cmp x y ≡ Equal → x ≡ y
same-names x y h = ap (λ l. drop 1 l) (slice_cmp-IsAntisymmetric nat_cmp-IsAntisymmetric (keyed x) (keyed y) h)

pub with-itself : (x : List ℕ) → name_cmp x x ≡ Equal
with-itself x = by (name_cmp x x) (turned x x)
  where
    by : (o : Ordering) → o ≡ ordering_reverse o → o ≡ Equal
    by Less e = absurd (grind (arith, e))
    by Equal e = refl
    by Greater e = absurd (grind (arith, e))

-- ---- all of a list

module _ {K : Type 0} (P : K → Type 0) where
  pub all-at : (xs : List K) (i : ℕ) (x : K) → AllByRecursion P xs → slice_get xs i ≡ Some x → P x
  all-at [] i x a s = absurd (grind (arith, s))
  all-at (y ∷ xs) zero x a s = let same : y ≡ x = grind (arith, s) in subst P same a.0
  all-at (y ∷ xs) (suc i) x a s = all-at xs i x a.1 s

  pub all-insert : (xs : List K) (i : ℕ) (x : K) → AllByRecursion P xs → P x → AllByRecursion P (insert xs i x)
  all-insert xs zero x a p = (p, a)
  all-insert [] (suc i) x a p = (p, a)
  all-insert (y ∷ xs) (suc i) x a p = (a.0, all-insert xs i x a.1 p)

  pub all-take : (xs : List K) (i : ℕ) → AllByRecursion P xs → AllByRecursion P (take i xs)
  all-take xs zero a = tt
  all-take [] (suc i) a = tt
  all-take (y ∷ xs) (suc i) a = (a.0, all-take xs i a.1)

  pub all-drop : (xs : List K) (i : ℕ) → AllByRecursion P xs → AllByRecursion P (drop i xs)
  all-drop xs zero a = a
  all-drop [] (suc i) a = tt
  all-drop (y ∷ xs) (suc i) a = all-drop xs i a.1

  pub all-filter : (t : K → Bool) (xs : List K) → AllByRecursion P xs → AllByRecursion P (filter t xs)
  all-filter t [] a = tt
  all-filter t (y ∷ xs) a = by (t y) (all-filter t xs a.1)
    where
      by : (b : Bool) → AllByRecursion P (filter t xs) → AllByRecursion P (if b then y ∷ filter t xs else filter t xs)
      by true r = (a.0, r)
      by false r = r

module _ {K : Type 0} (P Q : K → Type 0) where
  pub all-so : ((x : K) → P x → Q x) → (xs : List K) → AllByRecursion P xs → AllByRecursion Q xs
  all-so f [] a = tt
  all-so f (x ∷ xs) a = (f x a.0, all-so f xs a.1)

-- ---- a sorted list

module _ {K : Type 0} (f : K → List ℕ) where
  abbrev pub AllAre : List ℕ → Ordering → List K → Type 0
  AllAre name o xs = AllByRecursion (λ x. name_cmp (f x) name ≡ o) xs

  pub all-before : (xs : List K) (i : ℕ) (x : K) (name : List ℕ) → IsStrictlySortedBy (on f name_cmp) xs → slice_get xs i ≡ Some x
      → name_cmp (f x) name ≡ Less → AllAre name Less (take (suc i) xs)
  unfolding IsStrictlySortedBy
  all-before [] i x name s g l = tt
  all-before (y ∷ xs) zero x name s g l = let same : y ≡ x = grind (arith, g) in (subst (λ z. name_cmp (f z) name ≡ Less) (sym same) l, tt)
  all-before (y ∷ xs) (suc i) x name s g l =
      (less-less (f y) (f x) name (all-at (λ z. name_cmp (f y) (f z) ≡ Less) xs i x s.0 g) l, all-before xs i x name s.1 g l)

  pub all-after : (xs : List K) (i : ℕ) (x : K) (name : List ℕ) → IsStrictlySortedBy (on f name_cmp) xs → slice_get xs i ≡ Some x
      → name_cmp (f x) name ≡ Greater → AllAre name Greater (drop i xs)
  unfolding IsStrictlySortedBy
  all-after [] i x name s g l = absurd (grind (arith, g))
  all-after (y ∷ xs) zero x name s g l =
      let same : y ≡ x = grind (arith, g) in
      let here : name_cmp (f y) name ≡ Greater = subst (λ z. name_cmp (f z) name ≡ Greater) (sym same) l in (
        here,
        all-so (λ z. name_cmp (f y) (f z) ≡ Less) (λ z. name_cmp (f z) name ≡ Greater)
            (λ z p. turned-greater name (f z) (less-less name (f y) (f z) (turned-less (f y) name here) p)) xs s.0,
      )
  all-after (y ∷ xs) (suc i) x name s g l = all-after xs i x name s.1 g l

  pub sorted-insert : (xs : List K) (i : ℕ) (x : K) (name : List ℕ) → IsStrictlySortedBy (on f name_cmp) xs → f x ≡ name
      → AllAre name Less (take i xs) → AllAre name Greater (drop i xs) → IsStrictlySortedBy (on f name_cmp) (insert xs i x)
  unfolding IsStrictlySortedBy
  sorted-insert xs zero x name s e b a = (
    all-so (λ z. name_cmp (f z) name ≡ Greater) (λ z. name_cmp (f x) (f z) ≡ Less)
        (λ z p. subst (λ n. name_cmp n (f z) ≡ Less) (sym e) (turned-less (f z) name p)) xs a,
    s,
  )
  sorted-insert [] (suc i) x name s e b a = (tt, tt)
  sorted-insert (y ∷ xs) (suc i) x name s e b a =
      (all-insert (λ z. name_cmp (f y) (f z) ≡ Less) xs i x s.0 (subst (λ n. name_cmp (f y) n ≡ Less) (sym e) b.0), sorted-insert xs i x name s.1 e b.1 a)

  pub sorted-filter : (t : K → Bool) (xs : List K) → IsStrictlySortedBy (on f name_cmp) xs → IsStrictlySortedBy (on f name_cmp) (filter t xs)
  unfolding IsStrictlySortedBy
  sorted-filter t [] s = tt
  sorted-filter t (y ∷ xs) s = by (t y) (sorted-filter t xs s.1)
    where
      by : (b : Bool) → IsStrictlySortedBy (on f name_cmp) (filter t xs) → IsStrictlySortedBy (on f name_cmp) (if b then y ∷ filter t xs else filter t xs)
      by true r = (all-filter (λ z. name_cmp (f y) (f z) ≡ Less) t xs s.0, r)
      by false r = r

-- two ways to name the elements that agree
module _ {K : Type 0} (f g : K → List ℕ) where
  pub all-agree : (xs : List K) (name : List ℕ) (o : Ordering) → AllByRecursion (λ x. g x ≡ f x) xs → AllAre f name o xs → AllAre g name o xs
  all-agree [] name o e a = tt
  all-agree (x ∷ xs) name o e a = (subst (λ n. name_cmp n name ≡ o) (sym e.0) a.0, all-agree xs name o e.1 a.1)

  less-agree : (x : K) (xs : List K) → g x ≡ f x → AllByRecursion (λ y. g y ≡ f y) xs → AllByRecursion (λ y. name_cmp (f x) (f y) ≡ Less) xs
      → AllByRecursion (λ y. name_cmp (g x) (g y) ≡ Less) xs
  less-agree x [] e es a = tt
  less-agree x (y ∷ xs) e es a =
      (subst (λ n. name_cmp n (g y) ≡ Less) (sym e) (subst (λ n. name_cmp (f x) n ≡ Less) (sym es.0) a.0), less-agree x xs e es.1 a.1)

  pub sorted-agree : (xs : List K) → AllByRecursion (λ x. g x ≡ f x) xs → IsStrictlySortedBy (on f name_cmp) xs → IsStrictlySortedBy (on g name_cmp) xs
  unfolding IsStrictlySortedBy
  sorted-agree [] e s = tt
  sorted-agree (x ∷ xs) e s = (less-agree x xs e.0 e.1 s.0, sorted-agree xs e.1 s.1)
