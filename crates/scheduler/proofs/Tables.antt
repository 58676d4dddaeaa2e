-- Lists changed at one place or at their end, read by place; the first and the last of some cells.
use Rattle.std.proofs.Common.{◌≡◌, ◌≢◌, ◌⊎◌, refl, sym, subst, ap, ◌∙◌, ℕ, zero, suc, ◌+◌, ◌<◌, ◌≤◌, List, [], ◌∷◌, ◌++◌, length, take, drop, Option}
use Rattle.std.proofs.Common.{Some, None, set, arith, inl, inr, ⊎_elim}
use Rattle.std.specs.List.{slice_get}
use Rattle.std.proofs.lemmas.Option.{same_Some, none-some}
use Rattle.std.proofs.Math.Seq.{take-append_seam}
use Rattle.scheduler.specs.Lines.{IsFirstFrom, IsLastBelow, entry, held}

-- ---- lists

module _ {X : Type 0} where
  pub get-set : (xs : List X) (i : ℕ) (x : X) → i < length xs → slice_get (set xs i x) i ≡ Some x
  get-set [] i x l = absurd (omega (arith, l))
  get-set (y ∷ xs) zero x l = refl
  get-set (y ∷ xs) (suc i) x l = get-set xs i x (omega (arith, l))

  pub get-set-other : (xs : List X) (i j : ℕ) (x : X) → j ≢ i → slice_get (set xs i x) j ≡ slice_get xs j
  get-set-other [] i j x n = refl
  get-set-other (y ∷ xs) zero zero x n = absurd (n refl)
  get-set-other (y ∷ xs) zero (suc j) x n = refl
  get-set-other (y ∷ xs) (suc i) zero x n = refl
  get-set-other (y ∷ xs) (suc i) (suc j) x n = get-set-other xs i j x (λ e. n (omega (arith, e)))

  pub get-before : (xs : List X) (x : X) (j : ℕ) → j < length xs → slice_get (xs ++ x ∷ []) j ≡ slice_get xs j
  get-before [] x j l = absurd (omega (arith, l))
  get-before (y ∷ xs) x zero l = refl
  get-before (y ∷ xs) x (suc j) l = get-before xs x j (omega (arith, l))

  pub get-end : (xs : List X) (x : X) → slice_get (xs ++ x ∷ []) (length xs) ≡ Some x
  get-end [] x = refl
  get-end (y ∷ xs) x = get-end xs x

  pub get-past : (xs : List X) (x y : X) (j : ℕ) → slice_get (xs ++ x ∷ []) j ≡ Some y → (j < length xs) ⊎ ((j ≡ length xs) × (x ≡ y))
  get-past [] x y zero e = inr (refl, same_Some x y e)
  get-past [] x y (suc j) e = absurd (none-some y e)
  get-past (z ∷ xs) x y zero e = inl (omega arith)
  get-past (z ∷ xs) x y (suc j) e =
      ⊎_elim (λ (l : j < length xs). inl (omega (arith, l))) (λ (t : (j ≡ length xs) × (x ≡ y)). let e = t.0 in inr (omega (arith, e), t.1))
      (get-past xs x y j e)

  pub within : (xs : List X) (j : ℕ) (x : X) → slice_get xs j ≡ Some x → j < length xs
  within [] j x e = absurd (none-some x e)
  within (y ∷ xs) zero x e = omega arith
  within (y ∷ xs) (suc j) x e = let l = within xs j x e in omega (arith, l)

  -- a slice of a whole vector, written back
  pub whole : (n : ℕ) (xs ys : List X) → n ≡ length xs → length ys ≡ length xs → take n (ys ++ drop (length ys) xs) ≡ ys
  whole n xs ys e f = ap (λ (k : ℕ). take k (ys ++ drop (length ys) xs)) (e ∙ sym f) ∙ take-append_seam ys (drop (length ys) xs)

-- ---- which comes first

pub either : (i j : ℕ) → (j < i) ⊎ ((j ≡ i) ⊎ (i < j))
either zero zero = inr (inl refl)
either zero (suc j) = inr (inr (omega arith))
either (suc i) zero = inl (omega arith)
either (suc i) (suc j) =
    ⊎_elim (λ (l : j < i). inl (omega (arith, l)))
    (λ (t : (j ≡ i) ⊎ (i < j)). inr (⊎_elim (λ (e : j ≡ i). inl (ap suc e)) (λ (l : i < j). inr (omega (arith, l))) t)) (either i j)

pub same : (i j : ℕ) → (i ≡ j) ⊎ (i ≢ j)
same i j = ⊎_elim (λ (l : j < i). inr (λ e. absurd (omega (arith, l, e))))
    (λ (t : (j ≡ i) ⊎ (i < j)). ⊎_elim (λ (e : j ≡ i). inl (sym e)) (λ (l : i < j). inr (λ e. absurd (omega (arith, l, e)))) t) (either i j)

pub first-is : (Is : ℕ → Type 0) (low i : ℕ) (r : Option ℕ) → IsFirstFrom Is low r → r ≡ Some i → IsFirstFrom Is low (Some i)
first-is Is low i r s e = subst (λ (o : Option ℕ). IsFirstFrom Is low o) e s

pub last-is : (Is : ℕ → Type 0) (high i : ℕ) (r : Option ℕ) → IsLastBelow Is high r → r ≡ Some i → IsLastBelow Is high (Some i)
last-is Is high i r s e = subst (λ (o : Option ℕ). IsLastBelow Is high o) e s

-- ---- entries of a table

pub entry-set : (xs : List (Option ℕ)) (i : ℕ) (x : Option ℕ) → i < length xs → entry (set xs i x) i ≡ x
entry-set xs i x l = ap held (get-set xs i x l)

pub entry-other : (xs : List (Option ℕ)) (i j : ℕ) (x : Option ℕ) → j ≢ i → entry (set xs i x) j ≡ entry xs j
entry-other xs i j x n = ap held (get-set-other xs i j x n)

pub entry-before : (xs : List (Option ℕ)) (x : Option ℕ) (j : ℕ) → j < length xs → entry (xs ++ x ∷ []) j ≡ entry xs j
entry-before xs x j l = ap held (get-before xs x j l)

pub entry-end : (xs : List (Option ℕ)) (x : Option ℕ) (j : ℕ) → j ≡ length xs → entry (xs ++ x ∷ []) j ≡ x
entry-end xs x j e = ap (entry (xs ++ x ∷ [])) e ∙ ap held (get-end xs x)

-- ---- the first and the last of some cells

module _ (Is Is' : ℕ → Type 0) where
  -- the same cells
  pub first-same : (low : ℕ) (r : Option ℕ) → ((j : ℕ) → Is j → Is' j) → ((j : ℕ) → Is' j → Is j) → IsFirstFrom Is low r → IsFirstFrom Is' low r
  first-same low None to from s = λ j l q. s j l (from j q)
  first-same low (Some k) to from s = (s.0, to k s.1, λ j l m q. s.2 j l m (from j q))

  pub last-same : (high high' : ℕ) (r : Option ℕ) → high ≤ high' → ((j : ℕ) → Is j → Is' j) → ((j : ℕ) → Is' j → Is j × (j < high)) → IsLastBelow Is high r
      → IsLastBelow Is' high' r
  last-same high high' None w to from s = λ j l q. s j (from j q).1 (from j q).0
  last-same high high' (Some k) w to from s = (let l = s.0 in omega (arith, l, w), to k s.1, λ j l m q. s.2 j l (from j q).1 (from j q).0)

  -- one cell more, after all others
  pub first-more : (low n b : ℕ) (r : Option ℕ) → ((j : ℕ) → Is j → Is' j) → ((j : ℕ) → Is j → j < n) → ((j : ℕ) → Is' j → Is j ⊎ (j ≡ n)) → low ≤ b → Is b
      → IsFirstFrom Is low r → IsFirstFrom Is' low r
  first-more low n b None to below from l is s = absurd (s b l is)
  first-more low n b (Some k) to below from l is s =
      let kn = below k s.1 in
      (s.0, to k s.1, λ j g m q. ⊎_elim (λ (p : Is j). s.2 j g m p) (λ (e : j ≡ n). absurd (omega (arith, kn, e, m))) (from j q))

  pub first-new : (low n : ℕ) → ((j : ℕ) → Is' j → Is j ⊎ (j ≡ n)) → low ≤ n → Is' n → ((j : ℕ) → low ≤ j → j < n → Is j → ⊥) → IsFirstFrom Is' low (Some n)
  first-new low n from l is none =
      (l, is, λ j g m q. ⊎_elim (λ (p : Is j). none j g m p) (λ (e : j ≡ n). absurd (omega (arith, e, m))) (from j q))

  -- one cell less
  pub first-kept : (low i : ℕ) (r : Option ℕ) → ((j : ℕ) → Is j → j ≢ i → Is' j) → ((j : ℕ) → Is' j → Is j × (j ≢ i)) → r ≢ Some i → IsFirstFrom Is low r
      → IsFirstFrom Is' low r
  first-kept low i None to from n s = λ j l q. s j l (from j q).0
  first-kept low i (Some k) to from n s = (s.0, to k s.1 (λ e. n (ap (λ (x : ℕ). Some x) e)), λ j l m q. s.2 j l m (from j q).0)

  pub first-after : (low i : ℕ) (r : Option ℕ) → ((j : ℕ) → Is j → j ≢ i → Is' j) → ((j : ℕ) → Is' j → Is j × (j ≢ i)) → low ≤ i
      → ((j : ℕ) → low ≤ j → j < i → Is j → ⊥) → IsFirstFrom Is (i + 1) r → IsFirstFrom Is' low r
  first-after low i None to from w none s = λ j l q. ⊎_elim (λ (m : j < i). none j l m (from j q).0)
      (λ (t : (j ≡ i) ⊎ (i < j)). ⊎_elim (λ (e : j ≡ i). (from j q).1 e) (λ (m : i < j). s j (omega (arith, m)) (from j q).0) t) (either i j)
  first-after low i (Some k) to from w none s =
      let ik = s.0 in (
        omega (arith, w, ik),
        to k s.1 (λ e. absurd (omega (arith, e, ik))),
        λ j l m q. ⊎_elim (λ (g : j < i). none j l g (from j q).0)
            (λ (t : (j ≡ i) ⊎ (i < j)). ⊎_elim (λ (e : j ≡ i). (from j q).1 e) (λ (g : i < j). s.2 j (omega (arith, g)) m (from j q).0) t) (either i j),
      )

  pub last-kept : (high i : ℕ) (r : Option ℕ) → ((j : ℕ) → Is j → j ≢ i → Is' j) → ((j : ℕ) → Is' j → Is j × (j ≢ i)) → r ≢ Some i → IsLastBelow Is high r
      → IsLastBelow Is' high r
  last-kept high i None to from n s = λ j l q. s j l (from j q).0
  last-kept high i (Some k) to from n s = (s.0, to k s.1 (λ e. n (ap (λ (x : ℕ). Some x) e)), λ j l m q. s.2 j l m (from j q).0)

  pub last-before : (high i : ℕ) (r : Option ℕ) → ((j : ℕ) → Is j → j ≢ i → Is' j) → ((j : ℕ) → Is' j → Is j × (j ≢ i)) → i < high
      → ((j : ℕ) → i < j → Is j → ⊥) → IsLastBelow Is i r → IsLastBelow Is' high r
  last-before high i None to from w none s = λ j l q. ⊎_elim (λ (m : j < i). s j m (from j q).0)
      (λ (t : (j ≡ i) ⊎ (i < j)). ⊎_elim (λ (e : j ≡ i). (from j q).1 e) (λ (m : i < j). none j m (from j q).0) t) (either i j)
  last-before high i (Some k) to from w none s =
      let ki = s.0 in (
        omega (arith, w, ki),
        to k s.1 (λ e. absurd (omega (arith, e, ki))),
        λ j l m q. ⊎_elim (λ (g : j < i). s.2 j l g (from j q).0)
            (λ (t : (j ≡ i) ⊎ (i < j)). ⊎_elim (λ (e : j ≡ i). (from j q).1 e) (λ (g : i < j). none j g (from j q).0) t) (either i j),
      )
