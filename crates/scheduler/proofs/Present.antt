-- What is in cells, when one is filled, emptied or passed over.
use Rattle.std.proofs.Common.{◌≡◌, ◌⊎◌, refl, sym, ap, ◌∙◌, ℕ, zero, suc, ◌+◌, ◌<◌, ◌≤◌, List, [], ◌∷◌, ◌++◌, length, map, take, Bool, true, false}
use Rattle.std.proofs.Common.{Option, Some, None, is_some, get_or, set, length-append, arith, ⊎_elim}
use Rattle.std.specs.List.{slice_get, remove, filter}
use Rattle.std.proofs.lemmas.Option.{same_Some, none-some, slice_get_read}
use mir.Val.{bool_byte}
use Rattle.scheduler.specs.Kept.{present}
use Rattle.scheduler.proofs.Tables.{either}

module _ {X : Type 0} where
  pub present-some : (xs : List (Option X)) (i : ℕ) (x : X) → slice_get xs i ≡ Some (Some x) → present (take (suc i) xs) ≡ present (take i xs) ++ x ∷ []
  present-some [] i x e = absurd (none-some (Some x) e)
  present-some (None ∷ xs) zero x e = absurd (none-some x (same_Some None (Some x) e))
  present-some (Some y ∷ xs) zero x e = ap (λ (z : X). z ∷ []) (same_Some y x (same_Some (Some y) (Some x) e))
  present-some (None ∷ xs) (suc i) x e = present-some xs i x e
  present-some (Some y ∷ xs) (suc i) x e = ap (λ (z : List X). y ∷ z) (present-some xs i x e)

  present-none : (xs : List (Option X)) (i : ℕ) → slice_get xs i ≡ Some None → present (take (suc i) xs) ≡ present (take i xs)
  present-none [] i e = absurd (none-some None e)
  present-none (None ∷ xs) zero e = refl
  present-none (Some y ∷ xs) zero e = absurd (none-some y (sym (same_Some (Some y) None e)))
  present-none (None ∷ xs) (suc i) e = present-none xs i e
  present-none (Some y ∷ xs) (suc i) e = ap (λ (z : List X). y ∷ z) (present-none xs i e)

  -- the message of a cell stands at the place that counts those before
  pub present-at : (xs : List (Option X)) (i : ℕ) (x : X) → slice_get xs i ≡ Some (Some x) → slice_get (present xs) (length (present (take i xs))) ≡ Some x
  present-at [] i x e = absurd (none-some (Some x) e)
  present-at (None ∷ xs) zero x e = absurd (none-some x (same_Some None (Some x) e))
  present-at (Some y ∷ xs) zero x e = same_Some (Some y) (Some x) e
  present-at (None ∷ xs) (suc i) x e = present-at xs i x e
  present-at (Some y ∷ xs) (suc i) x e = present-at xs i x e

  pub present-set : (xs : List (Option X)) (i : ℕ) (x : X) → slice_get xs i ≡ Some (Some x)
      → present (set xs i None) ≡ remove (present xs) (length (present (take i xs)))
  present-set [] i x e = absurd (none-some (Some x) e)
  present-set (None ∷ xs) zero x e = absurd (none-some x (same_Some None (Some x) e))
  present-set (Some y ∷ xs) zero x e = refl
  present-set (None ∷ xs) (suc i) x e = present-set xs i x e
  present-set (Some y ∷ xs) (suc i) x e = ap (λ (z : List X). y ∷ z) (present-set xs i x e)

  pub present-push : (xs : List (Option X)) (x : X) → present (xs ++ Some x ∷ []) ≡ present xs ++ x ∷ []
  present-push [] x = refl
  present-push (None ∷ xs) x = present-push xs x
  present-push (Some y ∷ xs) x = ap (λ (z : List X). y ∷ z) (present-push xs x)

  pub vacant-push : (xs : List (Option X)) (x : Option X) (start : ℕ) → start ≤ length xs → present (take start xs) ≡ []
      → present (take start (xs ++ x ∷ [])) ≡ []
  vacant-push xs x zero l e = refl
  vacant-push [] x (suc start) l e = absurd (omega (arith, l))
  vacant-push (None ∷ xs) x (suc start) l e = vacant-push xs x start (omega (arith, l)) e
  vacant-push (Some y ∷ xs) x (suc start) l e = absurd (let z : suc (length (present (take start xs))) ≡ 0 = ap length e in omega (arith, z))

  pub vacant-set : (xs : List (Option X)) (i start : ℕ) → present (take start xs) ≡ [] → present (take start (set xs i None)) ≡ []
  vacant-set xs i zero e = refl
  vacant-set [] i (suc start) e = refl
  vacant-set (None ∷ xs) zero (suc start) e = e
  vacant-set (None ∷ xs) (suc i) (suc start) e = vacant-set xs i start e
  vacant-set (Some y ∷ xs) i (suc start) e = absurd (let z : suc (length (present (take start xs))) ≡ 0 = ap length e in omega (arith, z))

  pub present-all : (ys : List X) → present (map (λ (y : X). Some y) ys) ≡ ys
  present-all [] = refl
  present-all (y ∷ ys) = ap (λ (z : List X). y ∷ z) (present-all ys)

  pub some-of : (xs : List (Option X)) → filter (λ (o : Option X). is_some o) xs ≡ map (λ (x : X). Some x) (present xs)
  some-of [] = refl
  some-of (None ∷ xs) = some-of xs
  some-of (Some y ∷ xs) = ap (λ (z : List (Option X)). Some y ∷ z) (some-of xs)

  pub count-rises : (xs : List (Option X)) (i j : ℕ) → i ≤ j → length (present (take i xs)) ≤ length (present (take j xs))
  count-rises xs zero j l = omega arith
  count-rises xs (suc i) zero l = absurd (omega (arith, l))
  count-rises [] (suc i) (suc j) l = omega arith
  count-rises (None ∷ xs) (suc i) (suc j) l = count-rises xs i j (omega (arith, l))
  count-rises (Some y ∷ xs) (suc i) (suc j) l = let r = count-rises xs i j (omega (arith, l)) in omega (arith, r)

  pub count-below : (xs : List (Option X)) (i : ℕ) → length (present (take i xs)) ≤ i
  count-below xs zero = omega arith
  count-below [] (suc i) = omega arith
  count-below (None ∷ xs) (suc i) = let r = count-below xs i in omega (arith, r)
  count-below (Some y ∷ xs) (suc i) = let r = count-below xs i in omega (arith, r)

  -- the cell of a message at a place
  pub cell-of : (xs : List (Option X)) (p : ℕ) (x : X) → slice_get (present xs) p ≡ Some x → (j : ℕ) × (slice_get xs j ≡ Some (Some x))
      × (p ≡ length (present (take j xs)))
  cell-of [] p x e = absurd (none-some x e)
  cell-of (None ∷ xs) p x e = let r = cell-of xs p x e in (suc r.0, r.1, r.2)
  cell-of (Some y ∷ xs) zero x e = (0, ap (λ (z : Option X). Some z) e, refl)
  cell-of (Some y ∷ xs) (suc p) x e = let r = cell-of xs p x e in (suc r.0, r.1, ap suc r.2)

-- ---- cells as the code reads them

pub one-more : (i : ℕ) → i + 1 ≡ suc i
one-more i = omega arith

module _ {X : Type 0} where
  pub read-is : (xs : List (Option X)) (i : ℕ) (r : Option X) → i < length xs → r ≡ get_or xs i r → slice_get xs i ≡ Some r
  read-is xs i r l e = slice_get_read xs (length xs) i r refl l e

  pub message-at : (xs : List (Option X)) (i : ℕ) (r : Option X) → i < length xs → r ≡ get_or xs i r → is_some r ≡ true → (x : X)
      × (slice_get xs i ≡ Some (Some x))
  message-at xs i None l e s = absurd cc
  message-at xs i (Some x) l e s = (x, read-is xs i (Some x) l e)

  pub count-some : (xs : List (Option X)) (i : ℕ) (r : Option X) → i < length xs → r ≡ get_or xs i r → is_some r ≡ true
      → length (present (take (i + 1) xs)) ≡ length (present (take i xs)) + 1
  count-some xs i None l e s = absurd cc
  count-some xs i (Some x) l e s = ap (λ (k : ℕ). length (present (take k xs))) (one-more i) ∙ ap length (present-some xs i x (read-is xs i (Some x) l e))
      ∙ length-append (present (take i xs)) (x ∷ [])

  pub none-more : (xs : List (Option X)) (i : ℕ) (r : Option X) → i < length xs → r ≡ get_or xs i r → is_some r ≡ false
      → present (take (i + 1) xs) ≡ present (take i xs)
  none-more xs i (Some x) l e s = absurd cc
  none-more xs i None l e s = ap (λ (k : ℕ). present (take k xs)) (one-more i) ∙ present-none xs i (read-is xs i None l e)

  pub count-more : (xs : List (Option X)) (i n : ℕ) (r : Option X) (b : Bool) → i < length xs → r ≡ get_or xs i r → b ≡ is_some r
      → n ≡ length (present (take i xs))
      → n + bool_byte b ≡ length (present (take (i + 1) xs))
  count-more xs i n (Some x) true l e s t = let m = count-some xs i (Some x) l e refl in omega (arith, m, t)
  count-more xs i n None true l e s t = absurd cc
  count-more xs i n (Some x) false l e s t = absurd cc
  count-more xs i n None false l e s t = let m = ap length (none-more xs i None l e refl) in omega (arith, m, t)

  -- a message is past the cells that are vacant
  pub used-after : (xs : List (Option X)) (start cell : ℕ) → present (take start xs) ≡ [] → ((x : X) × (slice_get xs cell ≡ Some (Some x))) → start ≤ cell
  used-after xs start cell e t = ⊎_elim (λ (l : cell < start).
      let m = count-rises xs (suc cell) start (omega (arith, l)) in
      let c = ap length (present-some xs cell t.0 t.1) in
      let a = length-append (present (take cell xs)) (t.0 ∷ []) in
      let z : length (present (take start xs)) ≡ 0 = ap length e in absurd (omega (arith, m, c, a, z)))
      (λ (u : (cell ≡ start) ⊎ (start < cell)). ⊎_elim (λ (e : cell ≡ start). omega (arith, e)) (λ (l : start < cell). omega (arith, l)) u) (either start cell)
