-- A list in three parts, read and changed at a position.
use Rattle.std.proofs.Common.{◌≡◌, refl, sym, ◌∙◌, ap, ℕ, zero, suc, ◌+◌, ◌-◌, ◌<◌, ◌≤◌, List, [], ◌∷◌, ◌++◌, length, take, drop, Some}
use Rattle.std.proofs.Common.{slice_set, arith, append_assoc, length-append}
use Rattle.std.specs.List.{slice_get, insert, remove}
use Rattle.std.proofs.lemmas.List.{drop-append-le, drop-drop, take-append-drop, take_all, length-take-le, set-append_left, set-append_right}
use Rattle.directories.specs.sequences.Values.{HasPositions}
use Rattle.std.proofs.lemmas.List.Edits.{length-insert, insert-append_left, insert-append_right, remove-append_left, remove-append_right}

-- ---- an element

get-left : {T : Type 0} (l m : List T) (i : ℕ) (x : T) → slice_get l i ≡ Some x → slice_get (l ++ m) i ≡ Some x
get-left [] m i x g = absurd (grind (arith, g))
get-left (y ∷ l) m zero x g = g
get-left (y ∷ l) m (suc i) x g = get-left l m i x g

get-right : {T : Type 0} (l m : List T) (i : ℕ) → length l ≤ i → slice_get (l ++ m) i ≡ slice_get m (i - length l)
get-right [] m i h = let e : i ≡ i - 0 = omega arith in ap (λ k. slice_get m k) e
get-right (y ∷ l) m zero h = absurd (omega (arith, h))
get-right (y ∷ l) m (suc i) h =
    let e : i - length l ≡ suc i - suc (length l) = omega arith in get-right l m i (omega (arith, h)) ∙ ap (λ k. slice_get m k) e

-- ---- a run

run-front : {T : Type 0} (run d m : List T) → take (length run) d ≡ run → take (length run) (d ++ m) ≡ run
run-front [] d m e = refl
run-front (x ∷ run) [] m e = absurd (grind (arith, e))
run-front (x ∷ run) (y ∷ d) m e =
    let head : y ≡ x = cc in
    let rest : take (length run) d ≡ run = cc in
    ap (λ z. z ∷ take (length run) (d ++ m)) head ∙ ap (λ l. x ∷ l) (run-front run d m rest)

past : {T : Type 0} (l m : List T) (i : ℕ) → length l ≤ i → drop i (l ++ m) ≡ drop (i - length l) m
past [] m i h = let e : i ≡ i - 0 = omega arith in ap (λ k. drop k m) e
past (x ∷ l) m zero h = absurd (omega (arith, h))
past (x ∷ l) m (suc i) h = let e : i - length l ≡ suc i - suc (length l) = omega arith in past l m i (omega (arith, h)) ∙ ap (λ k. drop k m) e

-- a run from one of its items on
run-rest : {T : Type 0} (n : ℕ) (run d : List T) → take (length run) d ≡ run → take (length (drop n run)) (drop n d) ≡ drop n run
run-rest zero run d e = e
run-rest (suc n) [] d e = refl
run-rest (suc n) (x ∷ run) [] e = absurd (grind (arith, e))
run-rest (suc n) (x ∷ run) (y ∷ d) e = let rest : take (length run) d ≡ run = cc in run-rest n run d rest

pub run-from : {T : Type 0} (all run : List T) (i n : ℕ) → n ≤ i → take (length run) (drop (i - n) all) ≡ run
    → take (length (drop n run)) (drop i all) ≡ drop n run
run-from all run i n h e =
    let whole : i - n + n ≡ i = omega (arith, h) in
    let from : drop i all ≡ drop n (drop (i - n) all) = ap (λ k. drop k all) (sym whole) ∙ sym (drop-drop n (i - n) all) in
    ap (λ d. take (length (drop n run)) d) from ∙ run-rest n run (drop (i - n) all) e

-- the first items of a run
pub run-shorter : {T : Type 0} (n : ℕ) (run d : List T) → take (length run) d ≡ run → take (length (take n run)) d ≡ take n run
run-shorter zero run d e = refl
run-shorter (suc n) [] d e = refl
run-shorter (suc n) (x ∷ run) [] e = absurd (grind (arith, e))
run-shorter (suc n) (x ∷ run) (y ∷ d) e =
    let head : y ≡ x = cc in
    let rest : take (length run) d ≡ run = cc in
    ap (λ z. z ∷ take (length (take n run)) d) head ∙ ap (λ l. x ∷ l) (run-shorter n run d rest)

emptied : {T : Type 0} (c : List T) (i : ℕ) → i < length c → length c ≡ 1 → remove c i ≡ []
emptied [] i h one = absurd (omega (arith, h))
emptied (x ∷ []) zero h one = refl
emptied (x ∷ []) (suc i) h one = absurd (omega (arith, h))
emptied (x ∷ y ∷ c) i h one = absurd (omega (arith, one))

-- ---- a tree's items: those on the left, a chunk, those on the right
-- b is the number of items on the left, and m the chunk as code has it

module _ {T : Type 0} (l c r : List T) (i b : ℕ) (left : b ≡ length l) where
  -- a run that has the place i, of which n items stand before it
  pub chunk-left : (run : List T) (n : ℕ) → i < b → take (length run) (drop (i - n) l) ≡ run → take (length run) (drop (i - n) (l ++ (c ++ r))) ≡ run
  chunk-left run n h e =
      ap (λ d. take (length run) d) (drop-append-le (i - n) l (c ++ r) (omega (arith, h, left))) ∙ run-front run (drop (i - n) l) (c ++ r) e

  pub chunk-middle : b ≤ i → take (length c) (drop (i - (i - b)) (l ++ (c ++ r))) ≡ c
  chunk-middle h =
      let from : i - (i - b) ≡ length l = omega (arith, h, left) in
      let none : length l - length l ≡ 0 = omega arith in
      ap (λ d. take (length c) d)
      (ap (λ k. drop k (l ++ (c ++ r))) from ∙ (past l (c ++ r) (length l) (omega arith) ∙ ap (λ k. drop k (c ++ r)) none))
      ∙ run-front c c r (take_all (length c) c (omega arith))

  pub chunk-right : (run : List T) (n : ℕ) → b ≤ i → length c ≤ i - b → n ≤ i - b - length c → take (length run) (drop (i - b - length c - n) r) ≡ run
      → take (length run) (drop (i - n) (l ++ (c ++ r))) ≡ run
  chunk-right run n h k w e =
      let far : length l ≤ i - n = omega (arith, h, k, w, left) in
      let farther : length c ≤ i - n - length l = omega (arith, h, k, w, left) in
      let from : i - n - length l - length c ≡ i - b - length c - n = omega (arith, h, k, w, left) in
      ap (λ d. take (length run) d) (past l (c ++ r) (i - n) far ∙ (past c r (i - n - length l) farther ∙ ap (λ m. drop m r) from)) ∙ e

  pub get-middle : (x : T) → b ≤ i → slice_get c (i - b) ≡ Some x → slice_get (l ++ (c ++ r)) i ≡ Some x
  get-middle x h g =
      get-right l (c ++ r) i (omega (arith, h, left)) ∙ (ap (λ k. slice_get (c ++ r) (i - k)) (sym left) ∙ get-left c r (i - b) x g)

  pub get-far : (x : T) → b ≤ i → length c ≤ i - b → slice_get r (i - b - length c) ≡ Some x → slice_get (l ++ (c ++ r)) i ≡ Some x
  get-far x h k g =
      get-right l (c ++ r) i (omega (arith, h, left)) ∙ (ap (λ k. slice_get (c ++ r) (i - k)) (sym left) ∙ (get-right c r (i - b) k ∙ g))

  pub remove-middle : b ≤ i → i - b < length c → l ++ (remove c (i - b) ++ r) ≡ remove (l ++ (c ++ r)) i
  remove-middle h k =
      ap (λ y. l ++ y) (sym (remove-append_left c r (i - b) k)) ∙ sym (remove-append_right l (c ++ r) b i (sym left) h)

  -- the only item of a chunk
  pub remove-only : b ≤ i → i - b < length c → length c ≡ 1 → l ++ r ≡ remove (l ++ (c ++ r)) i
  remove-only h k one = ap (λ y. l ++ (y ++ r)) (sym (emptied c (i - b) k one)) ∙ remove-middle h k

  pub remove-right : b ≤ i → length c ≤ i - b → l ++ (c ++ remove r (i - b - length c)) ≡ remove (l ++ (c ++ r)) i
  remove-right h k =
      ap (λ y. l ++ y) (sym (remove-append_right c r (length c) (i - b) refl k)) ∙ sym (remove-append_right l (c ++ r) b i (sym left) h)

  module _ (x : T) where
    pub insert-middle : b ≤ i → i - b ≤ length c → l ++ (insert c (i - b) x ++ r) ≡ insert (l ++ (c ++ r)) i x
    insert-middle h k =
        ap (λ y. l ++ y) (sym (insert-append_left c r (i - b) x k)) ∙ sym (insert-append_right l (c ++ r) b i x (sym left) h)

    pub insert-apart : (low high : List T) → low ++ high ≡ insert c (i - b) x → b ≤ i → i - b ≤ length c
        → l ++ (low ++ (high ++ r)) ≡ insert (l ++ (c ++ r)) i x
    insert-apart low high e h k =
        ap (λ y. l ++ y) (sym (append_assoc low high r)) ∙ (ap (λ y. l ++ (y ++ r)) e ∙ insert-middle h k)

    pub insert-right : b ≤ i → length c ≤ i - b → l ++ (c ++ insert r (i - b - length c) x) ≡ insert (l ++ (c ++ r)) i x
    insert-right h k =
        ap (λ y. l ++ y) (sym (insert-append_right c r (length c) (i - b) x refl k)) ∙ sym (insert-append_right l (c ++ r) b i x (sym left) h)

    pub set-left : i < b → slice_set l i x ++ (c ++ r) ≡ slice_set (l ++ (c ++ r)) i x
    set-left h = sym (set-append_left l (c ++ r) i x (omega (arith, h, left)))

    pub set-middle : b ≤ i → i - b < length c → l ++ (slice_set c (i - b) x ++ r) ≡ slice_set (l ++ (c ++ r)) i x
    set-middle h k = ap (λ y. l ++ y) (sym (set-append_left c r (i - b) x k)) ∙ sym (set-append_right l (c ++ r) b i x (sym left) h)

    pub set-right : b ≤ i → length c ≤ i - b → l ++ (c ++ slice_set r (i - b - length c) x) ≡ slice_set (l ++ (c ++ r)) i x
    set-right h k =
        ap (λ y. l ++ y) (sym (set-append_right c r (length c) (i - b) x refl k)) ∙ sym (set-append_right l (c ++ r) b i x (sym left) h)

-- ---- a chunk in two

module _ {T : Type 0} (xs : List T) (kept i : ℕ) (x : T) where
  pub in-lower : kept ≤ length xs → i ≤ kept → insert (take kept xs) i x ++ drop kept xs ≡ insert xs i x
  in-lower w h =
      let n = length-take-le kept xs w in
      sym (insert-append_left (take kept xs) (drop kept xs) i x (omega (arith, n, h))) ∙ ap (λ l. insert l i x) (take-append-drop kept xs)

  pub in-upper : kept ≤ length xs → kept ≤ i → take kept xs ++ insert (drop kept xs) (i - kept) x ≡ insert xs i x
  in-upper w h =
      sym (insert-append_right (take kept xs) (drop kept xs) kept i x (length-take-le kept xs w) h) ∙ ap (λ l. insert l i x) (take-append-drop kept xs)

-- ---- a side that has some positions

get-front : {T : Type 0} (l m : List T) (i : ℕ) → i < length l → slice_get l i ≡ slice_get (l ++ m) i
get-front [] m i h = absurd (omega (arith, h))
get-front (y ∷ l) m zero h = refl
get-front (y ∷ l) m (suc i) h = get-front l m i (omega (arith, h))

module _ {T : Type 0} (all l c r : List T) (low high first : ℕ) (h : HasPositions all low high first (l ++ (c ++ r))) where
  pub positions-left : high ≤ first + length l → HasPositions all low high first l
  positions-left e = record {
    begins = h.begins;
    ends = e;
    same = λ position a b. get-front l (c ++ r) (position - first) (let s = h.begins in omega (arith, e, a, b, s)) ∙ h.same position a b;
  }

  pub positions-right : (begin : ℕ) → begin ≡ first + length l + length c → begin ≤ low → HasPositions all low high begin r
  positions-right begin is e = record {
    begins = e;
    ends =
        let n = length-append l (c ++ r) in let m = length-append c r in let s = h.ends in omega (arith, n, m, s, is);
    same = λ position a b.
        let far : length l ≤ position - first = omega (arith, e, a, is) in
        let farther : length c ≤ position - first - length l = omega (arith, e, a, is) in
        let at : position - first - length l - length c ≡ position - begin = omega (arith, e, a, is) in
        ap (λ k. slice_get r k) (sym at)
        ∙ (sym (get-right c r (position - first - length l) farther) ∙ (sym (get-right l (c ++ r) (position - first) far) ∙ h.same position a b));
  }

-- ---- room for the count

pub upper-fits : {T : Type 0} (all l c r low high : List T) (i : ℕ) (x : T) (most : ℕ) → all ≡ l ++ (c ++ r) → low ++ high ≡ insert c i x → i ≤ length c
    → length all + 1 < most → length high + length r < most
upper-fits all l c r low high i x most is apart h f =
    let whole : length all ≡ length (l ++ (c ++ r)) = ap (λ y. length y) is in
    let parts : length (low ++ high) ≡ length (insert c i x) = ap (λ y. length y) apart in
    let more = length-insert c i x h in
    let a = length-append low high in
    let b = length-append l (c ++ r) in
    let d = length-append c r in
    omega (arith, whole, parts, more, a, b, d, f)
