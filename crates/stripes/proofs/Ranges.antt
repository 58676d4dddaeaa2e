-- Lists over numbers that follow one another.
use Rattle.std.proofs.Common.{◌≡◌, ℕ, zero, suc, ◌+◌, ◌-◌, ◌/◌, ◌%◌, ◌<◌, ◌≤◌, ◌&&◌, Bool, true, false, cond, List, [], ◌∷◌, ◌++◌, map, length, take, drop}
use Rattle.std.proofs.Common.{get_or, replicate, refl, sym, ap, ◌∙◌, arith, inl, inr}
use Rattle.std.proofs.lemmas.Bool.{cases_eq}
use Rattle.std.specs.List.{range_with_len, list_all}
use Rattle.std.proofs.lemmas.List.{places, length-drop, length-take-le, get_or-replicate, length-replicate}
use Rattle.std.proofs.lemmas.List.FromFn.{fill_by_all}
use Rattle.nfs_model.specs.Server.{block_size}
use Rattle.nfs_model.specs.volume.Stripes.{byte_of}
use Rattle.nfs_model.specs.Serial.Write.{blocks_met}
use Rattle.std.proofs.Common.{◌==◌}
use Rattle.std.proofs.lemmas.Bool.Decides.{nat_tests}
use Rattle.stripes.specs.Spans.{Places, place_of, span_byte, span_read, last_met}

-- two lists that are the same function of numbers in turn
pub same-maps : {X : Type 0} (f g : ℕ → X) (a b n : ℕ) → ((i : ℕ) → i < n → f (a + i) ≡ g (b + i)) → map f (range_with_len a n) ≡ map g (range_with_len b n)
same-maps f g a b zero same = refl
same-maps f g a b (suc n) same =
    let at : (c : ℕ) → c ≡ c + 0 = λ c. omega arith in
    let next : (c i : ℕ) → c + 1 + i ≡ c + (i + 1) = λ c i. omega arith in
    let head : f a ≡ g b = ap f (at a) ∙ same 0 (omega arith) ∙ ap g (sym (at b)) in
    let tail : map f (range_with_len (a + 1) n) ≡ map g (range_with_len (b + 1) n) =
    same-maps f g (a + 1) (b + 1) n (λ i below. ap f (next a i) ∙ same (i + 1) (omega arith) ∙ ap g (sym (next b i))) in
    λ i. head i ∷ tail i

-- a range in two parts
map-range-append : {X : Type 0} (f : ℕ → X) (a n m : ℕ) → map f (range_with_len a (n + m)) ≡ map f (range_with_len a n) ++ map f
    (range_with_len (a + n) m)
map-range-append f a zero m = λ i. map f (range_with_len (from i) (count i))
  where
    from : a ≡ a + 0
    from = omega arith

    count : 0 + m ≡ m
    count = omega arith
map-range-append f a (suc n) m =
    let count : suc n + m ≡ suc (n + m) = omega arith in
    let from : a + 1 + n ≡ a + suc n = omega arith in
    ap (λ k. map f (range_with_len a k)) count ∙ ap (λ l. f a ∷ l) (map-range-append f (a + 1) n m)
    ∙ ap (λ b. f a ∷ (map f (range_with_len (a + 1) n) ++ map f (range_with_len b m))) from

-- a test of all numbers of a range, with the next one
pub all-range-more : (p : ℕ → Bool) (a n : ℕ) → list_all p (range_with_len a n) ≡ true → p (a + n) ≡ true → list_all p (range_with_len a (n + 1)) ≡ true
all-range-more p a zero all next =
    let count : 0 + 1 ≡ 1 = omega arith in let at : a ≡ a + 0 = omega arith in
    ap (λ k. list_all p (range_with_len a k)) count ∙ ap (λ b. b && true) (ap p at ∙ next)
all-range-more p a (suc n) all next =
    let count : suc n + 1 ≡ suc (n + 1) = omega arith in let at : a + 1 + n ≡ a + suc n = omega arith in
    ap (λ k. list_all p (range_with_len a k)) count ∙ by (p a) (list_all p (range_with_len (a + 1) n)) _ all
    (λ rest. all-range-more p (a + 1) n rest (ap p at ∙ next))
  where
    by : (x y z : Bool) → (x && y) ≡ true → (y ≡ true → z ≡ true) → (x && z) ≡ true
    by true y z e f = f e
    by false y z e f = absurd (let no : false ≡ true = e in cc)

-- one number fails
all-range-fails : (p : ℕ → Bool) (a n b : ℕ) → a ≤ b → b < a + n → p b ≡ false → list_all p (range_with_len a n) ≡ false
all-range-fails p a zero b from below fails = absurd (omega arith)
all-range-fails p a (suc n) b from below fails = elim (cases_eq a b) [
  | inl here ↦ ap (λ x. x && list_all p (range_with_len (a + 1) n)) (ap p here ∙ fails)
  | inr other ↦ by (p a) _ (all-range-fails p (a + 1) n b (omega arith) (omega arith) fails)
]
  where
    by : (x y : Bool) → y ≡ false → (x && y) ≡ false
    by true y e = e
    by false y e = refl

-- ---- bytes

-- a part of a list, by places
pub take-drop : (xs : List ℕ) (start n : ℕ) → start + n ≤ length xs → take n (drop start xs) ≡ map (λ i. get_or xs i 0) (range_with_len start n)
take-drop xs start n within =
    fill_by_all (λ k. get_or xs (start + k) 0) (take n (drop start xs)) n 0 (length-take-le n (drop start xs) (omega (arith, length-drop start xs)))
    (λ k below. grind (arith, places))
    ∙ same-maps (λ k. get_or xs (start + k) 0) (λ i. get_or xs i 0) 0 start n
    (λ i below. ap (λ j. get_or xs j 0) (let e : start + (0 + i) ≡ start + i = omega arith in e))

-- zeros, by places
pub zeros : (f : ℕ → ℕ) (start n : ℕ) → ((i : ℕ) → f i ≡ 0) → replicate n 0 ≡ map f (range_with_len start n)
zeros f start n zero_at =
    fill_by_all (λ _. 0) (replicate n 0) n 0 (length-replicate n 0) (λ k below. get_or-replicate n k 0 0 below)
    ∙ same-maps (λ _. 0) f 0 start n (λ i below. sym (zero_at (start + i)))

-- the bytes of a block that a part of a span has
pub block-read : (places : Places) (at start n : ℕ) → start ≡ at % block_size → start + n ≤ block_size
    → map (byte_of (place_of places (at / block_size))) (range_with_len start n) ≡ span_read places at n
block-read places at start n e within =
    same-maps (byte_of (place_of places (at / block_size))) (span_byte places) start at n (λ i below.
    let quotient : at / block_size ≡ (at + i) / block_size = omega arith in
    let rest : start + i ≡ (at + i) % block_size = omega arith in
    ap (byte_of (place_of places (at / block_size))) rest ∙ ap (λ b. byte_of (place_of places b) ((at + i) % block_size)) quotient)

-- what is read in two parts
pub span_read-append : (places : Places) (offset done n : ℕ) → span_read places offset (done + n) ≡ span_read places offset done ++ span_read places
    (offset + done) n
span_read-append places offset done n = map-range-append (span_byte places) offset done n

-- ---- the blocks that n bytes meet

pub blocks-met : (offset n : ℕ) → 0 < n → blocks_met offset n ≡ range_with_len (offset / block_size) (last_met offset n + 1 - offset / block_size)
blocks-met offset n some =
    let no : (n == 0) ≡ false = grind (arith, nat_tests) in
    ap (λ b. cond b [] (range_with_len (offset / block_size) (last_met offset n + 1 - offset / block_size))) no

-- a block among them isn't filled
pub not-filled : (p : ℕ → Bool) (offset n block : ℕ) → 0 < n → offset / block_size ≤ block → block ≤ last_met offset n → p block ≡ false
    → false ≡ list_all p (blocks_met offset n)
not-filled p offset n block some from below fails =
    sym (ap (list_all p) (blocks-met offset n some) ∙ all-range-fails p (offset / block_size) _ block from (omega arith) fails)
