-- Bytes from an offset on, of a file that is told byte by byte.
use Rattle.std.proofs.Common.{◌≡◌, ℕ, zero, suc, ◌+◌, ◌-◌, ◌<◌, ◌≤◌, min, List, ◌∷◌, map, length, take, drop, refl, ap, ◌∙◌, arith}
use Rattle.std.specs.List.{range_with_len}
use Rattle.std.proofs.lemmas.List.FromFn.{length-map-range_with_len}
use Rattle.nfs_model.specs.Serial.Read.{bytes_at}

-- ---- functions of numbers in turn

pub same-map : {X : Type 0} (f g : ℕ → X) (a n : ℕ) → ((k : ℕ) → a ≤ k → k < a + n → f k ≡ g k)
    → map f (range_with_len a n) ≡ map g (range_with_len a n)
same-map f g a zero same = refl
same-map f g a (suc n) same =
    let head : f a ≡ g a = same a (omega arith) (omega arith) in
    let tail : map f (range_with_len (a + 1) n) ≡ map g (range_with_len (a + 1) n) =
    same-map f g (a + 1) n (λ k from below. same k (omega arith) (omega arith)) in
    λ j. head j ∷ tail j

pub take-map : {X : Type 0} (f : ℕ → X) (a k n : ℕ) → take k (map f (range_with_len a n)) ≡ map f (range_with_len a (min k n))
take-map f a zero n = let none : 0 ≡ min 0 n = omega arith in ap (λ m. map f (range_with_len a m)) none
take-map f a (suc k) zero = let none : 0 ≡ min (suc k) 0 = omega arith in ap (λ m. map f (range_with_len a m)) none
take-map f a (suc k) (suc n) =
    let one : suc (min k n) ≡ min (suc k) (suc n) = omega arith in
    ap (λ xs. f a ∷ xs) (take-map f (a + 1) k n) ∙ ap (λ m. map f (range_with_len a m)) one

pub drop-map : {X : Type 0} (f : ℕ → X) (a k n : ℕ) → drop k (map f (range_with_len a n)) ≡ map f (range_with_len (a + k) (n - k))
drop-map f a zero n = let from : a ≡ a + 0 = omega arith in let all : n ≡ n - 0 = omega arith in λ j. map f (range_with_len (from j) (all j))
drop-map f a (suc k) zero = let none : 0 ≡ 0 - suc k = omega arith in ap (λ m. map f (range_with_len (a + suc k) m)) none
drop-map f a (suc k) (suc n) =
    let from : a + 1 + k ≡ a + suc k = omega arith in
    let rest : n - k ≡ suc n - suc k = omega arith in
    drop-map f (a + 1) k n ∙ (λ j. map f (range_with_len (from j) (rest j)))

-- ---- bytes of a file of a size, whose byte at k is f k

module _ (f : ℕ → ℕ) (offset most size : ℕ) where
  pub bytes-from : bytes_at (map f (range_with_len 0 size)) offset most ≡ map f (range_with_len offset (min most (size - offset)))
  bytes-from =
      let from : 0 + offset ≡ offset = omega arith in
      ap (take most) (drop-map f 0 offset size ∙ ap (λ (a : ℕ). map f (range_with_len a (size - offset))) from)
      ∙ take-map f offset most (size - offset)

  pub many-from : length (bytes_at (map f (range_with_len 0 size)) offset most) ≡ min most (size - offset)
  many-from = ap (λ (xs : List ℕ). length xs) bytes-from ∙ length-map-range_with_len f offset (min most (size - offset))
