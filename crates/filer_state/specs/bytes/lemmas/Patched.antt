-- Bytes of a file that is told byte by byte, after others are written over some of them.
use Rattle.std.proofs.Common.{◌≡◌, ℕ, zero, suc, ◌+◌, ◌-◌, ◌<◌, ◌≤◌, Bool, true, false, List, [], ◌∷◌, ◌++◌, map, length, take, drop, replicate}
use Rattle.std.proofs.Common.{nat_le, refl, sym, ap, ◌∙◌, arith}
use Rattle.std.specs.Prelude.{if◌then◌else◌, slice_index_or}
use Rattle.std.specs.List.{range_with_len}
use Rattle.std.proofs.lemmas.Bool.Decides.{nat_tests}
use Rattle.std.proofs.lemmas.List.FromFn.{length-map-range_with_len, take-map-range_with_len}
use Rattle.nfs_model.specs.Serial.Write.{written_bytes}
use Rattle.nfs_model.specs.volume.Stripes.{byte_written}
use Rattle.filer_state.specs.bytes.lemmas.Bytes.{same-map, drop-map}

-- ---- a byte

pub past-list : (xs : List ℕ) (i d : ℕ) → length xs ≤ i → slice_index_or xs i d ≡ d
past-list [] i d past = refl
past-list (x ∷ xs) zero d past = absurd (omega (arith, past))
past-list (x ∷ xs) (suc i) d past = past-list xs i d (omega (arith, past))

same-default : (xs : List ℕ) (i d e : ℕ) → i < length xs → slice_index_or xs i d ≡ slice_index_or xs i e
same-default [] i d e less = absurd (omega (arith, less))
same-default (x ∷ xs) zero d e less = refl
same-default (x ∷ xs) (suc i) d e less = same-default xs i d e (omega (arith, less))

module _ (offset : ℕ) (written : List ℕ) where
  pub byte-before : (at old : ℕ) → at < offset → byte_written offset written at old ≡ old
  byte-before at old less =
      let test : nat_le offset at ≡ false = grind (arith, nat_tests) in
      ap (λ (b : Bool). if b then slice_index_or written (at - offset) old else old) test

  pub byte-past : (at old : ℕ) → offset + length written ≤ at → byte_written offset written at old ≡ old
  byte-past at old past =
      let test : nat_le offset at ≡ true = grind (arith, nat_tests) in
      ap (λ (b : Bool). if b then slice_index_or written (at - offset) old else old) test
      ∙ past-list written (at - offset) old (omega (arith, past))

  byte-inside : (i old : ℕ) → i < length written → byte_written offset written (offset + i) old ≡ slice_index_or written i 0
  byte-inside i old less =
      let test : nat_le offset (offset + i) ≡ true = grind (arith, nat_tests) in
      let place : offset + i - offset ≡ i = omega arith in
      ap (λ (b : Bool). if b then slice_index_or written (offset + i - offset) old else old) test
      ∙ ap (λ (k : ℕ). slice_index_or written k old) place ∙ same-default written i old 0 less

-- ---- a list by a range

map-split : (g : ℕ → ℕ) (a n m all : ℕ) → all ≡ n + m → map g (range_with_len a all) ≡ map g (range_with_len a n) ++ map g (range_with_len (a + n) m)
map-split g a zero m all is =
    let many : all ≡ m = omega (arith, is) in
    let from : a ≡ a + 0 = omega arith in
    λ j. map g (range_with_len (from j) (many j))
map-split g a (suc n) m all is =
    let many : all ≡ suc (n + m) = omega (arith, is) in
    let from : a + 1 + n ≡ a + suc n = omega arith in
    ap (λ (k : ℕ). map g (range_with_len a k)) many
    ∙ ap (λ (xs : List ℕ). g a ∷ xs) (map-split g (a + 1) n m (n + m) refl)
    ∙ ap (λ (k : ℕ). g a ∷ (map g (range_with_len (a + 1) n) ++ map g (range_with_len k m))) from

map-listed : (g : ℕ → ℕ) (xs : List ℕ) (a : ℕ) → ((i : ℕ) → i < length xs → g (a + i) ≡ slice_index_or xs i 0) → map g (range_with_len a (length xs)) ≡ xs
map-listed g [] a same = refl
map-listed g (x ∷ xs) a same =
    let from : a ≡ a + 0 = omega arith in
    let head : g a ≡ x = ap g from ∙ same 0 (omega arith) in
    let tail : map g (range_with_len (a + 1) (length xs)) ≡ xs = map-listed g xs (a + 1) (λ i less.
    let next : a + 1 + i ≡ a + suc i = omega arith in ap g next ∙ same (suc i) (omega (arith, less))) in
    λ j. head j ∷ tail j

grouped : (xs ys zs : List ℕ) → xs ++ (ys ++ zs) ≡ xs ++ [] ++ ys ++ zs
grouped [] ys zs = refl
grouped (x ∷ xs) ys zs = ap (λ (all : List ℕ). x ∷ all) (grouped xs ys zs)

-- ---- all bytes

module _ (f g : ℕ → ℕ) (offset size : ℕ) (written : List ℕ) (within : offset + length written ≤ size)
    (same : (k : ℕ) → g k ≡ byte_written offset written k (f k)) where
  abbrev many : ℕ
  many = length written

  abbrev rest : ℕ
  rest = size - (offset + many)

  before : map g (range_with_len 0 offset) ≡ take offset (map f (range_with_len 0 size))
  before =
      same-map g f 0 offset (λ k from less. same k ∙ byte-before offset written k (f k) (omega (arith, less)))
      ∙ sym (take-map-range_with_len f 0 size offset (omega (arith, within)))

  inside : map g (range_with_len offset many) ≡ written
  inside = map-listed g written offset (λ i less. same (offset + i) ∙ byte-inside offset written i (f (offset + i)) less)

  past : map g (range_with_len (offset + many) rest) ≡ drop (offset + many) (map f (range_with_len 0 size))
  past =
      same-map g f (offset + many) rest (λ k from less. same k ∙ byte-past offset written k (f k) (omega (arith, from)))
      ∙ ap (λ (a : ℕ). map f (range_with_len a rest)) (let from : offset + many ≡ 0 + (offset + many) = omega arith in from)
      ∙ sym (drop-map f 0 (offset + many) size)

  no_gap : 0 ≡ offset - length (map f (range_with_len 0 size))
  no_gap = let long = length-map-range_with_len f 0 size in omega (arith, long, within)

  pub bytes-written : map g (range_with_len 0 size) ≡ written_bytes (map f (range_with_len 0 size)) offset written
  bytes-written =
      map-split g 0 offset (size - offset) size (omega (arith, within))
      ∙ ap (λ (a : ℕ). map g (range_with_len 0 offset) ++ map g (range_with_len a (size - offset))) (let from : 0 + offset ≡ offset = omega arith in from)
      ∙ ap (λ (xs : List ℕ). map g (range_with_len 0 offset) ++ xs) (map-split g offset many rest (size - offset) (omega (arith, within)))
      ∙ grouped (map g (range_with_len 0 offset)) (map g (range_with_len offset many)) (map g (range_with_len (offset + many) rest))
      ∙ (λ j. before j ++ replicate {A = ℕ} (no_gap j) 0 ++ inside j ++ past j)
