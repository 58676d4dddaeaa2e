-- Bytes written to a file whose further bytes are zeros: it may be taken to be longer before.
use Rattle.std.proofs.Common.{◌≡◌, ℕ, zero, suc, ◌+◌, ◌-◌, ◌<◌, ◌≤◌, max, min, List, ◌∷◌, ◌++◌, map, length, take, drop, replicate}
use Rattle.std.proofs.Common.{refl, sym, ap, ◌∙◌, arith}
use Rattle.std.specs.List.{range_with_len}
use Rattle.std.proofs.lemmas.List.FromFn.{length-map-range_with_len}
use Rattle.nfs_model.specs.Serial.Write.{written_bytes}
use Rattle.filer_state.specs.bytes.lemmas.Bytes.{take-map, drop-map}

zeros-from : (g : ℕ → ℕ) (a n : ℕ) → ((k : ℕ) → a ≤ k → k < a + n → g k ≡ 0) → map g (range_with_len a n) ≡ replicate {A = ℕ} n 0
zeros-from g a zero none = refl
zeros-from g a (suc n) none = λ j.
    none a (omega arith) (omega arith) j ∷ zeros-from g (a + 1) n (λ k low less. none k (omega (arith, low)) (omega (arith, less))) j

padded : (g : ℕ → ℕ) (a n more all : ℕ) → all ≡ n + more → ((k : ℕ) → a + n ≤ k → k < a + n + more → g k ≡ 0)
    → map g (range_with_len a n) ++ replicate {A = ℕ} more 0 ≡ map g (range_with_len a all)
padded g a zero more all is none =
    let many : more ≡ all = omega (arith, is) in
    sym (zeros-from g a more (λ k low less. none k (omega (arith, low)) (omega (arith, less))))
    ∙ ap (λ (m : ℕ). map g (range_with_len a m)) many
padded g a (suc n) more all is none =
    let many : suc (n + more) ≡ all = omega (arith, is) in
    ap (λ (xs : List ℕ). g a ∷ xs) (padded g (a + 1) n more (n + more) refl (λ k low less. none k (omega (arith, low)) (omega (arith, less))))
    ∙ ap (λ (m : ℕ). map g (range_with_len a m)) many

module _ (g : ℕ → ℕ) (offset : ℕ) where
  -- the bytes before an offset, with zeros for a gap
  front : (n : ℕ) → ((k : ℕ) → n ≤ k → g k ≡ 0)
      → take offset (map g (range_with_len 0 n)) ++ replicate {A = ℕ} (offset - length (map g (range_with_len 0 n))) 0 ≡ map g (range_with_len 0 offset)
  front n none =
      (λ j. take-map g 0 offset n j ++ replicate {A = ℕ} (offset - length-map-range_with_len g 0 n j) 0)
      ∙ padded g 0 (min offset n) (offset - n) offset (omega arith) (λ k low less. none k (omega (arith, low, less)))

  module _ (written : List ℕ) (size : ℕ) (none : (k : ℕ) → size ≤ k → g k ≡ 0) where
    abbrev longer : ℕ
    longer = max size (offset + length written)

    pub written-longer : written_bytes (map g (range_with_len 0 longer)) offset written ≡ written_bytes (map g (range_with_len 0 size)) offset written
    written-longer =
        let first : take offset (map g (range_with_len 0 longer)) ++ replicate {A = ℕ} (offset - length (map g (range_with_len 0 longer))) 0
        ≡ take offset (map g (range_with_len 0 size)) ++ replicate {A = ℕ} (offset - length (map g (range_with_len 0 size))) 0 =
        front longer (λ k low. none k (omega (arith, low))) ∙ sym (front size none) in
        let rest : longer - (offset + length written) ≡ size - (offset + length written) = omega arith in
        let last : drop (offset + length written) (map g (range_with_len 0 longer)) ≡ drop (offset + length written) (map g (range_with_len 0 size)) =
        drop-map g 0 (offset + length written) longer
        ∙ ap (λ (n : ℕ). map g (range_with_len (0 + (offset + length written)) n)) rest
        ∙ sym (drop-map g 0 (offset + length written) size) in
        λ j. first j ++ written ++ last j
