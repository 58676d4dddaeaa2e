-- Bytes that go out one part after another.
use Rattle.std.proofs.Common.{◌≡◌, ◌+◌, ◌-◌, ◌++◌, ℕ, List, take, drop, length, length-drop, Option, sym, ap, subst, ◌∙◌, arith}
use Rattle.std.proofs.lemmas.List.{take_all}
use Rattle.std.proofs.KnownBytes.{Appends-trans}
use Rattle.std.proofs.Math.Seq.{take-add}
use Rattle.std.specs.Io.KnownBytes.{Appends}

take-rest : (xs : List ℕ) (m : ℕ) → take (length xs - m) (drop m xs) ≡ drop m xs
take-rest xs m = take_all (length xs - m) (drop m xs) (omega (arith, length-drop m xs))

-- the first m, and then n of those behind them
pub more-went-out : (a b c : Option (List ℕ)) (xs : List ℕ) (m n : ℕ) → Appends a b (take m xs)
    → Appends b c (take n (take (length xs - m) (drop m xs))) → Appends a c (take (m + n) xs)
more-went-out a b c xs m n h k =
    let parts = take-add m n xs ∙ ap (λ (l : List ℕ). take m xs ++ take n l) (sym (take-rest xs m)) in
    subst (Appends a c) (sym parts) (Appends-trans a b c _ _ h k)
