-- Handles as they are told.
use Rattle.std.proofs.Common.{◌≡◌, ℕ, ◌+◌, ◌≤◌, min, List, ◌++◌, length, take, ap, ◌∙◌, arith}
use Rattle.std.proofs.lemmas.List.{take_at, take_min, length-append, length-take-le}
use Rattle.std.proofs.lemmas.Slice.{take-put_mid}
use borrow.Rule.Slice.PartMut.{put_mid}

pub run_told : (handle verifier front rest : List ℕ) (n k : ℕ) → n ≡ min 12 (length handle) → front ≡ take n handle → length verifier ≡ 8
    → take (n + 8) (put_mid n k (front ++ rest) verifier) ≡ take 12 handle ++ verifier
run_told handle verifier front rest n k size is eight =
    let small : n ≤ length handle = omega (arith, size) in
    let len : length front ≡ n = ap (λ (l : List ℕ). length l) is ∙ length-take-le n handle small in
    let all = length-append front rest in
    take-put_mid n k (front ++ rest) verifier (n + 8) (omega (arith, eight)) (omega (arith, all, len))
    ∙ ap (λ (l : List ℕ). l ++ verifier)
    (take_at front rest n len ∙ is ∙ ap (λ (m : ℕ). take m handle) size ∙ take_min 12 handle)
