-- What a node covers.
use Rattle.std.proofs.Common.{◌≡◌, ℕ, zero, suc, ◌<◌, ◌≤◌, List, length, ap, arith, ⊎_elim}
use Rattle.std.proofs.lemmas.Bool.{cases_lt}
use Rattle.std.proofs.lemmas.List.{get_or_past}
use Rattle.affinity.specs.Ancestors.{Covers, tally, ancestors}
use Rattle.affinity.specs.lemmas.Standing.{ancestors-root}

-- a node covers numbers of nodes alone
pub covers-place : (ps : List ℕ) (b k : ℕ) → 0 < b → b < length ps → Covers ps b k → (0 < k) × (k < length ps)
covers-place ps b k some below cover = ⊎_elim
    (λ (e : b ≡ k). (omega arith, omega arith))
    (λ (h : 0 < tally b (ancestors ps k)). (
      positive k h,
      ⊎_elim (λ (l : k < length ps). l) (λ (m : length ps ≤ k). absurd (past m h)) (cases_lt k (length ps)),
    ))
    cover
  where
    positive : (n : ℕ) → 0 < tally b (ancestors ps n) → 0 < n
    positive zero h = absurd (omega arith)
    positive (suc n) h = omega arith

    past : length ps ≤ k → 0 < tally b (ancestors ps k) → ⊥
    past m h =
        let none : tally b (ancestors ps k) ≡ 0 = ap (tally b) (ancestors-root ps k (get_or_past ps k 0 m)) in
        omega arith
