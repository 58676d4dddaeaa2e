-- A range of twice as many blocks.
use Rattle.std.proofs.Common.{◌≡◌, ℕ, suc, ◌*◌, ◌^◌, ◌<◌, ◌≤◌, arith, ⊎_elim}
use Rattle.std.proofs.Math.Nat.{pow-le-pow_right, pow-succ'}
use Rattle.std.proofs.lemmas.Bool.{cases_lt}
use Rattle.nfs_model.specs.volume.Ranges.{IsRangeSize}

-- where 16 ranges have fewer than the most blocks of a volume, ranges of twice as many may be
pub doubled : (size blocks : ℕ) → IsRangeSize size → 16 * size < blocks → blocks ≤ 268435456 → IsRangeSize (size * 2)
doubled size blocks h less most =
    let d = h.doublings in
    let is = h.is in
    let next : 2 ^ suc d ≡ 2 * 2 ^ d = pow-succ' 2 d in
    let few : size * 2 ≤ 16777216 =
    ⊎_elim
    (λ (below : d < 14).
    let small : d ≤ 13 = omega (arith, below) in
    let power : 2 ^ d ≤ 2 ^ 13 = pow-le-pow_right {n = 2} (omega arith) small in
    omega (arith, is, power))
    (λ (above : 14 ≤ d).
    let power : 2 ^ 14 ≤ 2 ^ d = pow-le-pow_right {n = 2} (omega arith) above in
    absurd (omega (arith, is, power, less, most)))
    (cases_lt d 14) in
    record { doublings = suc d; is = omega (arith, is, next); most = few }
