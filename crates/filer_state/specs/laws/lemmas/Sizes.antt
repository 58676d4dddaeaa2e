-- Products and quotients by the blocks of a range.
use Rattle.std.proofs.Common.{◌≡◌, sym, ap, ◌∙◌, subst, ℕ, ◌+◌, ◌-◌, ◌*◌, ◌/◌, ◌^◌, ◌<◌, ◌≤◌, arith}
use Rattle.std.proofs.Math.Nat.{mul-add, mul-one, mul_comm}
use Rattle.std.proofs.lemmas.Nat.{div-mul-add, div_below, pow_pos}
use Rattle.nfs_model.specs.volume.Ranges.{IsRangeSize}

-- the end of a range is where the next begins
pub next-range : (size r : ℕ) → size * r + size ≡ size * (r + 1)
next-range size r = ap (λ (k : ℕ). size * r + k) (sym (mul-one size)) ∙ sym (mul-add size r 1)

-- a number within a range is of it
quotient-by : (size range low b : ℕ) → low ≡ range * size → low ≤ b → b < low + size → b / size ≡ range
quotient-by size range low b e l h =
    let parts : b ≡ range * size + (b - low) = omega (arith, e, l) in
    ap (λ n. n / size) parts ∙ div-mul-add range size (b - low) (omega (arith, l, h))

pub quotient-is : (size range b : ℕ) → size * range ≤ b → b < size * range + size → b / size ≡ range
quotient-is size range b l h = quotient-by size range (size * range) b (mul_comm size range) l h

-- a number below the end of some ranges is in one of them
pub quotient-below : (size ranges b : ℕ) → 0 < size → b < size * ranges → b / size < ranges
quotient-below size ranges b some l = div_below b size ranges some (subst (λ (n : ℕ). b < n) (mul_comm size ranges) l)

some-by : (size power : ℕ) → size ≡ 1024 * power → 0 < power → 0 < size
some-by size power e some = omega (arith, e, some)

-- a range has a block
pub size-some : (size : ℕ) → IsRangeSize size → 0 < size
size-some size h = some-by size (2 ^ h.doublings) h.is (pow_pos h.doublings)
