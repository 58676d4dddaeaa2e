-- Quotients by the size of a range.
use Rattle.std.proofs.Common.{◌≡◌, sym, ap, ◌∙◌, ℕ, ◌+◌, ◌-◌, ◌*◌, ◌/◌, ◌%◌, ◌^◌, ◌<◌, ◌≤◌, arith}
use Rattle.std.proofs.lemmas.Nat.{div-mul-add, div-add-mod', div_below, pow_pos}
use native.Mathlib.Nat.{mul_comm, mod-lt, div-lt_iff_lt-mul}
use Rattle.nfs_model.specs.volume.Ranges.{IsRangeSize}

-- a number within a range is of it
quotient-by : (size range low b : ℕ) → low ≡ range * size → low ≤ b → b < low + size → b / size ≡ range
quotient-by size range low b e l h =
    let parts : b ≡ range * size + (b - low) = omega (arith, e, l) in
    ap (λ n. n / size) parts ∙ div-mul-add range size (b - low) (omega (arith, l, h))

pub quotient-is : (size range b : ℕ) → size * range ≤ b → b < size * range + size → b / size ≡ range
quotient-is size range b l h = quotient-by size range (size * range) b (mul_comm size range) l h

-- where a number of a range is
pub record IsWithin (size first b : ℕ) : Type 0 where
  pub low : first ≤ b
  pub high : b < first + size
  pub place : first + b % size ≡ b
  pub less : b % size < size

within-by : (size first b whole : ℕ) → whole + b % size ≡ b → first ≡ whole → b % size < size → IsWithin size first b
within-by size first b whole w e l = record { low = omega (arith, w, e); high = omega (arith, w, e, l); place = omega (arith, w, e); less = l }

pub within-range : (size range b : ℕ) → 0 < size → b / size ≡ range → IsWithin size (size * range) b
within-range size range b some e =
    within-by size (size * range) b (b / size * size) (div-add-mod' b size) (mul_comm size range ∙ ap (λ n. n * size) (sym e)) (mod-lt b some)

-- a number is in one of the first ranges exactly when it is below their end
pub below-range : (size ranges b : ℕ) → 0 < size → b < ranges * size → b / size < ranges
below-range size ranges b some l = div_below b size ranges some l

pub range-below : (size ranges b : ℕ) → 0 < size → b / size < ranges → b < ranges * size
range-below size ranges b some l = (div-lt_iff_lt-mul some).0 l

-- ---- sizes

size-by : (size power : ℕ) → size ≡ 1024 * power → 0 < power → (0 < size) × (64 * (size / 64) ≡ size)
size-by size power e some = (omega (arith, e, some), omega (arith, e))

pub size-some : (size : ℕ) → IsRangeSize size → 0 < size
size-some size h = (size-by size (2 ^ h.doublings) h.is (pow_pos h.doublings)).0
