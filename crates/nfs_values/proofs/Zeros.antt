-- Bytes with zeros behind them.
use Rattle.std.proofs.Common.{◌≡◌, ℕ, ◌-◌, ◌≤◌, List, ◌++◌, length, take, drop, replicate, refl, arith}
use Rattle.std.proofs.lemmas.List.{take_at, length-append, length-replicate, drop-replicate}

pub drop_opaque_zeros : (n : ℕ) → n ≤ 64 → drop {A = ℕ} n (replicate 64 0) ≡ replicate (64 - n) 0
drop_opaque_zeros n h = drop-replicate n 64 0

pub opaque_with_zeros : (bytes : List ℕ) → length bytes ≤ 64
    → (length (bytes ++ replicate (64 - length bytes) 0) ≡ 64) × (take (length bytes) (bytes ++ replicate (64 - length bytes) 0) ≡ bytes)
opaque_with_zeros bytes h =
    let zeros = replicate (64 - length bytes) 0 in
    (omega (arith, length-append bytes zeros, length-replicate {A = ℕ} (64 - length bytes) 0), take_at bytes zeros (length bytes) refl)

pub drop_short_zeros : (n : ℕ) → n ≤ 32 → drop {A = ℕ} n (replicate 32 0) ≡ replicate (32 - n) 0
drop_short_zeros n h = drop-replicate n 32 0

pub short_with_zeros : (bytes : List ℕ) → length bytes ≤ 32
    → (length (bytes ++ replicate (32 - length bytes) 0) ≡ 32) × (take (length bytes) (bytes ++ replicate (32 - length bytes) 0) ≡ bytes)
short_with_zeros bytes h =
    let zeros = replicate (32 - length bytes) 0 in
    (omega (arith, length-append bytes zeros, length-replicate {A = ℕ} (32 - length bytes) 0), take_at bytes zeros (length bytes) refl)
