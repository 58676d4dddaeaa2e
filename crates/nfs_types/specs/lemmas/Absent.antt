-- Optional parts that are absent.
use Rattle.std.proofs.Common.{◌≡◌, ℕ, zero, suc, ◌+◌, ◌*◌, List, ◌++◌, length, refl, ap, append_assoc, add-one, arith}
use Rattle.std.proofs.lemmas.List.{length-append}
use Rattle.xdr.specs.Shape.{word}
use Rattle.nfs_types.specs.Results.{absent_bytes}

absent_bytes-suc : (n : ℕ) → absent_bytes (suc n) ≡ absent_bytes n ++ word 0
absent_bytes-suc zero = refl
absent_bytes-suc (suc n) = ap (λ (t : List ℕ). word 0 ++ t) (absent_bytes-suc n)

-- one more part
pub absent_bytes-more : (n : ℕ) → absent_bytes (n + 1) ≡ absent_bytes n ++ word 0
absent_bytes-more n = rw add-one (absent_bytes-suc n)

pub length-absent_bytes : (n : ℕ) → length (absent_bytes n) ≡ 4 * n
length-absent_bytes zero = refl
length-absent_bytes (suc n) = omega (arith, length-absent_bytes n, length-append (word 0) (absent_bytes n))

pub ruleset absent = (absent_bytes-more, length-absent_bytes, append_assoc, length-append)
