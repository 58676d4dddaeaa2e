-- The stripe of a span.
use Rattle.std.proofs.Common.{◌≡◌, ℕ, ◌+◌, ◌%◌, sym}
use Rattle.std.proofs.Math.Nat.{add-mod}

-- a sum's remainder is that of the remainders' sum
pub remainder_of_parts : (a b n : ℕ) → (a % n + b % n) % n ≡ (a + b) % n
remainder_of_parts a b n = sym (add-mod a b n)
