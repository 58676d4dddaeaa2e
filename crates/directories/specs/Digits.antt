-- How many names a search by halving compares at most.
use Rattle.std.specs.Prelude.{ℕ, zero, suc, ◌+◌, ◌/◌, ◌==◌, if◌then◌else◌}

-- the binary digits of a number below 2 ^ fuel
abbrev pub digits_within : ℕ → ℕ → ℕ
digits_within zero n = 0
digits_within (suc fuel) n = if n == 0 then 0 else 1 + digits_within fuel (n / 2)

-- the number of binary digits of a number; 0 has none
unfoldable pub binary_digits : ℕ → ℕ
binary_digits n = digits_within n n
