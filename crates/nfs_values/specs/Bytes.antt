-- The bytes of a READ, in place.
use Rattle.std.specs.Prelude.{◌≡◌, ◌⊎◌, ℕ, ◌+◌, ◌-◌, ◌%◌, ◌≤◌, [], length, vec_len, vec_capacity}
use Rattle.std.specs.Global.{Vec}

-- There is nothing, or 48 bytes before those of the READ; and room for zeros up to a multiple of four.
abbrev pub HasRoom : Vec ℕ → Type 0
HasRoom place =
    ((place.items ≡ []) ⊎ (48 ≤ length place.items))
    × (vec_len place + (4 - (vec_len place - 48) % 4) % 4 ≤ vec_capacity place)
