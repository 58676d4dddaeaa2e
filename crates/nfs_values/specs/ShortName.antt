-- The bytes of a short name, in 32 with zeros behind them.
use Rattle.std.specs.Prelude.{◌≡◌, ℕ, ◌-◌, ◌≤◌, List, ◌++◌, length, take, replicate}
use Rattle.nfs_values.specs.declared.short_name.ShortName.TheInside.{Inside}

abbrev pub short_bytes : Inside → List ℕ
short_bytes s = take s.size s.bytes

abbrev pub IsShort : Inside → Type 0
IsShort s = (s.size ≤ 32) × (length s.bytes ≡ 32) × (s.bytes ≡ take s.size s.bytes ++ replicate (32 - s.size) 0)
