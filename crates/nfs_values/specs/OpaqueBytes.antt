-- At most 64 bytes, with zeros behind them.
use Rattle.std.specs.Prelude.{◌≡◌, ℕ, ◌-◌, ◌≤◌, List, ◌++◌, length, take, replicate}
use Rattle.nfs_values.specs.declared.opaque_bytes.OpaqueBytes.TheInside.{Inside}

abbrev pub opaque_bytes : Inside → List ℕ
opaque_bytes o = take o.size o.bytes

abbrev pub IsOpaque : Inside → Type 0
IsOpaque o = (o.size ≤ 64) × (length o.bytes ≡ 64) × (o.bytes ≡ take o.size o.bytes ++ replicate (64 - o.size) 0)
