-- How many bytes a device in memory moves.
use Rattle.std.specs.Prelude.{◌≡◌, ◌≤◌, ℕ, ⊤}
use Rattle.connections.specs.declared.told.Told.{Told}
use Rattle.connections.specs.declared.told.Told.TheVariants.{Moved, Blocked, Failed}

-- no more than these, and none only of none
abbrev pub IsWithin : Told → ℕ → Type 0
IsWithin (Moved n) most = (n ≤ most) × (n ≡ 0 → most ≡ 0)
IsWithin Blocked most = ⊤
IsWithin Failed most = ⊤
