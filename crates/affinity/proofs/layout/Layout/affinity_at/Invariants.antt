use Rattle.std.proofs.Common.{◌≡◌, ◌+◌}
use Rattle.affinity.specs.Layout.{layout_of}
use Rattle.affinity.specs.Numbers.{volume_number}
use Rattle.affinity.proofs.layout.Layout.affinity_at.Given as goal

-- the place of the number, counted from the volume that comes next
abbrev pub invariant-loop-volume : goal.invariant-loop-volume
invariant-loop-volume l = volume_number (layout_of l.self) l.volume + l.place ≡ l.number
