use Rattle.std.proofs.Common.{◌≡◌, ◌+◌, ◌*◌, ◌≤◌}
use Rattle.affinity.specs.Layout.{layout_of}
use Rattle.affinity.specs.Numbers.{volume_number}
use Rattle.affinity.proofs.layout.Layout.volume_number.Given as goal

-- the number of the volume that comes next, each one before having at most 35 nodes
abbrev pub invariant-loop-earlier : goal.invariant-loop-earlier
invariant-loop-earlier l = (l.number ≡ volume_number (layout_of l.self) l.earlier) × (l.number ≤ 4 + 35 * l.earlier)
