use Rattle.std.proofs.Common.{◌≡◌, ◌+◌, length}
use Rattle.affinity.specs.Layout.{layout_of}
use Rattle.affinity.specs.Numbers.{node_count}
use Rattle.filer_state.proofs.Laid.{LaidBelow}
use Rattle.filer_state.proofs.opening.opening_parcels.Given as goal

-- the nodes so far have their parcels
abbrev pub invariant-loop-number : goal.invariant-loop-number
invariant-loop-number l = (length l.shelf.parcels.items ≡ 1 + node_count (layout_of l.layout))
    × LaidBelow (layout_of l.layout) l.verifier.0 l.number l.shelf.parcels.items
