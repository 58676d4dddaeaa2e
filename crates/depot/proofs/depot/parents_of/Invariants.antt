use Rattle.std.proofs.Common.{◌≡◌, ◌<◌, ◌≤◌, ℕ, ◌+◌, length, slice_index}
use Rattle.affinity.specs.Layout.{layout_of}
use Rattle.affinity.specs.Numbers as numbers
use Rattle.depot.proofs.depot.parents_of.Given as goal

-- the entries so far are the list's
abbrev pub invariant-loop-number : goal.invariant-loop-number
invariant-loop-number l = (length l.parents.items ≡ 1 + numbers.node_count (layout_of l.layout)) × (1 ≤ l.number)
    × ((k : ℕ) → k < l.number → slice_index l.parents.items k ≡ slice_index (numbers.parents (layout_of l.layout)) k)
