use Rattle.std.proofs.Common.{◌≡◌, ◌+◌, length, get_or, None}
use Rattle.affinity.specs.Layout.{layout_of}
use Rattle.affinity.specs.Numbers.{node_count}
use Rattle.parcels.specs.Exact.{kind_in}
use Rattle.depot.specs.trial.Adding.{AreEach}
use Rattle.depot.proofs.trial.Trials.{LaidBelow}
use Rattle.depot.proofs.trial.adding.all_of.Given as goal

-- the nodes so far have their parcels, each of which is the number
abbrev pub invariant-loop-number : goal.invariant-loop-number
invariant-loop-number l = (length l.shelf.parcels.items ≡ 1 + node_count (layout_of l.layout)) × LaidBelow kind_in (layout_of l.layout) l.number
    l.shelf.parcels.items × AreEach l.each (λ k. get_or l.shelf.parcels.items k None)
