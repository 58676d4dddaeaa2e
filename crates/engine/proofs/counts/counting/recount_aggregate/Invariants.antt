use Rattle.std.proofs.Common.{◌≡◌}
use Rattle.affinity.specs.Layout.{layout_of}
use Rattle.engine.specs.counts.Counts.{recounted, if_on}
use Rattle.engine.proofs.counts.counting.recount_aggregate.Given as goal

-- the volumes so far are counted
abbrev pub invariant-loop-volume : goal.invariant-loop-volume
invariant-loop-volume l = l.counts.items ≡ recounted (if_on (layout_of l.layout) l.aggregate l.held) 0 l.volume l.fn.counts.items
