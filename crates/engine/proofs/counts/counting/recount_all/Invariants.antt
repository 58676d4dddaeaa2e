use Rattle.std.proofs.Common.{◌≡◌}
use Rattle.affinity.specs.Layout.{layout_of}
use Rattle.engine.specs.counts.Counts.{recounted, in_whole}
use Rattle.engine.proofs.counts.counting.recount_all.Given as goal

-- the volumes so far are counted
abbrev pub invariant-loop-volume : goal.invariant-loop-volume
invariant-loop-volume l = l.counts.items ≡ recounted (in_whole (layout_of l.layout) l.held) 0 l.volume l.fn.counts.items
