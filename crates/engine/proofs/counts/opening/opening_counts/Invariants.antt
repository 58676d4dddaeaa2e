use Rattle.std.proofs.Common.{◌≡◌, map, take}
use Rattle.affinity.specs.Layout.{layout_of}
use Rattle.engine.proofs.counts.Opened.{counts_given}
use Rattle.engine.proofs.counts.opening.opening_counts.Given as goal

-- the volumes so far are counted
abbrev pub invariant-loop-volume : goal.invariant-loop-volume
invariant-loop-volume l = l.counts.items ≡ map counts_given (take l.volume (layout_of l.layout).volumes)
