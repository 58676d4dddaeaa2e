use Rattle.std.proofs.Common.{◌≡◌, map}
use Rattle.nfs_values.specs.Answer.{count_of}
use Rattle.affinity.specs.Layout.{layout_of}
use Rattle.filer_state.specs.state.Contents.{each}
use Rattle.service.proofs.totals.Counts.{count_by}
use Rattle.service.proofs.totals.counting.census.Given as goal

-- the volumes so far are counted
abbrev pub invariant-loop-volume : goal.invariant-loop-volume
invariant-loop-volume l = map count_of l.counts.items ≡ each (count_by (layout_of l.layout) l.held) 0 l.volume
