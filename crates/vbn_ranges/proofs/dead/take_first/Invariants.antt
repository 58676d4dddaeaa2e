use Rattle.std.proofs.Common.{◌≡◌, ◌≤◌, ◌*◌}
use Rattle.vbn_ranges.proofs.DeadSets.{EmptyBefore}
use Rattle.vbn_ranges.proofs.dead.take_first.Given as goal

abbrev pub invariant-loop-i : goal.invariant-loop-i
invariant-loop-i l = record {
  same : l.ranges ≡ l.fn.ranges;
  empty : EmptyBefore l.most l.i l.ranges;
  looked : l.looked ≤ 32 * l.i;
}
