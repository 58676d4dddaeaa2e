use Rattle.std.proofs.Common.{◌≡◌, ◌*◌, ◌^◌, ◌≤◌, take, sum}
use Rattle.statistics.proofs.histogram.total_of.Given as goal

abbrev pub invariant-loop-count : goal.invariant-loop-count
invariant-loop-count l = record {
  sum_is : l.total ≡ sum (take l.count-index l.counts);
  few : l.total ≤ l.count-index * 2 ^ 64;
}
