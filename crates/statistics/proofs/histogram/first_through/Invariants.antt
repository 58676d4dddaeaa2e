use Rattle.std.proofs.Common.{◌≡◌, ℕ, ◌*◌, ◌^◌, ◌<◌, ◌≤◌, take, sum}
use Rattle.statistics.specs.Buckets.{through_by}
use Rattle.statistics.proofs.histogram.first_through.Given as goal

abbrev pub invariant-loop-bucket : goal.invariant-loop-bucket
invariant-loop-bucket l = record {
  sum_is : l.through ≡ sum (take l.bucket l.counts);
  few : l.through ≤ l.bucket * 2 ^ 64;
  before : (k : ℕ) → k < l.bucket → 100 * through_by l.counts k < l.share;
}
