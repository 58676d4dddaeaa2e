use Rattle.std.proofs.Common.{◌≡◌, ◌-◌, ◌+◌, ◌≤◌, ◌++◌, length}
use Rattle.vbn_ranges.specs.Words.{members}
use Rattle.vbn_ranges.proofs.Bits.{ZeroBefore}
use Rattle.vbn_ranges.proofs.words.take_counted.Given as goal

abbrev pub invariant-loop-place : goal.invariant-loop-place
invariant-loop-place l = record {
  joined : l.batch ++ members l.first l.words ≡ members l.first l.fn.words;
  zero : ZeroBefore l.place l.words;
  few : length l.batch ≤ l.most;
  words : length l.words ≡ 16;
  within : l.place ≤ 16;
  looked : l.looked ≤ 16 + l.place + l.giving;
  giving : l.giving ≤ length l.batch;
}

abbrev pub decreases-loop-place : goal.decreases-loop-place
decreases-loop-place l = (l.most - length l.batch) + (16 - l.place)
