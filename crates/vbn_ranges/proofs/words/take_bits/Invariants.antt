use Rattle.std.proofs.Common.{◌≡◌, ◌-◌, ◌≤◌, ◌++◌, length}
use Rattle.vbn_ranges.specs.Words.{bits_from}
use Rattle.vbn_ranges.proofs.words.take_bits.Given as goal

abbrev pub invariant-loop-left : goal.invariant-loop-left
invariant-loop-left l = record {
  taken : l.batch ++ bits_from 64 l.first l.left ≡ l.fn.batch ++ bits_from 64 l.first l.word;
  few : length l.batch ≤ l.most;
}

abbrev pub decreases-loop-left : goal.decreases-loop-left
decreases-loop-left l = l.most - length l.batch
