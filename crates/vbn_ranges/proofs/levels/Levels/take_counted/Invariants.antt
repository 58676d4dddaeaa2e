use Rattle.std.proofs.Common.{◌≡◌, ◌-◌, ◌*◌, ◌≤◌, ◌++◌, length}
use Rattle.vbn_ranges.specs.Levels.{HasSummaries}
use Rattle.vbn_ranges.specs.Words.{members}
use Rattle.vbn_ranges.proofs.levels.Levels.take_counted.Given as goal

abbrev pub invariant-loop-self : goal.invariant-loop-self
invariant-loop-self l = record {
  joined : l.batch ++ members l.first l.self.words.items ≡ members l.first l.fn.self.words.items;
  few : length l.batch ≤ l.most;
  summaries : HasSummaries l.self;
  size : length l.self.words.items ≡ length l.fn.self.words.items;
  count : l.self.count ≡ l.fn.self.count;
  looked : l.looked ≡ 7 * l.giving;
  giving : l.giving ≤ length l.batch;
}

abbrev pub decreases-loop-self : goal.decreases-loop-self
decreases-loop-self l = l.most - length l.batch
