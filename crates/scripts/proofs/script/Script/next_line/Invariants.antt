use Rattle.std.proofs.Common.{length, ◌≤◌}
use Rattle.scripts.proofs.script.Script.next_line.Given as goal

abbrev pub invariant-loop-text : goal.invariant-loop-text
invariant-loop-text l = length l.self.rest.now ≤ length l.fn.self.rest.now

abbrev pub decreases-loop-text : goal.decreases-loop-text
decreases-loop-text l = length l.self.rest.now
