use Rattle.std.proofs.Common.{◌≡◌, ◌++◌, reverse, length}
use Rattle.outboxes.proofs.chain.Chain.reversed.Given as goal

abbrev pub invariant-loop-link : goal.invariant-loop-link
invariant-loop-link l = reverse l.fn.self ≡ reverse l.self ++ l.turned

abbrev pub decreases-loop-link : goal.decreases-loop-link
decreases-loop-link l = length l.self
