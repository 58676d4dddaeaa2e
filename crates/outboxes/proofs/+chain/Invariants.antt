use Rattle.std.proofs.Common.{◌≤◌, length}
use Rattle.outboxes.proofs.+chain.Given as goal

abbrev pub decreases-chain::Chain::drop : goal.decreases-chain::Chain::drop
decreases-chain::Chain::drop l = goal.size-chain::Chain::drop l

abbrev pub invariant-chain::Chain::drop-loop-link : goal.invariant-chain::Chain::drop-loop-link
invariant-chain::Chain::drop-loop-link l = length l.self ≤ length l.fn.self

abbrev pub decreases-chain::Chain::drop-loop-link : goal.decreases-chain::Chain::drop-loop-link
decreases-chain::Chain::drop-loop-link l = length l.self
