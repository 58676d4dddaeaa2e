-- What stands behind a record is shorter than the row.
use Rattle.std.specs.Prelude.{◌≤◌, max, length}
use Rattle.std.proofs.Common.{arith}
use Rattle.outboxes.specs.declared.chain.Row.{Row}
use Rattle.outboxes.specs.declared.chain.Row.TheVariants.{End, More}
use Rattle.outboxes.specs.declared.chain.Chain.TheDeep.{deep-Row}
use Rattle.outboxes.specs.Chains.{messages_of}

pub rest_shorter : (row : Row) → max (deep-Row row) 0 ≤ length (messages_of row)
rest_shorter End = omega arith
rest_shorter (More link) = omega arith
