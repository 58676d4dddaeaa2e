-- the message waits yet, and the pass has put and picked nothing
use Rattle.std.proofs.Common.{◌≡◌}
use Rattle.granted_calls.specs.Messages.{Fits}
use Rattle.granted_calls.specs.shared_waiting.Balance.{FitsIn}
use Rattle.granted_calls.specs.shared_waiting.Passes.{known, IsOf}
use Rattle.pool_rows.proofs.putting.put.Given as goal

abbrev pub invariant-loop : goal.invariant-loop
invariant-loop g l = record {
  of : IsOf l.fn.filer.waiting l.pass;
  same : known l.pass ≡ known l.fn.pass;
  fits : FitsIn Fits (known l.fn.pass).key l.next;
}
