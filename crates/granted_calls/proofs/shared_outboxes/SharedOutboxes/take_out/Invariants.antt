-- nothing is taken out yet
use Rattle.std.proofs.Common.{◌≡◌}
use Rattle.granted_calls.specs.shared_waiting.Passes.{known}
use Rattle.granted_calls.specs.SharedOutboxes.{IsOf}
use Rattle.granted_calls.proofs.shared_outboxes.SharedOutboxes.take_out.Given as goal

abbrev pub invariant-loop : goal.invariant-loop
invariant-loop g l = record {
  of : IsOf l.fn.self l.pass;
  same : known l.pass ≡ known l.fn.pass;
}
