-- the outboxes aren't given back yet, and nothing else was
use Rattle.std.proofs.Common.{◌≡◌}
use Rattle.granted_calls.specs.shared_waiting.Passes.{known, IsOf}
use Rattle.granted_calls.proofs.shared_outboxes.give.Given as goal

abbrev pub invariant-loop : goal.invariant-loop
invariant-loop g l = record {
  of : IsOf l.fn.place l.pass;
  same : known l.pass ≡ known l.fn.pass;
  kept : l.kept ≡ l.fn.outboxes;
}
