use Rattle.std.specs.Prelude.{◌≡◌}
use Rattle.filer_state.proofs.giving_back.give_back.Given as goal

abbrev pub invariant-loop-stripe : goal.invariant-loop-stripe
invariant-loop-stripe l = l.held ≡ l.initial.held
