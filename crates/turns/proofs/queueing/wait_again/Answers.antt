use Rattle.granted_calls.specs.shared_waiting.Passes.{known}
use Rattle.granted_calls.specs.lemmas.Fitting.{fits-by}
use Rattle.turns.proofs.queueing.wait_again.Goals as goal

pub admit-requires-clause-fits : goal.admit-requires-clause-fits
admit-requires-clause-fits g c =
    fits-by c.requires.placed.0 (known c.args.pass.now) c.args.message c.requires.placed.1 c.requires.placed.2
