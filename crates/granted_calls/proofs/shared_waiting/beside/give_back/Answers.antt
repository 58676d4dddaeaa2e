use Rattle.std.proofs.Common.{ap}
use Rattle.granted_calls.specs.declared.shared_waiting.view.View.{View}
use Rattle.granted_calls.proofs.shared_waiting.Keeps.{parts, takes}
use Rattle.granted_calls.proofs.shared_waiting.beside.give_back.Goals as goal

pub another-back-requires-clause-rule : goal.another-back-requires-clause-rule
another-back-requires-clause-rule g c = parts _ _ g.T.Fitting.fits _ _ _ _ c.requires.live.0 c.requires.live.1 c.requires.key c.requires.grown

pub absorb-requires-clause-rule : goal.absorb-requires-clause-rule
absorb-requires-clause-rule g c =
    takes _ _ g.T.Fitting.fits _ _ (ap (λ (v : View g.row.T.Denot g.row.K.Denot). v.share) c.requires.spent) _ _
