use Rattle.granted_calls.proofs.shared_waiting.Keeps.{gives, glues}
use Rattle.granted_calls.proofs.shared_waiting.beside.take_in.Goals as goal

pub another-all-requires-clause-rule : goal.another-all-requires-clause-rule
another-all-requires-clause-rule g c = gives _ _ g.T.Fitting.fits _ _

pub absorb-requires-clause-rule : goal.absorb-requires-clause-rule
absorb-requires-clause-rule g c = glues _ _ g.T.Fitting.fits _ _ c.requires.live _ _
