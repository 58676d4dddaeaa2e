use Rattle.granted_calls.proofs.shared_waiting.Keeps.{names}
use Rattle.granted_calls.proofs.shared_waiting.naming.name_as.Goals as goal

pub another-spent-requires-clause-rule : goal.another-spent-requires-clause-rule
another-spent-requires-clause-rule g c = names _ _ g.T.Fitting.fits _ _ g.J.Named.name c.requires.whole c.requires.none
