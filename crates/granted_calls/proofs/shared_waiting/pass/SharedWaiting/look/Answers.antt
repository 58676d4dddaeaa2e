use Rattle.granted_calls.proofs.shared_waiting.Keeps.{leaves}
use Rattle.granted_calls.proofs.shared_waiting.pass.SharedWaiting.look.Goals as goal

pub learn_as-requires-clause-rule : goal.learn_as-requires-clause-rule
learn_as-requires-clause-rule g c = leaves _ _ g.T.Fitting.fits _ _
