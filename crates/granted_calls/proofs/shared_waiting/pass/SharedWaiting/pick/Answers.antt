use Rattle.granted_calls.proofs.shared_waiting.Keeps.{picks, leaves}
use Rattle.granted_calls.proofs.shared_waiting.pass.SharedWaiting.pick.Goals as goal

pub pop_as-requires-clause-rule : goal.pop_as-requires-clause-rule
pop_as-requires-clause-rule g c = (picks _ _ g.T.Fitting.fits _ _ c.args.pass.now.live, leaves _ _ g.T.Fitting.fits _ _)
