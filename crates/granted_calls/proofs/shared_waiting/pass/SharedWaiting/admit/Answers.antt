use Rattle.granted_calls.proofs.shared_waiting.Keeps.{puts, leaves}
use Rattle.granted_calls.proofs.shared_waiting.pass.SharedWaiting.admit.Goals as goal

pub push_as-requires-clause-rule : goal.push_as-requires-clause-rule
push_as-requires-clause-rule g c =
    (puts _ _ g.T.Fitting.fits _ _ _ _ c.args.pass.now.live c.requires.fits, leaves _ _ g.T.Fitting.fits _ _)
