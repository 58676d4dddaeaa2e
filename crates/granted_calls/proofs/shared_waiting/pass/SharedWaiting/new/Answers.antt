use Rattle.granted_calls.proofs.shared_waiting.Keeps.{begins}
use Rattle.granted_calls.proofs.shared_waiting.pass.SharedWaiting.new.Goals as goal

pub ruled-requires-clause-rule : goal.ruled-requires-clause-rule
ruled-requires-clause-rule g c = begins _ _ g.T.Fitting.fits
