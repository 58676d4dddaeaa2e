use Rattle.granted_calls.proofs.shared_waiting.Keeps.{leaves}
use Rattle.granted_calls.proofs.shared_waiting.pass.SharedWaiting.count.Goals as goal

pub len_as-requires-clause-rule : goal.len_as-requires-clause-rule
len_as-requires-clause-rule g c = leaves _ _ g.T.Fitting.fits _ _
