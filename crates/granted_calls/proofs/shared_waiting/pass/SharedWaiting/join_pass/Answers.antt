use Rattle.granted_calls.proofs.shared_waiting.Keeps.{glues}
use Rattle.granted_calls.proofs.shared_waiting.pass.SharedWaiting.join_pass.Goals as goal

pub absorb-requires-clause-rule : goal.absorb-requires-clause-rule
absorb-requires-clause-rule g c = glues _ _ g.T.Fitting.fits _ _ c.into_seat-seat.ensures.live _ _
