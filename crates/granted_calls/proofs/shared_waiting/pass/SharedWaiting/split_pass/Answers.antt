use Rattle.granted_calls.proofs.shared_waiting.Keeps.{cuts}
use Rattle.granted_calls.proofs.shared_waiting.pass.SharedWaiting.split_pass.Goals as goal

pub another-other-requires-clause-rule : goal.another-other-requires-clause-rule
another-other-requires-clause-rule g c = cuts _ _ g.T.Fitting.fits _ _ c.into_seat-seat.ensures.live
