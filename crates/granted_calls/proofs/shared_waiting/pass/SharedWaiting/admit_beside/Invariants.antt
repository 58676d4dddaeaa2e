use Rattle.crossbeam_queue.specs.Passes.{view}
use Rattle.granted_calls.proofs.shared_waiting.pass.SharedWaiting.admit_beside.Given as goal

abbrev pub ghosts-admit_by : goal.ghosts-admit_by
ghosts-admit_by g a = record { own = view a.seat.now; other = view a.other.now }
