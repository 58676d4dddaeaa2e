use Rattle.crossbeam_queue.specs.Passes.{view}
use Rattle.granted_calls.proofs.shared_waiting.pass.SharedWaiting.pick_beside.Given as goal

abbrev pub ghosts-pick_by : goal.ghosts-pick_by
ghosts-pick_by g a = record { own = view a.seat.now; other = view a.other.now }
