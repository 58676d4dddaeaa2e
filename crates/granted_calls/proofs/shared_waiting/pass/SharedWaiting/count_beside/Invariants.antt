use Rattle.crossbeam_queue.specs.Passes.{view}
use Rattle.granted_calls.proofs.shared_waiting.pass.SharedWaiting.count_beside.Given as goal

abbrev pub ghosts-count_by : goal.ghosts-count_by
ghosts-count_by g a = record { own = view a.seat.now; other = view a.other.now }
