-- Queues of lanes that begin.
use Rattle.std.specs.Prelude.{◌≡◌, [], Some}
use Rattle.affinity.specs.declared.layout.Layout.{Layout}
use Rattle.lanes.specs.Queues.{HasBoth}
use Rattle.filer_lanes.specs.declared.opening.Queue.{Queue}
use Rattle.granted_calls.specs.Messages.{Message}
use Rattle.granted_calls.specs.declared.shared.Filer.{Filer}
use Rattle.granted_calls.specs.declared.shared_waiting.pass.Pass.{Pass}
use Rattle.granted_calls.specs.declared.shared_waiting.pass.SharedWaiting.{SharedWaiting}
use Rattle.turns.specs.declared.worker.Worker.{Worker}
use Rattle.granted_calls.specs.Filers.{layout_in, layout_known}
use Rattle.turns.specs.Words.{entries_in, IsAt}
use Rattle.granted_calls.specs.shared_waiting.Balance.{IsWhole, both}
use Rattle.granted_calls.specs.shared_waiting.Passes.{known, IsOf}

-- a pass of a queue of the filer's layout by which nothing was put or picked
pub record IsNewPass (filer : Filer) (queue : SharedWaiting Message Layout) (pass : Pass Message Layout) : Type 0 where
  pub of : IsOf queue pass
  pub layout : layout_known (known pass) ≡ Some (layout_in filer)
  pub put : (known pass).put ≡ []
  pub picked : (known pass).picked ≡ []

-- both passes of a queue are new, and nobody has another
pub record IsNewQueue (filer : Filer) (q : Queue) : Type 0 where
  pub admits : IsNewPass filer q.queue q.admits
  pub picks : IsNewPass filer q.queue q.picks
  pub whole : IsWhole (both (known q.admits) (known q.picks))
  pub key : (known q.admits).key ≡ (known q.picks).key

-- a worker of the filer on such a queue, which has done nothing, and the pass that will admit
pub record IsReadyLane (filer : Filer) (queue : SharedWaiting Message Layout) (admits : Pass Message Layout) (worker : Worker)
    : Type 0 where
  pub new : IsNewPass filer queue admits
  pub inside : IsAt filer queue worker
  pub both : HasBoth admits worker
  pub none : entries_in worker ≡ []
