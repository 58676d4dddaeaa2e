use mathlib.Core.List.{[], ◌∷◌}
use denote.Exit.{no}
use denote.Param.{copied, param}
use denote.Param.Send.{sendable, param_send, arg_send}
use denote.Param.SendFields.{declared_send}
use denote.Struct.Tuple.{type_at}
use Rattle.workers.proofs.Crossing.{pool-worker-send, task-send}
use Rattle.workers.specs.contracts.task.WorkerStart as WorkerStart
use Rattle.workers.proofs.task.start_one.Goals as goal
use Rattle.workers.proofs.task.start_one.Lts as lts

pub spawn_with-started-requires-send-F : goal.spawn_with-started-requires-send-F
spawn_with-started-requires-send-F g c κs within =
    param_send 2 (lts.arg-3-2 g.row.R g.row.G g.R.laws g.G.laws g.R.copy g.R.Threads-dict g.R.Wait-dict g.R.Clock-dict g.R.Clone-dict g.G.Gate-dict
    g.G.Destruct-dict κs)
    (arg_send _ no _ (declared_send (type_at _ (WorkerStart.the_row ∷ copied 0 g.row.R ∷ param 1 g.row.G ∷ []))
    (search (task-send, sendable), (search (c.type_bounds.send-R, sendable), (search (c.type_bounds.send-G, sendable), tt)))))

pub spawn_with-started-requires-send-T : goal.spawn_with-started-requires-send-T
spawn_with-started-requires-send-T g c κs within =
    param_send 3 (lts.arg-3-3 g.row.R g.row.G g.R.laws g.G.laws g.R.copy g.R.Threads-dict g.R.Wait-dict g.R.Clock-dict g.R.Clone-dict g.G.Gate-dict
    g.G.Destruct-dict κs)
    (search (pool-worker-send, sendable) depth 20)
