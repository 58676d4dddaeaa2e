use mathlib.Core.List.{[], ◌∷◌}
use denote.Exit.{no}
use denote.Param.{copied}
use denote.Param.Send.{sendable, param_send, arg_send}
use denote.Param.SendFields.{declared_send}
use denote.Struct.Tuple.{type_at}
use Rattle.server.proofs.Crossing.{socket-lane-send, task-send}
use Rattle.server.specs.contracts.task.LaneStart as LaneStart
use Rattle.server.proofs.task.start_one.Goals as goal
use Rattle.server.proofs.task.start_one.Lts as lts

pub spawn_with-started-requires-send-F : goal.spawn_with-started-requires-send-F
spawn_with-started-requires-send-F g c κs within =
    param_send 2 (lts.arg-1-2 g.row.R g.R.laws g.R.copy g.R.Threads-dict g.R.Wait-dict g.R.Clock-dict g.R.Clone-dict κs)
    (arg_send _ no _ (declared_send (type_at _ (LaneStart.the_row (copied 0 g.row.R) ∷ copied 0 g.row.R ∷ []))
    (task-send (copied 0 g.row.R) (search (c.type_bounds.send-R, sendable)), (search (c.type_bounds.send-R, sendable), tt))))

pub spawn_with-started-requires-send-T : goal.spawn_with-started-requires-send-T
spawn_with-started-requires-send-T g c κs within =
    param_send 3 _ (arg_send _ no _ (socket-lane-send (copied 0 g.row.R) (search (c.type_bounds.send-R, sendable))))
