use denote.Exit.{no}
use denote.Param.Send.{param_send, arg_send}
use Rattle.pool_rows.proofs.Crossing.{closure-send, pass-send}
use Rattle.pool_rows.proofs.beside.serve_beside.Goals as goal

pub join-reader-requires-send-F : goal.join-reader-requires-send-F
join-reader-requires-send-F g c κs within = param_send 1 _ (arg_send _ no _ (closure-send _ _ _ _ c.type_bounds.sync-R))

pub join-reader-requires-send-A : goal.join-reader-requires-send-A
join-reader-requires-send-A g c κs within = param_send 3 _ (arg_send _ no _ pass-send)
