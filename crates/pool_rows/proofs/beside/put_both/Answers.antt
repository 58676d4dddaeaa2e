use denote.Exit.{no}
use denote.Param.Send.{param_send, arg_send}
use Rattle.granted_calls.specs.shared_waiting.Passes.{known}
use Rattle.pool_rows.proofs.Crossing.{closure-send, pass-send}
use Rattle.pool_rows.proofs.Wholes.{half-again}
use Rattle.pool_rows.proofs.beside.put_both.Goals as goal

pub join-first-requires-send-F : goal.join-first-requires-send-F
join-first-requires-send-F g c κs within = param_send 1 _ (arg_send _ no _ (closure-send _ _ _ _ c.type_bounds.sync-R))

pub join-first-requires-send-A : goal.join-first-requires-send-A
join-first-requires-send-A g c κs within = param_send 3 _ (arg_send _ no _ pass-send)

pub returns-clause-half : goal.returns-clause-half
returns-clause-half g c =
    let cut = c.split_pass-first in
    let put = c.join-first in
    half-again (known c.args.reader) (known cut.result.0) (known cut.result.1) (known put.result.0) (known put.result.1) (known c.join_pass.result)
    c.requires.half cut.ensures.first cut.ensures.second put.ensures.first.quarter put.ensures.second.quarter c.join_pass.ensures.both
