use Rattle.granted_calls.specs.shared_waiting.Passes.{known}
use Rattle.granted_calls.proofs.Lent.{changed}
use Rattle.granted_calls.proofs.shared_outboxes.SharedOutboxes.put.Goals as goal

pub returns-clause-put : goal.returns-clause-put
returns-clause-put g c =
    let out = c.take_out-outboxes in (
      out.result,
      changed (known c.args.pass.now) (known out.new.pass) (known c.give.new.pass) out.result c.put_into.new.outboxes _ out.ensures.taken
          c.give.ensures.given c.put_into.ensures,
    )
