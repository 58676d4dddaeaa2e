use Rattle.granted_calls.specs.shared_waiting.Passes.{known}
use Rattle.granted_calls.proofs.Lent.{changed}
use Rattle.granted_calls.proofs.shared_outboxes.SharedOutboxes.take.Goals as goal

pub returns-clause-taken : goal.returns-clause-taken
returns-clause-taken g c =
    let out = c.take_out-outboxes in
    let took = c.take-record in (
      out.result,
      took.ensures.record,
      changed (known c.args.pass.now) (known out.new.pass) (known c.give.new.pass) out.result took.new.self _ out.ensures.taken
          c.give.ensures.given took.ensures.rest,
    )
