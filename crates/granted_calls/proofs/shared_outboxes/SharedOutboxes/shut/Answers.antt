use Rattle.granted_calls.specs.shared_waiting.Passes.{known}
use Rattle.granted_calls.proofs.Lent.{changed}
use Rattle.granted_calls.proofs.shared_outboxes.SharedOutboxes.shut.Goals as goal

pub returns-clause-shut : goal.returns-clause-shut
returns-clause-shut g c =
    let out = c.take_out-outboxes in (
      out.result,
      changed (known c.args.pass.now) (known out.new.pass) (known c.give.new.pass) out.result c.shut.new.self _ out.ensures.taken
          c.give.ensures.given c.shut.ensures,
    )
