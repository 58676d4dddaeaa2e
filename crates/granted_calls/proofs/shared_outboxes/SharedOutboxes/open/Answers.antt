use Rattle.std.proofs.Common.{refl}
use Rattle.granted_calls.specs.shared_waiting.Passes.{known}
use Rattle.granted_calls.proofs.Lent.{changed}
use Rattle.granted_calls.proofs.shared_outboxes.SharedOutboxes.open.Goals as goal

pub returns-clause-changed : goal.returns-clause-changed
returns-clause-changed g c =
    let out = c.take_out-outboxes in
    let opens = c.open-connection in
    let after = opens.new.self in (
      out.result,
      after,
      changed (known c.args.pass.now) (known out.new.pass) (known c.give.new.pass) out.result after after out.ensures.taken
          c.give.ensures.given refl,
      opens.ensures.ok,
      opens.ensures.err,
      opens.ensures.number,
    )
