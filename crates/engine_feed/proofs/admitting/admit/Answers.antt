use Rattle.std.proofs.Common.{refl, sym, subst, false}
use Rattle.rpc_msg.specs.declared.record.Request.{Request}
use Rattle.engine_feed.specs.Seen.{asked_of}
use Rattle.engine_feed.specs.Words.{HasHeard}
use Rattle.engine_feed.proofs.Hearing.{waits}
use Rattle.engine_feed.proofs.admitting.admit.Goals as goal

pub returns-in-Some-clause-admitted : goal.returns-in-Some-clause-admitted
returns-in-Some-clause-admitted c =
    let calls = c.args.calls.now in
    let to = c.args.connection.now in
    subst (λ (r : Request). HasHeard c.args.offer calls to c.args.origin (asked_of r) false c.wait.new.calls c.wait.new.connection) (sym c.in-Call.is)
    (waits c.args.offer calls c.wait.new.calls to c.wait.new.connection _ _ c.wait.ensures.waits refl c.in-Some.ensures.waits.at_home)
