use Rattle.std.proofs.Common.{subst}
use Rattle.nfs_values.specs.Moment.{moment_of}
use Rattle.nfs_values.specs.Reply.{reply_of}
use Rattle.engine_feed.specs.declared.state.ConnectionState.{ConnectionState}
use Rattle.engine_feed.specs.declared.state.CallsState.{CallsState}
use Rattle.engine_feed.specs.Seen.{finished_message}
use Rattle.engine_feed.specs.Words.{Finishes}
use Rattle.engine_feed.proofs.Begun.{left-finishes}
use Rattle.engine_feed.proofs.calls.Calls.finish.Goals as goal

pub returns-clause-finishes : goal.returns-clause-finishes
returns-clause-finishes c =
    let e = finished_message c.args.message (moment_of c.args.moment) c.args.starved in
    let reply = reply_of c.args.reply.now in
    let new = c.leave.new.calls in
    let on = c.reply_to-count.new.connection in
    subst (λ (x : CallsState). Finishes x c.args.on.now e reply new on) c.self.view_is
    (subst (λ (x : ConnectionState). Finishes c.self.inside.state x e reply new on) c.on.view_is
    (left-finishes c.self.inside.state new c.on.inside.state on e reply c.args.message.room c.leave.ensures.left c.reply_to-count.ensures.replied))
