use Rattle.std.proofs.Common.{subst}
use Rattle.nfs_values.specs.Moment.{moment_of}
use Rattle.engine_feed.specs.declared.state.CallsState.{CallsState}
use Rattle.engine_feed.specs.Seen.{finished_message}
use Rattle.engine_feed.specs.Words.{FinishesUnseen}
use Rattle.engine_feed.proofs.Begun.{left-unseen}
use Rattle.engine_feed.proofs.calls.Calls.finish_unseen.Goals as goal

pub returns-clause-finishes : goal.returns-clause-finishes
returns-clause-finishes c =
    let e = finished_message c.args.message (moment_of c.args.moment) c.args.starved in
    subst (λ (x : CallsState). FinishesUnseen x e c.leave.new.calls) c.self.view_is (left-unseen c.self.inside.state c.leave.new.calls e c.leave.ensures.left)
