use Rattle.std.proofs.Common.{sym, ◌∙◌, Some}
use Rattle.service.proofs.renames.Climbs.{climb-by}
use Rattle.service.proofs.renames.climbing.climb.Goals as goal

pub loop-left-preserved : goal.loop-left-preserved
loop-left-preserved c =
    sym (climb-by c.loop-left.left c.args.held.now.own.inodes.inodes c.args.target.0 c.loop-left.at.0 c.loop-left-test.true c.if-at-target.false
    (Some c.in-Some.parent.0) (sym c.in-Some.ensures))
    ∙ c.loop-left.invariant
