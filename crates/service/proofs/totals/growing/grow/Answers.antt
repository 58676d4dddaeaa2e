use Rattle.service.proofs.totals.Grown.{grow-is-right}
use Rattle.service.proofs.totals.growing.grow.Goals as goal

pub returns-clause-right : goal.returns-clause-right
returns-clause-right c =
    grow-is-right c.growing_calls_are_right.ensures.right c.args.volume.0 c.args.more c.args.held.now c.grow_at.result c.grow_at.new.held c.grow_at.ensures
