use Rattle.engine_feed.proofs.Begun.{begun}
use Rattle.engine_feed.proofs.moving.begin.Goals as goal

pub returns-clause-begun : goal.returns-clause-begun
returns-clause-begun c =
    begun c.args.calls.now c.args.place c.in_ok-message.message c.pick.new.self c.requires c.in_ok-message.ensures.message c.in_ok-message.ensures.rest
