use Rattle.service.proofs.InHand.{fetched-runs}
use Rattle.service.proofs.inner.fetch_into.Goals as goal

pub returns-in-Some-clause-runs : goal.returns-in-Some-clause-runs
returns-in-Some-clause-runs c =
    fetched-runs c.args.volume.0 c.in-Some.batch c.fresh_hand.result c.args.held.now.own c.fetch.new.held.own c.fresh_hand.ensures
    c.in-Some.ensures.right

pub returns-in-None-clause-runs : goal.returns-in-None-clause-runs
returns-in-None-clause-runs c = c.in-None.ensures.right c.args.volume.0
