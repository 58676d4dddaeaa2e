use Rattle.engine_feed.proofs.Loops.{has-fed}
use Rattle.engine_feed.proofs.feeding.feed.Goals as goal

pub returns-clause-feeds : goal.returns-clause-feeds
returns-clause-feeds c =
    has-fed c.args.offer c.args.calls.now c.feed_open.new.calls c.args.connection.now c.feed_open.new.connection c.args.number.0 c.args.bytes.now
    c.feed_open.result.0
    c.feed_open.result.1 c.feeds_are_walks.ensures.feeds c.requires.connection c.requires.at c.feed_open.ensures.feeds
