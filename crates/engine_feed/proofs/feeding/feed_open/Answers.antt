use Rattle.std.proofs.Common.{rules, ◌≡◌, length}
use Rattle.engine_feed.proofs.Loops.{feeds-none, stopped-full, stopped-by-memory, not-empty}
use Rattle.engine_feed.proofs.feeding.feed_open.Goals as goal

pub returns-then-is_empty-clause-feeds : goal.returns-then-is_empty-clause-feeds
returns-then-is_empty-clause-feeds c setup w k p =
    let empty : length c.args.bytes.now ≡ 0 = search rules in
    feeds-none setup w c.args.calls.now c.args.connection.now c.args.number.0 c.args.bytes.now empty p

pub returns-then-is_stopped-clause-feeds : goal.returns-then-is_stopped-clause-feeds
returns-then-is_stopped-clause-feeds c setup w k p =
    stopped-full c.args.offer setup w c.args.calls.now c.args.connection.now c.args.number.0 c.args.bytes.now k p c.requires.connection c.requires.at
    (not-empty c.args.bytes.now c.if-is_empty.ensures) (c.is_stopped.ensures.stopped c.if-is_stopped.true)

pub returns-then-is_err-clause-feeds : goal.returns-then-is_err-clause-feeds
returns-then-is_err-clause-feeds c setup w k p =
    stopped-by-memory c.args.offer setup w c.args.calls.now c.args.connection.now c.make_stream_room.new.connection c.args.number.0 c.args.bytes.now k p
    c.requires.connection c.requires.at (not-empty c.args.bytes.now c.if-is_empty.ensures) (c.is_stopped.ensures.goes_on c.if-is_stopped.false)
    c.make_stream_room.ensures.same
