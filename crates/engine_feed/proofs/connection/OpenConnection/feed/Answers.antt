use Rattle.std.proofs.Common.{◌≡◌, None, subst, sym}
use Rattle.engine_feed.specs.declared.state.ConnectionState.{ConnectionState}
use Rattle.engine_feed.specs.declared.state.CallsState.{CallsState}
use Rattle.engine_feed.specs.Streams.{scan_stream}
use Rattle.engine_feed.specs.Words.{HasFed}
use Rattle.engine_feed.proofs.Loops.{no-fault}
use Rattle.engine_feed.proofs.connection.OpenConnection.feed.Goals as goal

pub feed-requires-clause-at : goal.feed-requires-clause-at
feed-requires-clause-at c =
    no-fault c.args.offer c.self.inside.state c.self.invariant.in_step
    (subst (λ (x : ConnectionState). (scan_stream c.args.offer x.stream.items).fault ≡ None) (sym c.self.view_is) (c.requires c.args.offer))

pub returns-clause-feeds : goal.returns-clause-feeds
returns-clause-feeds c =
    let f = c.feed in
    let n = c.args.number.0 in
    let bytes = c.args.bytes.now in
    subst (λ (x : CallsState). HasFed c.args.offer x c.args.self.now n bytes f.result.0 f.result.1 f.new.calls f.new.connection) c.calls.view_is
    (subst (λ (x : ConnectionState). HasFed c.args.offer c.calls.inside.state x n bytes f.result.0 f.result.1 f.new.calls f.new.connection) c.self.view_is
    f.ensures.feeds)

pub returns-clause-admitted : goal.returns-clause-admitted
returns-clause-admitted c = c.feed.ensures.stays.are_sound.admitted
