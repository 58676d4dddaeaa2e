use Rattle.engine.proofs.Keyed.{found-key, no-key, contains}
use Rattle.engine.proofs.Received.{shut-events, untaken-events, untaken-sound, taken-events, taken-sound}
use Rattle.engine.proofs.feeding.feed.Goals as goal

pub returns-in-None-clause-events : goal.returns-in-None-clause-events
returns-in-None-clause-events c =
    shut-events c.args.state.now c.args.connection c.args.bytes.now
    (no-key c.deref.result.now c.args.state.now.connections.items c.args.connection c.key_of.result c.key_of.ensures c.deref.ensures.value c.in-None.is)

pub receive-requires : goal.receive-requires
receive-requires c =
    let s = c.args.state.now in
    let at = found-key c.deref.result.now s.connections.items c.args.connection c.in-Some.key c.key_of.result c.key_of.ensures c.deref.ensures.value
    c.in-Some.is in
    let kept = c.requires.keyed.kept c.args.connection c.in-Some.key at in
    contains s.slab c.in-Some.key kept.0 kept.1

pub returns-in-None-receive-clause-events : goal.returns-in-None-receive-clause-events
returns-in-None-receive-clause-events c =
    let s = c.args.state.now in
    let at = found-key c.deref.result.now s.connections.items c.args.connection c.in-Some.key c.key_of.result c.key_of.ensures c.deref.ensures.value
    c.in-Some.is in
    untaken-events c.args.state.now c.requires c.args.connection c.in-Some.key at c.args.bytes.now c.receive.new.calls c.receive.new.slab
    c.in-None-receive.ensures

pub returns-in-None-receive-clause-sound : goal.returns-in-None-receive-clause-sound
returns-in-None-receive-clause-sound c =
    let s = c.args.state.now in
    let at = found-key c.deref.result.now s.connections.items c.args.connection c.in-Some.key c.key_of.result c.key_of.ensures c.deref.ensures.value
    c.in-Some.is in
    untaken-sound c.args.state.now c.requires c.args.connection c.in-Some.key at c.args.bytes.now c.receive.new.calls c.receive.new.slab
    c.in-None-receive.ensures

pub returns-in-Some-receive-clause-events : goal.returns-in-Some-receive-clause-events
returns-in-Some-receive-clause-events c =
    let s = c.args.state.now in
    let at = found-key c.deref.result.now s.connections.items c.args.connection c.in-Some.key c.key_of.result c.key_of.ensures c.deref.ensures.value
    c.in-Some.is in
    taken-events c.args.state.now c.requires c.args.connection c.in-Some.key at c.args.bytes.now c.receive.new.calls c.receive.new.slab
    c.without_home_stays.ensures c.in-Some-receive.taken c.in-Some-receive.stop c.in-Some-receive.ensures

pub returns-in-Some-receive-clause-sound : goal.returns-in-Some-receive-clause-sound
returns-in-Some-receive-clause-sound c =
    let s = c.args.state.now in
    let at = found-key c.deref.result.now s.connections.items c.args.connection c.in-Some.key c.key_of.result c.key_of.ensures c.deref.ensures.value
    c.in-Some.is in
    taken-sound c.args.state.now c.requires c.args.connection c.in-Some.key at c.args.bytes.now c.receive.new.calls c.receive.new.slab
    c.without_home_stays.ensures c.in-Some-receive.taken c.in-Some-receive.stop c.in-Some-receive.ensures
