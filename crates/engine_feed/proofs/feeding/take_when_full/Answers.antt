use Rattle.std.proofs.Common.{length}
use Rattle.engine_feed.proofs.Pieces.{taking, none-free, none-took-free, fault-took-free, stops-free, more-free}
use Rattle.engine_feed.proofs.feeding.take_when_full.Goals as goal

pub returns-then-free-eq0-clause-feeds : goal.returns-then-free-eq0-clause-feeds
returns-then-free-eq0-clause-feeds c setup w k p =
    let calls = c.args.calls.now in
    let to = c.args.connection.now in
    let n = c.args.number.0 in
    let i = taking c.args.offer setup calls n to w (length c.args.bytes.now) k p c.requires.connection c.requires.taking in
    none-free c.args.offer setup calls n to w c.args.bytes.now c.free_bytes-free.result i c.requires.full c.requires.some c.free_bytes-free.ensures
    c.if-free-eq0.true

pub returns-in-NoMemory-clause-feeds : goal.returns-in-NoMemory-clause-feeds
returns-in-NoMemory-clause-feeds c setup w k p =
    let calls = c.args.calls.now in
    let to = c.args.connection.now in
    let n = c.args.number.0 in
    let t = c.take_bytes-taken in
    let i = taking c.args.offer setup calls n to w (length c.args.bytes.now) k p c.requires.connection c.requires.taking in
    none-took-free c.args.offer setup calls n to t.new.from w c.args.bytes.now c.free_bytes-free.result t.result.0 t.result.1 i c.requires.some
    c.free_bytes-free.ensures
    c.if-free-eq0.false t.ensures.takes c.in-NoMemory.is

pub returns-in-Fault-clause-feeds : goal.returns-in-Fault-clause-feeds
returns-in-Fault-clause-feeds c setup w k p =
    let calls = c.args.calls.now in
    let to = c.args.connection.now in
    let n = c.args.number.0 in
    let t = c.take_bytes-taken in
    let i = taking c.args.offer setup calls n to w (length c.args.bytes.now) k p c.requires.connection c.requires.taking in
    fault-took-free c.args.offer setup calls n to t.new.from w c.args.bytes.now c.free_bytes-free.result t.result.0 t.result.1 c.in-Fault.fault i
    c.free_bytes-free.ensures t.ensures.takes c.in-Fault.is (t.ensures.none c.free_bytes-free.ensures.none)

pub returns-then-free-bytes-clause-feeds : goal.returns-then-free-bytes-clause-feeds
returns-then-free-bytes-clause-feeds c setup w k p =
    let calls = c.args.calls.now in
    let to = c.args.connection.now in
    let n = c.args.number.0 in
    let t = c.take_bytes-taken in
    let i = taking c.args.offer setup calls n to w (length c.args.bytes.now) k p c.requires.connection c.requires.taking in
    stops-free c.args.offer setup calls n to t.new.from w c.args.bytes.now c.free_bytes-free.result t.result.0 t.result.1 i c.requires.full
    c.free_bytes-free.ensures
    c.if-free-bytes.true t.ensures.takes c.in-More.is

pub returns-else-free-bytes-clause-feeds : goal.returns-else-free-bytes-clause-feeds
returns-else-free-bytes-clause-feeds c setup w k p =
    let calls = c.args.calls.now in
    let to = c.args.connection.now in
    let n = c.args.number.0 in
    let t = c.take_bytes-taken in
    let i = taking c.args.offer setup calls n to w (length c.args.bytes.now) k p c.requires.connection c.requires.taking in
    more-free c.args.offer setup calls n to t.new.from w c.args.bytes.now c.free_bytes-free.result t.result.0 t.result.1 i c.free_bytes-free.ensures
    t.ensures.takes
    c.in-More.is
