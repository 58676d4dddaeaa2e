use Rattle.std.proofs.Common.{true, false, refl, sym, ap, ◌∙◌, length}
use Rattle.engine_feed.specs.declared.state.CallsState.{CallsState}
use Rattle.engine_feed.specs.declared.state.Arrival.TheVariants as arrivals
use Rattle.engine_feed.specs.Seen.{heard_of, layout_in}
use Rattle.engine_feed.proofs.Fed.{not-crowded, feeds-nothing}
use Rattle.engine_feed.proofs.Pieces.{ready, arrived, none-made, none-took, more-took, fault-took, heard-took}
use Rattle.engine_feed.proofs.feeding.take_and_admit.Goals as goal

pub returns-then-is_err-clause-feeds : goal.returns-then-is_err-clause-feeds
returns-then-is_err-clause-feeds c setup w k p =
    let n = c.args.number.0 in
    let made = c.make_room in
    let room = not-crowded c.args.calls.now n c.args.connection.now w p c.requires.places in
    let i = ready c.args.offer setup c.args.calls.now made.new.calls n c.args.connection.now made.new.connection w (length c.args.bytes.now) k p
    c.requires.connection
    c.requires.taking made.ensures.connection made.ensures.calls in
    none-made c.args.offer setup made.new.calls n made.new.connection w c.args.bytes.now i c.requires.some room

pub returns-in-NoMemory-clause-feeds : goal.returns-in-NoMemory-clause-feeds
returns-in-NoMemory-clause-feeds c setup w k p =
    let n = c.args.number.0 in
    let made = c.make_room in
    let t = c.take_bytes-taken in
    let room = not-crowded c.args.calls.now n c.args.connection.now w p c.requires.places in
    let i = ready c.args.offer setup c.args.calls.now made.new.calls n c.args.connection.now made.new.connection w (length c.args.bytes.now) k p
    c.requires.connection
    c.requires.taking made.ensures.connection made.ensures.calls in
    none-took c.args.offer setup made.new.calls n made.new.connection t.new.from w c.args.bytes.now c.args.bytes.now t.result.0 t.result.1 i t.ensures.takes
    c.in-NoMemory.is (feeds-nothing setup n w c.args.bytes.now c.requires.some room)

pub returns-in-Fault-clause-feeds : goal.returns-in-Fault-clause-feeds
returns-in-Fault-clause-feeds c setup w k p =
    let n = c.args.number.0 in
    let made = c.make_room in
    let t = c.take_bytes-taken in
    let room = not-crowded c.args.calls.now n c.args.connection.now w p c.requires.places in
    let i = ready c.args.offer setup c.args.calls.now made.new.calls n c.args.connection.now made.new.connection w (length c.args.bytes.now) k p
    c.requires.connection
    c.requires.taking made.ensures.connection made.ensures.calls in
    fault-took c.args.offer setup made.new.calls n made.new.connection t.new.from w c.args.bytes.now c.args.bytes.now t.result.0 t.result.1 c.in-Fault.fault i
    t.ensures.takes c.in-Fault.is room

pub returns-in-More-clause-feeds : goal.returns-in-More-clause-feeds
returns-in-More-clause-feeds c setup w k p =
    let n = c.args.number.0 in
    let made = c.make_room in
    let t = c.take_bytes-taken in
    let i = ready c.args.offer setup c.args.calls.now made.new.calls n c.args.connection.now made.new.connection w (length c.args.bytes.now) k p
    c.requires.connection
    c.requires.taking made.ensures.connection made.ensures.calls in
    more-took c.args.offer setup made.new.calls n made.new.connection t.new.from w c.args.bytes.now c.args.bytes.now t.result.0 t.result.1 i t.ensures.takes
    c.in-More.is

pub returns-in-Heard-clause-feeds : goal.returns-in-Heard-clause-feeds
returns-in-Heard-clause-feeds c setup w k p =
    let n = c.args.number.0 in
    let made = c.make_room in
    let t = c.take_bytes-taken in
    let room = not-crowded c.args.calls.now n c.args.connection.now w p c.requires.places in
    let i = ready c.args.offer setup c.args.calls.now made.new.calls n c.args.connection.now made.new.connection w (length c.args.bytes.now) k p
    c.requires.connection
    c.requires.taking made.ensures.connection made.ensures.calls in
    let a = arrived c.args.offer setup made.new.calls n made.new.connection t.new.from w c.args.bytes.now c.args.bytes.now t.result.0 t.result.1
    (arrivals.Heard c.in-Heard.heard) c.in-Heard.is t.ensures.takes in
    let l = k.layout ∙ sym (ap (λ (x : CallsState). layout_in x) made.ensures.calls.same) in
    heard-took c.args.offer setup made.new.calls n made.new.connection t.new.from w c.args.bytes.now c.args.bytes.now t.result.0 t.result.1 c.admit.new.calls
    c.admit.new.connection _ (heard_of c.in-Heard.heard) false i t.ensures.takes room l refl tt a.2 c.admit.ensures.admitted

pub returns-in-Undecoded-clause-feeds : goal.returns-in-Undecoded-clause-feeds
returns-in-Undecoded-clause-feeds c setup w k p =
    let n = c.args.number.0 in
    let made = c.make_room in
    let t = c.take_bytes-taken in
    let room = not-crowded c.args.calls.now n c.args.connection.now w p c.requires.places in
    let i = ready c.args.offer setup c.args.calls.now made.new.calls n c.args.connection.now made.new.connection w (length c.args.bytes.now) k p
    c.requires.connection
    c.requires.taking made.ensures.connection made.ensures.calls in
    let a = arrived c.args.offer setup made.new.calls n made.new.connection t.new.from w c.args.bytes.now c.args.bytes.now t.result.0 t.result.1
    (arrivals.Undecoded c.in-Undecoded.xid) c.in-Undecoded.is t.ensures.takes in
    let l = k.layout ∙ sym (ap (λ (x : CallsState). layout_in x) made.ensures.calls.same) in
    heard-took c.args.offer setup made.new.calls n made.new.connection t.new.from w c.args.bytes.now c.args.bytes.now t.result.0 t.result.1 c.starve.new.calls
    c.starve.new.connection _ (record { xid = c.in-Undecoded.xid; asked = a.2.0 }) true i t.ensures.takes room l refl a.2.1 a.2.2
    (c.starve.ensures.starved a.2.0 c.args.offer)
