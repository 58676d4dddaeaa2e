use Rattle.std.proofs.Common.{ℕ, Some, Err, Result, refl, sym, ap, subst, ◌∙◌}
use Rattle.nfs_model.specs.World.{Heard}
use Rattle.affinity.specs.Layout.{layout_of}
use Rattle.rpc_msg.specs.Seen.{heard_at, request_at, told_at}
use Rattle.engine_feed.specs.Numbers.{fault_number}
use Rattle.engine_feed.specs.declared.stop.StreamFault.{StreamFault}
use Rattle.engine_feed.specs.lemmas.Reading.{call_read, refusal_read, undecoded_read, fault_read}
use Rattle.tcp_front.specs.declared.stream.Stopped.TheVariants as stops
use Rattle.tcp_front.specs.Steps.{HasGivenRecord}
use Rattle.tcp_front.proofs.taking.give_read.Goals as goal

pub returns-in-Called-clause-given : goal.returns-in-Called-clause-given
returns-in-Called-clause-given g c = λ offer bytes hears.
    let asked = c.args.asked.now in
    let is = call_read offer bytes _ (told_at asked c.in-Ok.told) asked.call asked.caller (ap (heard_at asked) c.in-Ok.is)
    (ap (request_at asked.call asked.caller) c.in-Called.is) hears in
    subst (λ (r : Result Heard ℕ). HasGivenRecord g.S.RecordSink.came (layout_of c.args.layout.now) c.args.stream.now c.args.sink.now r
    c.give_next.result c.give_next.new.stream c.give_next.new.sink) (sym is) c.give_next.ensures.given

pub returns-in-Refused-clause-given : goal.returns-in-Refused-clause-given
returns-in-Refused-clause-given g c = λ offer bytes hears.
    let asked = c.args.asked.now in
    let is = refusal_read offer bytes _ (told_at asked c.in-Ok.told) _ (ap (heard_at asked) c.in-Ok.is)
    (ap (request_at asked.call asked.caller) c.in-Refused.is) hears in
    subst (λ (r : Result Heard ℕ). HasGivenRecord g.S.RecordSink.came (layout_of c.args.layout.now) c.args.stream.now c.args.sink.now r
    c.give_next-in-Refused.result c.give_next-in-Refused.new.stream c.give_next-in-Refused.new.sink) (sym is) c.give_next-in-Refused.ensures.given

pub returns-in-Undecoded-clause-given : goal.returns-in-Undecoded-clause-given
returns-in-Undecoded-clause-given g c = λ offer bytes hears.
    let asked = c.args.asked.now in
    let is = undecoded_read offer bytes _ (told_at asked c.in-Ok.told) (ap (heard_at asked) c.in-Ok.is)
    (ap (request_at asked.call asked.caller) c.in-Undecoded.is) hears in
    subst (λ (r : Result Heard ℕ). HasGivenRecord g.S.RecordSink.came (layout_of c.args.layout.now) c.args.stream.now c.args.sink.now r
    (Some stops.NoMemory) c.args.stream.now c.args.sink.now) (sym is.2) (g.met.S.RecordSink.came_none c.args.sink.now, refl)

pub returns-in-Err-clause-given : goal.returns-in-Err-clause-given
returns-in-Err-clause-given g c = λ offer bytes hears.
    let is = fault_read offer bytes _ c.in-Err.fault (ap (heard_at c.args.asked.now) c.in-Err.is) hears
    ∙ ap (λ (f : StreamFault). Err (fault_number f)) (sym c.stream_fault.ensures) in
    subst (λ (r : Result Heard ℕ). HasGivenRecord g.S.RecordSink.came (layout_of c.args.layout.now) c.args.stream.now c.args.sink.now r
    (Some (stops.Fault c.stream_fault.result)) c.args.stream.now c.args.sink.now) (sym is) (refl, g.met.S.RecordSink.came_none c.args.sink.now, refl)
