use Rattle.std.proofs.Common.{List, refl, sym, ap, subst, ◌∙◌}
use Rattle.std.specs.Prelude.{OnOk}
use Rattle.affinity.specs.Affinity.{call_node}
use Rattle.affinity.specs.Layout.{layout_of}
use Rattle.nfs_model.specs.Tree.{Layout}
use Rattle.nfs_model.specs.Types as types
use Rattle.nfs_model.specs.Home.{home}
use Rattle.nfs_values.specs.Call.{call_of}
use Rattle.nfs_values.specs.Caller.{caller_of}
use Rattle.nfs_values.specs.declared.call.Call.{Call}
use Rattle.rpc_msg.specs.declared.record.DecodedCall.{DecodedCall}
use Rattle.rpc_msg.specs.declared.record.Verdict.{Verdict}
use Rattle.rpc_msg.specs.declared.record.Verdict.TheVariants.{Called, Refused, Undecoded}
use Rattle.rpc_msg.specs.Seen.{request_at}
use Rattle.engine_feed.specs.Seen.{asked_of}
use Rattle.engine_feed.specs.Sound.{IsAdmitted}
use Rattle.scheduler.specs.Messages.{message_at}
use Rattle.tcp_front.specs.Arrivals.{Arrival}
use Rattle.tcp_front.specs.Steps.{given_of}
use Rattle.tcp_front.specs.Peers.{may_ask, sender_of}
use Rattle.tcp_front.proofs.Fitting.{asked-by, waits-is, answered-is}
use Rattle.tcp_front.proofs.giving.give.Goals as goal

pub admit-requires-clause-admitted : goal.admit-requires-clause-admitted
admit-requires-clause-admitted g c =
    let a = c.in-Some.admission in
    let placed = c.place_at.new.self in
    subst (λ (l : Layout). IsAdmitted l (message_at c.args.origin placed.call placed.caller a.affinity a.room)) (sym c.requires.layout)
    (subst (λ (d : DecodedCall). IsAdmitted (layout_of c.args.layout.now) (message_at c.args.origin d.call placed.caller a.affinity a.room))
    c.get.ensures (record { node = c.in-Some.ensures.waits.node; room = c.in-Some.ensures.waits.room }))

pub returns-in-Some-clause-ok : goal.returns-in-Some-clause-ok
returns-in-Some-clause-ok g c =
    let layout = layout_of c.args.layout.now in
    let asked = c.args.asked.now in
    let placed = c.place_at.new.self in
    let sender = sender_of c.args.peer in
    let may = ap (λ (d : DecodedCall). may_ask sender (call_of d.call) (caller_of d.caller)) (sym c.get-read.ensures)
    ∙ sym c.may_ask.ensures ∙ c.if-not-may_ask.false in
    let is = ap (λ (k : Call). types.Ask (call_of k) (caller_of placed.caller)) c.place_at.ensures.call
    ∙ asked-by sender (call_of asked.call) (caller_of asked.caller) (caller_of placed.caller) may c.place_at.ensures.caller in
    let at = ap (λ (d : DecodedCall). home layout (call_of d.call)) (sym c.get.ensures) ∙ c.in-Some.ensures.waits.at_home in
    subst (λ (v : Verdict). OnOk c.admit.result (g.S.RecordSink.came c.args.sink.now
    (given_of layout c.args.peer c.args.origin (asked_of (request_at asked.call asked.caller v))) c.admit.new.self))
    (sym c.in-Called.is)
    (subst (λ (xs : List Arrival). OnOk c.admit.result (g.S.RecordSink.came c.args.sink.now xs c.admit.new.self))
    (waits-is layout c.args.peer c.args.origin (asked_of (request_at asked.call asked.caller Called))
    (types.Ask (call_of placed.call) (caller_of placed.caller)) is (call_node c.in-Some.admission.affinity) at) c.admit.ensures.ok)

pub returns-in-None-clause-ok : goal.returns-in-None-clause-ok
returns-in-None-clause-ok g c =
    let layout = layout_of c.args.layout.now in
    let asked = c.args.asked.now in
    let placed = c.place_at.new.self in
    let sender = sender_of c.args.peer in
    let to = c.answer_read in
    let may = ap (λ (d : DecodedCall). may_ask sender (call_of d.call) (caller_of d.caller)) (sym c.get-read.ensures)
    ∙ sym c.may_ask.ensures ∙ c.if-not-may_ask.false in
    let is = ap (λ (k : Call). types.Ask (call_of k) (caller_of placed.caller)) c.place_at.ensures.call
    ∙ asked-by sender (call_of asked.call) (caller_of asked.caller) (caller_of placed.caller) may c.place_at.ensures.caller in
    let at = ap (λ (d : DecodedCall). home layout (call_of d.call)) (sym c.get.ensures) ∙ sym c.in-None.ensures.home in
    subst (λ (v : Verdict). OnOk to.result (g.S.RecordSink.came c.args.sink.now
    (given_of layout c.args.peer c.args.origin (asked_of (request_at asked.call asked.caller v))) to.new.sink))
    (sym c.in-Called.is)
    (subst (λ (xs : List Arrival). OnOk to.result (g.S.RecordSink.came c.args.sink.now xs to.new.sink))
    (answered-is layout c.args.peer c.args.origin (asked_of (request_at asked.call asked.caller Called))
    (types.Ask (call_of placed.call) (caller_of placed.caller)) is at) to.ensures.ok)

pub returns-in-Refused-clause-ok : goal.returns-in-Refused-clause-ok
returns-in-Refused-clause-ok g c =
    let layout = layout_of c.args.layout.now in
    let asked = c.args.asked.now in
    let to = c.refuse-in-Refused in
    subst (λ (v : Verdict). OnOk to.result (g.S.RecordSink.came c.args.sink.now
    (given_of layout c.args.peer c.args.origin (asked_of (request_at asked.call asked.caller v))) to.new.sink))
    (sym c.in-Refused.is)
    (subst (λ (xs : List Arrival). OnOk to.result (g.S.RecordSink.came c.args.sink.now xs to.new.sink))
    (answered-is layout c.args.peer c.args.origin (asked_of (request_at asked.call asked.caller (Refused c.in-Refused.refusal))) _ refl refl)
    to.ensures.ok)

pub returns-in-Undecoded-clause-ok : goal.returns-in-Undecoded-clause-ok
returns-in-Undecoded-clause-ok g c =
    let layout = layout_of c.args.layout.now in
    let asked = c.args.asked.now in
    let to = c.answer_undecoded in
    subst (λ (v : Verdict). OnOk to.result (g.S.RecordSink.came c.args.sink.now
    (given_of layout c.args.peer c.args.origin (asked_of (request_at asked.call asked.caller v))) to.new.sink))
    (sym c.in-Undecoded.is)
    (subst (λ (xs : List Arrival). OnOk to.result (g.S.RecordSink.came c.args.sink.now xs to.new.sink))
    (answered-is layout c.args.peer c.args.origin (asked_of (request_at asked.call asked.caller Undecoded)) _ refl refl) to.ensures.ok)
