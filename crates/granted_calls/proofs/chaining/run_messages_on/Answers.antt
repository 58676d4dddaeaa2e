use Rattle.std.proofs.Common.{List, length, Some, refl, sym, ap, subst, arith}
use Rattle.affinity.specs.Affinity.{call_affinity, call_node}
use Rattle.depot.specs.Words.{view}
use Rattle.desk.specs.Any.{node_lent}
use Rattle.granted_calls.specs.Telling.{TookTold}
use Rattle.granted_calls.specs.lemmas.Telling.{told_none, told_more}
use Rattle.granted_calls.specs.declared.chained.Chained.{Chained}
use Rattle.granted_calls.specs.shared_waiting.Passes.{known}
use Rattle.granted_calls.specs.Chains.{left_standing, HasServedOn}
use Rattle.granted_calls.specs.Filers.{layout_in, verifier_in}
use Rattle.granted_calls.proofs.Chains.{can-end, end-placed, end-ready, end-served, picked-kept, refused-served, stands-first}
use Rattle.granted_calls.proofs.Few.{ended-size, granted-size}
use Rattle.granted_calls.proofs.Finished.{refused-entries, refused-ready}
use Rattle.granted_calls.specs.Balance.{FilerEntry}
use Rattle.granted_calls.proofs.chaining.run_messages_on.Goals as goal

-- ---- it didn't begin

pub returns-in-Err-clause-ready : goal.returns-in-Err-clause-ready
returns-in-Err-clause-ready g c =
    refused-ready (layout_in c.args.filer.now) (view c.args.seat.now) (view c.begin_on.new.seat) (call_affinity c.args.message.affinity)
    (verifier_in c.args.filer.now)
    c.in-Err.refusal c.in-Err.ensures.refused c.requires.ready

pub returns-in-Err-clause-served : goal.returns-in-Err-clause-served
returns-in-Err-clause-served g c s picked =
    let L = layout_in c.args.filer.now in
    let took = TookTold c.args.handles g.S.AnswerSink.took in
    let w = view c.begin_on.new.seat in
    let pass = known c.args.pass.now in
    subst (λ (x : Chained). HasServedOn took L s c.args.moment c.args.sink.now x c.args.sink.now (left_standing w pass (Some c.args.message)))
    (sym c.refused.ensures)
    (refused-served L (verifier_in c.args.filer.now) s c.args.message (view c.args.seat.now) pass picked c.requires.ready took
    (told_none c.args.handles g.S.AnswerSink.took g.met.S.AnswerSink.took_none) c.args.moment c.args.sink.now w c.in-Err.refusal c.in-Err.ensures.refused)

pub returns-in-Err-clause-few : goal.returns-in-Err-clause-few
returns-in-Err-clause-few g c =
    let same = ap (λ (es : List FilerEntry). length es)
    (refused-entries (layout_in c.args.filer.now) (view c.args.seat.now) (view c.begin_on.new.seat) (call_affinity c.args.message.affinity) c.in-Err.refusal
    c.in-Err.ensures.refused) in
    omega (arith, same)

-- ---- it began

pub chain-tried-requires-clause-stands : goal.chain-tried-requires-clause-stands
chain-tried-requires-clause-stands g c =
    let L = layout_in c.args.filer.now in
    let v = view c.args.seat.now in
    let pass = known c.args.pass.now in
    let s = left_standing v pass (Some c.args.message) in (
      s,
      stands-first L (verifier_in c.args.filer.now) s c.args.message v pass (picked-kept v pass (Some c.args.message) c.args.message refl)
          c.requires.ready (node_lent L c.in-Ok.grant) (view c.begin_on.new.seat) c.requires.seat.1.0 c.in-Ok.ensures.granted,
    )

pub end_on-kept-requires-clause-can : goal.end_on-kept-requires-clause-can
end_on-kept-requires-clause-can g c =
    let L = layout_in c.args.filer.now in
    let ver = verifier_in c.args.filer.now in
    let v = view c.args.seat.now in
    let pass = known c.args.pass.now in
    let s = left_standing v pass (Some c.args.message) in
    let stands = stands-first L ver s c.args.message v pass (picked-kept v pass (Some c.args.message) c.args.message refl)
    c.requires.ready (node_lent L c.in-Ok.grant) (view c.begin_on.new.seat) c.requires.seat.1.0 c.in-Ok.ensures.granted in
    can-end (TookTold c.args.handles g.S.AnswerSink.took) (told_more c.args.handles g.S.AnswerSink.took g.met.S.AnswerSink.took_more) L ver s
    c.args.moment c.args.filer.now.depot.layout.lawful c.args.sink.now
    c.chain-tried.new.sink c.chain-tried.new.sink c.chain-tried.new.told (known c.chain-tried.new.pass) (node_lent L c.chain-tried.new.grant)
    (view c.chain-tried.new.seat) c.chain-tried.result c.has_eight.ensures c.servers_are_roomy.ensures.begins c.servers_are_roomy.ensures.stays
    c.replies_fit.ensures.offered
    (c.chain-tried.ensures.chained s stands)

pub returns-clause-ready : goal.returns-clause-ready
returns-clause-ready g c =
    let L = layout_in c.args.filer.now in
    let ver = verifier_in c.args.filer.now in
    let v = view c.args.seat.now in
    let pass = known c.args.pass.now in
    let s = left_standing v pass (Some c.args.message) in
    let stands = stands-first L ver s c.args.message v pass (picked-kept v pass (Some c.args.message) c.args.message refl)
    c.requires.ready (node_lent L c.in-Ok.grant) (view c.begin_on.new.seat) c.requires.seat.1.0 c.in-Ok.ensures.granted in
    end-ready (TookTold c.args.handles g.S.AnswerSink.took) (told_more c.args.handles g.S.AnswerSink.took g.met.S.AnswerSink.took_more) L ver s
    c.args.moment c.args.filer.now.depot.layout.lawful c.args.sink.now
    c.chain-tried.new.sink c.end_on-kept.new.sink c.chain-tried.new.told (known c.chain-tried.new.pass) (node_lent L c.chain-tried.new.grant)
    (view c.chain-tried.new.seat) (view c.end_on-kept.new.seat) c.end_on-kept.result c.chain-tried.result (c.chain-tried.ensures.chained s stands)
    c.end_on-kept.ensures.ended

pub returns-clause-few : goal.returns-clause-few
returns-clause-few g c =
    let L = layout_in c.args.filer.now in
    let begun = granted-size L (view c.args.seat.now) (view c.begin_on.new.seat) (call_node c.args.message.affinity) (node_lent L c.in-Ok.grant)
    c.in-Ok.ensures.granted in
    let few = c.chain-tried.ensures.few in
    let ended = ended-size (TookTold c.args.handles g.S.AnswerSink.took) L (view c.chain-tried.new.seat) (view c.end_on-kept.new.seat)
    (node_lent L c.chain-tried.new.grant)
    c.end_on-kept.result c.chain-tried.new.sink c.end_on-kept.new.sink c.chain-tried.result c.chain-tried.new.told c.end_on-kept.ensures.ended in
    omega (arith, begun, few, ended)

pub returns-clause-placed : goal.returns-clause-placed
returns-clause-placed g c =
    let L = layout_in c.args.filer.now in
    let ver = verifier_in c.args.filer.now in
    let v = view c.args.seat.now in
    let pass = known c.args.pass.now in
    let s = left_standing v pass (Some c.args.message) in
    let stands = stands-first L ver s c.args.message v pass (picked-kept v pass (Some c.args.message) c.args.message refl)
    c.requires.ready (node_lent L c.in-Ok.grant) (view c.begin_on.new.seat) c.requires.seat.1.0 c.in-Ok.ensures.granted in
    end-placed (TookTold c.args.handles g.S.AnswerSink.took) (told_more c.args.handles g.S.AnswerSink.took g.met.S.AnswerSink.took_more) L ver s
    c.args.moment c.args.filer.now.depot.layout.lawful c.args.sink.now
    c.chain-tried.new.sink c.end_on-kept.new.sink c.chain-tried.new.told (known c.chain-tried.new.pass) (node_lent L c.chain-tried.new.grant)
    (view c.chain-tried.new.seat) (view c.end_on-kept.new.seat) c.end_on-kept.result c.chain-tried.result (c.chain-tried.ensures.chained s stands)
    c.end_on-kept.ensures.ended
    c.chain-tried.ensures.placed

pub returns-clause-served : goal.returns-clause-served
returns-clause-served g c s picked =
    let L = layout_in c.args.filer.now in
    let took = TookTold c.args.handles g.S.AnswerSink.took in
    let ver = verifier_in c.args.filer.now in
    let stands = stands-first L ver s c.args.message (view c.args.seat.now) (known c.args.pass.now) picked c.requires.ready
    (node_lent L c.in-Ok.grant) (view c.begin_on.new.seat) c.requires.seat.1.0 c.in-Ok.ensures.granted in
    subst (λ (x : Chained). HasServedOn took L s c.args.moment c.args.sink.now x c.end_on-kept.new.sink
    (left_standing (view c.end_on-kept.new.seat) (known c.chain-tried.new.pass) c.end_on-kept.result)) (sym c.ended_by-chained.ensures)
    (end-served took (told_more c.args.handles g.S.AnswerSink.took g.met.S.AnswerSink.took_more) L ver s c.args.moment
    c.args.filer.now.depot.layout.lawful c.args.sink.now
    c.chain-tried.new.sink c.end_on-kept.new.sink c.chain-tried.new.told (known c.chain-tried.new.pass) (node_lent L c.chain-tried.new.grant)
    (view c.chain-tried.new.seat) (view c.end_on-kept.new.seat) c.end_on-kept.result c.chain-tried.result (c.chain-tried.ensures.chained s stands)
    c.end_on-kept.ensures.ended)
