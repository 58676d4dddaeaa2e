use Rattle.std.proofs.Common.{rules, ◌∙◌, Option, Some, take, drop, length, ◌-◌, subst}
use Rattle.affinity.specs.Layout.{layout_of}
use Rattle.tcp_front.specs.declared.stream.Stopped.{Stopped}
use Rattle.tcp_front.specs.Steps.{HasTaken}
use Rattle.tcp_front.proofs.Taken.{next-taken, part-taken}
use Rattle.tcp_front.proofs.taking.take_some.Goals as goal

pub returns-in-Some-clause-taken : goal.returns-in-Some-clause-taken
returns-in-Some-clause-taken g c =
    let came = g.S.RecordSink.came in
    let layout = layout_of c.args.layout.now in
    let t = c.loop-taken.stream in
    let mid = c.loop-taken.sink in
    let s' = c.take_record-size.new.stream in
    let sink' = c.take_record-size.new.sink in
    let part = take c.take_record-size.result.0 (take (length c.args.bytes.now - c.loop-taken.taken)
    (drop c.loop-taken.taken c.args.bytes.now)) in
    let h = subst (λ (o : Option Stopped). HasTaken came layout c.args.offer t mid part o s' sink') c.in-Some.is
    c.take_record-size.ensures.taken in
    part-taken came layout c.args.offer g.met.S.RecordSink.came_more c.args.stream.now t s' c.args.sink.now mid sink' c.args.bytes.now _ _
    c.loop-taken.invariant.did (Some c.in-Some.stopped) h

pub loop-taken-preserved : goal.loop-taken-preserved
loop-taken-preserved g c =
    let came = g.S.RecordSink.came in
    let layout = layout_of c.args.layout.now in
    let t = c.loop-taken.stream in
    let mid = c.loop-taken.sink in
    let s' = c.take_record-size.new.stream in
    let sink' = c.take_record-size.new.sink in
    let part = take c.take_record-size.result.0 (take (length c.args.bytes.now - c.loop-taken.taken)
    (drop c.loop-taken.taken c.args.bytes.now)) in
    let h = subst (λ (o : Option Stopped). HasTaken came layout c.args.offer t mid part o s' sink') c.in-None.is
    c.take_record-size.ensures.taken in
    record {
      within = search rules;
      few = h.stops.1;
      layout = c.take_record-size.ensures.layout ∙ c.loop-taken.invariant.layout;
      did = next-taken came layout c.args.offer g.met.S.RecordSink.came_more c.args.stream.now t s' c.args.sink.now mid sink'
          c.args.bytes.now _ _
          c.loop-taken.invariant.did h;
    }
