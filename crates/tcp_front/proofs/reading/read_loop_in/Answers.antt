use Rattle.std.proofs.Common.{rules, sym, ◌∙◌, Option, take, subst}
use Rattle.affinity.specs.Layout.{layout_of}
use Rattle.rpc_record.specs.Machine.{State}
use Rattle.tcp_front.specs.declared.stream.Stopped.{Stopped}
use Rattle.tcp_front.specs.declared.read_end.ReadEnd.{ReadEnd}
use Rattle.tcp_front.specs.Peers.{sender_of}
use Rattle.tcp_front.specs.Reading.{HasRead}
use Rattle.tcp_front.specs.Steps.{HasTaken}
use Rattle.tcp_front.proofs.Ends.{SoFar, nothing-read, at-end, reader-failed, more-read, read-to-stop}
use Rattle.tcp_front.proofs.reading.read_loop_in.Goals as goal

pub loop-init : goal.loop-init
loop-init g c = record {
  wide = search rules;
  few = search rules;
  layout = search rules;
  so_far = subst
      (λ (at : Option State). SoFar g.R.Read.remaining g.S.RecordSink.came
      (layout_of c.args.layout.now) c.args.offer c.args.alloc c.args.connection c.args.peer c.args.reader.now
      c.args.sink.now c.args.reader.now (record {
        alloc = c.args.alloc;
        connection = c.args.connection;
        peer = c.args.peer;
        reassembler = at;
        records = 0;
      }) c.args.sink.now)
      (sym c.new.ensures)
      (nothing-read g.R.Read.remaining g.S.RecordSink.came (layout_of c.args.layout.now) c.args.offer c.args.alloc c.args.connection c.args.peer
      c.args.reader.now c.args.sink.now
      g.met.S.RecordSink.came_none);
}

pub returns-in-Ok-eq0 : goal.returns-in-Ok-eq0
returns-in-Ok-eq0 g c =
    let k = c.in-Ok-eq0.ensures in
    let e = c.in-Ok-eq0.field-0-test in
    at-end _ _ _ _ _ _ _ _ _ _ c.loop.stream c.loop.sink c.loop.invariant.so_far _ _ c.read_some.new.block e k.bytes.0
    (k.bytes.1 e (search rules)) k.counts

pub returns-in-Err : goal.returns-in-Err
returns-in-Err g c =
    let k = c.in-Err.ensures in
    reader-failed _ _ _ _ _ _ _ _ _ _ c.loop.stream c.loop.sink c.loop.invariant.so_far _ k.bytes k.counts

pub returns-in-Some-stopped : goal.returns-in-Some-stopped
returns-in-Some-stopped g c =
    let came = g.S.RecordSink.came in
    let layout = layout_of c.args.layout.now in
    let bytes = take c.in-Ok.size c.read_some.new.block in
    let stream' = c.take_all-stopped.new.stream in
    let mid = c.take_all-stopped.new.sink in
    let h = subst (λ (o : Option Stopped). HasTaken came layout c.args.offer c.loop.stream c.loop.sink bytes o stream' mid)
    c.in-Some-stopped.is c.take_all-stopped.ensures.taken in
    let done = read-to-stop g.R.Read.remaining came layout c.args.offer c.args.alloc c.args.connection c.args.peer c.args.reader.now c.args.sink.now
    c.loop.reader c.loop.stream
    c.loop.sink c.loop.invariant.so_far g.met.S.RecordSink.came_more c.read_some.new.self stream' mid c.read_ended.new.self bytes
    c.in-Ok.ensures.bytes.0
    c.in-Ok.ensures.counts c.read_ended.ensures.none c.in-Some-stopped.stopped h in
    subst (λ (e : ReadEnd). HasRead g.R.Read.remaining came layout c.args.offer c.args.connection.0 (sender_of c.args.peer) c.args.reader.now c.args.sink.now e
    c.read_some.new.self c.read_ended.new.self)
    (sym c.end_of.ensures) done

pub loop-preserved : goal.loop-preserved
loop-preserved g c =
    let came = g.S.RecordSink.came in
    let layout = layout_of c.args.layout.now in
    let bytes = take c.in-Ok.size c.read_some.new.block in
    let stream' = c.take_all-stopped.new.stream in
    let mid = c.take_all-stopped.new.sink in
    let h = subst (λ (o : Option Stopped). HasTaken came layout c.args.offer c.loop.stream c.loop.sink bytes o stream' mid)
    c.in-None-stopped.is c.take_all-stopped.ensures.taken in
    record {
      wide = search rules;
      few = h.stops.1;
      layout = c.read_ended.ensures.layout ∙ c.take_all-stopped.ensures.layout ∙ c.loop.invariant.layout;
      so_far = more-read g.R.Read.remaining came layout c.args.offer c.args.alloc c.args.connection c.args.peer c.args.reader.now c.args.sink.now
          c.loop.reader c.loop.stream
          c.loop.sink c.loop.invariant.so_far g.met.S.RecordSink.came_more c.read_some.new.self stream' mid c.read_ended.new.self
          bytes c.in-Ok.ensures.bytes.0
          c.in-Ok.ensures.counts c.read_ended.ensures.none h;
    }
