-- what was read so far was given on, and nothing failed
use Rattle.std.proofs.Common.{◌≡◌, ◌<◌, length}
use Rattle.affinity.specs.Layout.{layout_of}
use Rattle.tcp_front.specs.Arrivals.{most_records}
use Rattle.tcp_front.proofs.Ends.{SoFar}
use Rattle.tcp_front.proofs.reading.read_loop_in.Given as goal

abbrev pub invariant-loop : goal.invariant-loop
invariant-loop g l = record {
  wide : 0 < length l.block;
  few : l.stream.records < most_records;
  layout : g.S.RecordSink.layout l.sink ≡ g.S.RecordSink.layout l.fn.sink;
  so_far : SoFar g.R.Read.remaining g.S.RecordSink.came (layout_of l.layout) l.offer l.fn.alloc l.fn.connection l.fn.peer l.fn.reader l.fn.sink
      l.reader l.stream l.sink;
}
