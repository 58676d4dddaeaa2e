-- the records of the bytes that were taken are given on
use Rattle.std.proofs.Common.{◌≡◌, ◌≤◌, ◌<◌, ◌-◌, None, length, take}
use Rattle.affinity.specs.Layout.{layout_of}
use Rattle.tcp_front.specs.Arrivals.{most_records}
use Rattle.tcp_front.specs.Steps.{HasTaken}
use Rattle.tcp_front.proofs.taking.take_all.Given as goal

abbrev pub invariant-loop-taken : goal.invariant-loop-taken
invariant-loop-taken g l = record {
  within : l.taken ≤ length l.bytes;
  few : l.stream.records < most_records;
  layout : g.S.RecordSink.layout l.sink ≡ g.S.RecordSink.layout l.fn.sink;
  did : HasTaken g.S.RecordSink.came (layout_of l.layout) l.offer l.fn.stream l.fn.sink (take l.taken l.bytes) None l.stream l.sink;
}

abbrev pub decreases-loop-taken : goal.decreases-loop-taken
decreases-loop-taken g l = length l.bytes - l.taken
