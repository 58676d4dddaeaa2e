use Rattle.std.proofs.Common.{◌≡◌, ◌<◌, length}
use Rattle.affinity.specs.Layout.{layout_of}
use Rattle.front_rows.proofs.connected.read_all.Given as goal

abbrev pub invariant-loop : goal.invariant-loop
invariant-loop g l = record {
  same : layout_of l.sink.gathered.layout ≡ layout_of l.layout;
  some : 0 < length l.block.items;
}
