use Rattle.std.proofs.Common.{◌≡◌, length}
use Rattle.nfs_model.specs.volume.Stripes.{span_blocks}
use Rattle.stripes.specs.Spans.{WritesBlocks}
use Rattle.stripes.proofs.span.Span.write.Given as goal

abbrev pub invariant-loop-block : goal.invariant-loop-block
invariant-loop-block l = record {
  count : length l.self-inside.places.value ≡ span_blocks;
  written : WritesBlocks l.first l.block l.offset l.written l.initial.self-inside.places.value l.self-inside.places.value;
}
