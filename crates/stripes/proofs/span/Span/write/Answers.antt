use Rattle.std.proofs.Common.{arith}
use Rattle.stripes.proofs.Written.{writes-more, still-long}
use Rattle.stripes.proofs.span.Span.write.Goals as goal

pub loop-block-preserved : goal.loop-block-preserved
loop-block-preserved c = record {
  count = still-long c.loop-block.self-inside.places.value c.deref_mut.result.now c.place.result c.write_into.new.place c.deref_mut.ensures.value
      c.loop-block.invariant.count;
  written = writes-more c.self.inside.places.value c.loop-block.self-inside.places.value c.deref_mut.result.now c.blocks_of-first.result.0
      c.loop-block.block c.args.offset c.place.result c.args.written.now c.index-deref_mut-place.result c.write_into.new.place
      c.loop-block.invariant.written c.deref_mut.ensures.value c.place.ensures.place (omega arith)
      c.write_into.ensures (omega arith) (omega arith);
}
