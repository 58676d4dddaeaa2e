use Rattle.std.proofs.Common.{◌≡◌, ◌-◌, ◌+◌, ◌≤◌, length}
use Rattle.nfs_model.specs.volume.Stripes.{span_blocks}
use Rattle.stripes.specs.Spans.{place_of, numbers_at, numbers_from}
use Rattle.stripes.proofs.span.Span.count.Given as goal

abbrev pub invariant-loop-i : goal.invariant-loop-i
invariant-loop-i l = record {
  counted : l.count + length (numbers_at (place_of l.self-inside.places.value) l.i (span_blocks - l.i))
      ≡ length (numbers_from 0 l.self-inside.places.value);
  few : l.count ≤ l.i;
}
