use Rattle.std.proofs.Common.{◌≡◌, ◌+◌, ◌-◌, ◌≤◌, ◌++◌, vec_len, vec_capacity}
use Rattle.stripes.specs.Spans.{span_read}
use Rattle.stripes.proofs.span.Span.read.Given as goal

abbrev pub invariant-loop-done : goal.invariant-loop-done
invariant-loop-done l = record {
  within : l.done ≤ l.n;
  bytes : l.into.items ≡ l.initial.into.items ++ span_read l.self-inside.places.value l.offset l.done;
  len : vec_len l.into ≡ vec_len l.initial.into + l.done;
  capacity : vec_capacity l.initial.into ≤ vec_capacity l.into;
}

abbrev pub decreases-loop-done : goal.decreases-loop-done
decreases-loop-done l = l.n - l.done
