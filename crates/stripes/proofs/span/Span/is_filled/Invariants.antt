use Rattle.std.proofs.Common.{◌≡◌, ◌-◌, true, is_some}
use Rattle.std.specs.List.{range_with_len, list_all}
use Rattle.stripes.specs.Spans.{place_of}
use Rattle.stripes.proofs.span.Span.is_filled.Given as goal

abbrev pub invariant-loop-block : goal.invariant-loop-block
invariant-loop-block l = list_all (λ b. is_some (place_of l.self-inside.places.value b)) (range_with_len l.first (l.block - l.first)) ≡ true
