use Rattle.std.proofs.Common.{◌≡◌, ◌+◌, ◌-◌, ◌∙◌, ℕ, ap, sym, false, is_some, arith}
use Rattle.std.specs.List.{range_with_len, list_all}
use Rattle.stripes.specs.Spans.{Places, place_of}
use Rattle.stripes.proofs.Ranges.{not-filled, all-range-more}
use Rattle.stripes.proofs.Places.{at-place}
use Rattle.stripes.proofs.span.Span.is_filled.Goals as goal

pub returns-then-is_none : goal.returns-then-is_none
returns-then-is_none c =
    let places = c.self.inside.places.value in
    let here = at-place places c.deref.result.now c.place.result c.loop-block.block c.index-deref-place.result c.deref.ensures c.place.ensures.place
    (omega arith) in
    let fails : is_some (place_of places c.loop-block.block) ≡ false = sym (ap is_some here) ∙ c.if-is_none.ensures in
    not-filled (λ b. is_some (place_of c.args.self.now b)) c.args.offset c.args.n c.loop-block.block c.requires.some (omega arith) (omega arith)
    (ap (λ (l : Places). is_some (place_of l c.loop-block.block)) (sym c.self.view_is) ∙ fails)

pub loop-block-preserved : goal.loop-block-preserved
loop-block-preserved c =
    let places = c.self.inside.places.value in
    let p = λ (b : ℕ). is_some (place_of places b) in
    let first = c.blocks_of-first.result.0 in
    let count : c.loop-block.block + 1 - first ≡ c.loop-block.block - first + 1 = omega arith in
    let at : first + (c.loop-block.block - first) ≡ c.loop-block.block = omega arith in
    let here = at-place places c.deref.result.now c.place.result c.loop-block.block c.index-deref-place.result c.deref.ensures c.place.ensures.place
    (omega arith) in
    ap (λ n. list_all p (range_with_len first n)) count ∙ all-range-more p first _ c.loop-block.invariant
    (ap p at ∙ sym (ap is_some here) ∙ c.if-is_none.ensures)
