use Rattle.std.proofs.Common.{◌≡◌, ◌%◌, ◌∙◌, ap, sym, length, arith, is_some}
use Rattle.nfs_model.specs.volume.Stripes.{span_blocks}
use Rattle.stripes.specs.Spans.{place_of, numbers_from}
use Rattle.stripes.proofs.Places.{at-place}
use Rattle.stripes.proofs.Rests.{counted-more, counted-same, counted-last}
use Rattle.stripes.proofs.span.Span.count.Goals.{then-is_some, else-is_some}
use Rattle.stripes.proofs.span.Span.count.Goals as goal

pub loop-i-init : goal.loop-i-init
loop-i-init c = record { counted = omega arith; few = omega arith }

pub overflow_add-count : goal.overflow_add-count
overflow_add-count c = let few = c.loop-i.invariant.few in omega (arith, few)

pub loop-i-preserved : goal.loop-i-preserved
loop-i-preserved c =
    let inv = c.loop-i.invariant in
    let few = inv.few in
    let places = c.self.inside.places.value in
    let long = ap length c.deref.ensures ∙ c.self.invariant in
    let within : c.loop-i.i ≡ c.loop-i.i % span_blocks = omega arith in
    let here = at-place places c.deref.result.now c.loop-i.i c.loop-i.i _ c.deref.ensures within (omega (arith, long)) in
    elim c.if-is_some.branch [
      | then-is_some w ↦ let is = w.count-is in record {
        counted = counted-more (place_of places) c.loop-i.count c.if-is_some.count _ c.loop-i.i (omega arith)
            (sym (ap is_some here) ∙ sym w.if-is_some.ensures) is inv.counted;
        few = omega (arith, few, is);
      }
      | else-is_some w ↦ let is = w.count-is in record {
        counted = counted-same (place_of places) c.loop-i.count c.if-is_some.count _ c.loop-i.i (omega arith)
            (sym (ap is_some here) ∙ sym w.if-is_some.ensures) is inv.counted;
        few = omega (arith, few, is);
      }
    ]

pub returns : goal.returns
returns c =
    counted-last (place_of c.self.inside.places.value) c.loop-i.count _ c.loop-i.i (omega arith) c.loop-i.invariant.counted
    ∙ ap (λ places. length (numbers_from 0 places)) c.self.view_is
