use Rattle.std.proofs.Common.{◌≡◌, ◌%◌, ◌-◌, ◌++◌, ◌∙◌, ap, length, arith}
use Rattle.nfs_model.specs.volume.Stripes.{span_blocks}
use Rattle.stripes.specs.Spans.{place_of, numbers_at, numbers_from}
use Rattle.stripes.proofs.Places.{at-place}
use Rattle.stripes.proofs.Rests.{joined-more, joined-last, few-more}
use Rattle.stripes.proofs.span.Span.tell_numbers.Goals as goal

pub loop-i-init : goal.loop-i-init
loop-i-init c =
    let none = ap length c.clear.ensures in
    record {
      joined = ap (λ ns. ns ++ numbers_at (place_of c.self.inside.places.value) 0 (span_blocks - 0)) c.clear.ensures;
      few = omega (arith, none);
    }

pub tell_place-requires : goal.tell_place-requires
tell_place-requires c = let few = c.loop-i.invariant.few in omega (arith, few)

pub loop-i-preserved : goal.loop-i-preserved
loop-i-preserved c =
    let inv = c.loop-i.invariant in
    let places = c.self.inside.places.value in
    let long = ap length c.deref.ensures ∙ c.self.invariant in
    let within : c.loop-i.i ≡ c.loop-i.i % span_blocks = omega arith in
    record {
      joined =
          joined-more (place_of places) _ c.loop-i.freed c.tell_place.new.freed _ c.loop-i.i (omega arith)
          (at-place places c.deref.result.now c.loop-i.i c.loop-i.i _ c.deref.ensures within (omega (arith, long))) c.tell_place.ensures inv.joined;
      few = few-more _ c.loop-i.freed c.tell_place.new.freed c.loop-i.i c.tell_place.ensures inv.few;
    }

pub returns : goal.returns
returns c =
    joined-last (place_of c.self.inside.places.value) c.loop-i.freed _ c.loop-i.i (omega arith) c.loop-i.invariant.joined
    ∙ ap (numbers_from 0) c.self.view_is
