use Rattle.std.proofs.Common.{◌≡◌, ◌-◌, ◌++◌, ◌∙◌, ap, sym, subst, length, length-set, arith}
use Rattle.nfs_model.specs.volume.Stripes.{span_blocks}
use Rattle.stripes.specs.Spans.{Places, place_of, numbers_at, numbers_from, IsTakenUpTo, IsTakenFrom}
use Rattle.stripes.proofs.Rests.{some-from, joined-more, joined-last, few-more, taken-none, taken-all, taken-found, taken-more}
use Rattle.stripes.proofs.span.Span.take_rest.Goals as goal

pub loop-i-init : goal.loop-i-init
loop-i-init c =
    let none = ap length c.clear.ensures in
    record {
      joined = ap (λ ns. ns ++ numbers_at (place_of c.self.inside.places.value) c.args.from (span_blocks - c.args.from)) c.clear.ensures;
      taken = taken-none c.args.from c.self.inside.places.value;
      few = omega (arith, none);
      long = c.self.invariant;
    }

pub loop-i-preserved : goal.loop-i-preserved
loop-i-preserved c =
    let inv = c.loop-i.invariant in
    let old = c.self.inside.places.value in
    let xs = c.deref_mut.result.now in
    let same : xs ≡ c.loop-i.self-inside.places.value = c.deref_mut.ensures.value in
    let taken : IsTakenUpTo c.args.from c.loop-i.i old xs = subst (λ (ps : Places). IsTakenUpTo c.args.from c.loop-i.i old ps) (sym same) inv.taken in
    let long : length xs ≡ span_blocks = ap length same ∙ inv.long in
    record {
      joined =
          joined-more (place_of old) _ c.loop-i.freed c.take_place.new.freed _ c.loop-i.i (omega arith)
          (taken-found old xs c.args.from c.loop-i.i taken (omega arith) (omega (arith, long)) _) c.take_place.ensures.told inv.joined;
      taken =
          taken-more old xs c.args.from c.loop-i.i taken (omega arith) (omega (arith, long)) c.take_place.new.place c.take_place.ensures.taken
          (omega arith);
      few = few-more _ c.loop-i.freed c.take_place.new.freed c.loop-i.i c.take_place.ensures.told inv.few;
      long = length-set xs c.loop-i.i c.take_place.new.place ∙ long;
    }

pub returns-clause-some : goal.returns-clause-some
returns-clause-some c = λ _.
    some-from c.args.from c.first_block.result _ c.self.inside.places.value c.loop-i.freed c.if-is_none.ensures c.first_block.ensures.first c.deref.ensures
    (joined-last (place_of c.self.inside.places.value) c.loop-i.freed _ c.loop-i.i (omega arith) c.loop-i.invariant.joined)

pub returns-clause-told : goal.returns-clause-told
returns-clause-told c = λ _.
    joined-last (place_of c.self.inside.places.value) c.loop-i.freed _ c.loop-i.i (omega arith) c.loop-i.invariant.joined
    ∙ ap (numbers_from c.args.from) c.self.view_is

pub returns-clause-taken : goal.returns-clause-taken
returns-clause-taken c = λ _.
    subst (λ (ps : Places). IsTakenFrom c.args.from ps c.loop-i.self-inside.places.value) c.self.view_is
    (taken-all c.args.from c.loop-i.i c.self.inside.places.value c.loop-i.self-inside.places.value (omega arith) c.loop-i.invariant.taken)
