use Rattle.std.proofs.Common.{◌∙◌, refl, subst, arith}
use Rattle.depot.specs.Words.{view}
use Rattle.desk.specs.Any.{node_lent}
use Rattle.granted_calls.specs.Telling.{TookTold}
use Rattle.granted_calls.specs.lemmas.Telling.{told_none, told_more}
use Rattle.granted_calls.specs.shared_waiting.Passes.{known}
use Rattle.granted_calls.specs.declared.linking.Link.{Link}
use Rattle.granted_calls.specs.Links.{HasLinked, IsNextPlaced}
use Rattle.granted_calls.specs.Filers.{layout_in, verifier_in}
use Rattle.granted_calls.proofs.Chains.{begins, goes-on, stops, lasts, last-placed}
use Rattle.granted_calls.proofs.Few.{on-size, over-size}
use Rattle.granted_calls.proofs.Linked.{lent-for}
use Rattle.granted_calls.proofs.Balancing.{known-still, share-from}
use Rattle.granted_calls.proofs.chaining.chain.Goals as goal

pub loop-link-init : goal.loop-link-init
loop-link-init g c =
    let L = layout_in c.args.filer.now in record {
      seat = c.requires.seat;
      splits = refl;
      of = c.requires.of;
      share = (refl, refl, refl);
      up = omega arith;
      few = omega arith;
      placed = c.requires.placed;
      gone = λ s stands. begins (TookTold c.args.handles g.S.AnswerSink.took)
          (told_none c.args.handles g.S.AnswerSink.took g.met.S.AnswerSink.took_none) L (verifier_in c.args.filer.now) s c.args.moment c.args.sink.now
          c.args.message (known c.args.pass.now) (node_lent L c.args.grant.now) (view c.args.seat.now) stands;
    }

pub link_on-requires-clause-layout : goal.link_on-requires-clause-layout
link_on-requires-clause-layout g c =
    known-still (layout_in c.args.filer.now) (known c.args.pass.now) (known c.loop-link.pass) c.loop-link.invariant.share c.requires.layout

pub link_on-requires-clause-stands : goal.link_on-requires-clause-stands
link_on-requires-clause-stands g c =
    let gone = c.loop-link.invariant.gone c.requires.stands.0 c.requires.stands.1 in (gone.between, gone.stands)

pub loop-link-preserved : goal.loop-link-preserved
loop-link-preserved g c =
    let L = layout_in c.args.filer.now in
    let took = TookTold c.args.handles g.S.AnswerSink.took in
    let ver = verifier_in c.args.filer.now in
    let m = c.loop-link.message in
    let pass = known c.loop-link.pass in
    let pass' = known c.link_on.new.pass in
    let l = node_lent L c.loop-link.grant in
    let l' = node_lent L c.link_on.new.grant in
    let w = view c.loop-link.seat in
    let w' = view c.link_on.new.seat in record {
      seat = c.link_on.ensures.seat;
      splits = c.link_on.ensures.splits ∙ c.loop-link.invariant.splits;
      of = c.link_on.ensures.of;
      share = share-from (known c.args.pass.now) pass pass' c.loop-link.invariant.share c.link_on.ensures.share;
      few =
          let gone = c.loop-link.invariant.gone c.requires.stands.0 c.requires.stands.1 in
          let one = on-size took L ver gone.between m c.args.moment pass pass' l l' w w' c.loop-link.sink c.link_on.new.sink c.link_on.new.told gone.stands
          c.in-On.next
          (subst (λ (x : Link). HasLinked took L ver gone.between m c.args.moment pass l w c.loop-link.sink x c.link_on.new.told pass' l' w'
          c.link_on.new.sink) c.in-On.is
          (c.link_on.ensures.linked gone.between gone.stands)) in
          let few = c.loop-link.invariant.few in
          omega (arith, one, few);
      up = let less = c.loop-link-test.true in omega (arith, less);
      placed = subst (λ (x : Link). IsNextPlaced L x) c.in-On.is c.link_on.ensures.placed;
      gone = λ s stands.
          let gone = c.loop-link.invariant.gone s stands in
          goes-on took (told_more c.args.handles g.S.AnswerSink.took g.met.S.AnswerSink.took_more) L ver s c.args.moment c.args.sink.now
          c.loop-link.sink c.link_on.new.sink m pass pass' l l' w w'
          gone c.in-On.next c.link_on.new.told
          (subst (λ (x : Link). HasLinked took L ver gone.between m c.args.moment pass l w c.loop-link.sink x c.link_on.new.told pass' l' w'
          c.link_on.new.sink) c.in-On.is
          (c.link_on.ensures.linked gone.between gone.stands));
    }

pub returns-in-Over-clause-splits : goal.returns-in-Over-clause-splits
returns-in-Over-clause-splits g c = c.link_on.ensures.splits ∙ c.loop-link.invariant.splits

pub returns-in-Over-clause-share : goal.returns-in-Over-clause-share
returns-in-Over-clause-share g c =
    share-from (known c.args.pass.now) (known c.loop-link.pass) (known c.link_on.new.pass) c.loop-link.invariant.share c.link_on.ensures.share

pub returns-in-Over-clause-few : goal.returns-in-Over-clause-few
returns-in-Over-clause-few g c =
    let L = layout_in c.args.filer.now in
    let took = TookTold c.args.handles g.S.AnswerSink.took in
    let ver = verifier_in c.args.filer.now in
    let m = c.loop-link.message in
    let pass = known c.loop-link.pass in
    let pass' = known c.link_on.new.pass in
    let l = node_lent L c.loop-link.grant in
    let l' = node_lent L c.link_on.new.grant in
    let w = view c.loop-link.seat in
    let w' = view c.link_on.new.seat in
    let gone = c.loop-link.invariant.gone c.requires.stands.0 c.requires.stands.1 in
    let same = over-size took L ver gone.between m c.args.moment pass pass' l l' w w' c.loop-link.sink c.link_on.new.sink c.link_on.new.told gone.stands
    c.in-Over.tried
    (subst (λ (x : Link). HasLinked took L ver gone.between m c.args.moment pass l w c.loop-link.sink x c.link_on.new.told pass' l' w'
    c.link_on.new.sink) c.in-Over.is
    (c.link_on.ensures.linked gone.between gone.stands)) in
    let few = c.loop-link.invariant.few in
    let less = c.loop-link-test.true in
    omega (arith, same, few, less)

pub returns-in-Over-clause-placed : goal.returns-in-Over-clause-placed
returns-in-Over-clause-placed g c = subst (λ (x : Link). IsNextPlaced (layout_in c.args.filer.now) x) c.in-Over.is c.link_on.ensures.placed

pub returns-in-Over-clause-chained : goal.returns-in-Over-clause-chained
returns-in-Over-clause-chained g c s stands =
    let L = layout_in c.args.filer.now in
    let took = TookTold c.args.handles g.S.AnswerSink.took in
    let ver = verifier_in c.args.filer.now in
    let m = c.loop-link.message in
    let pass = known c.loop-link.pass in
    let pass' = known c.link_on.new.pass in
    let l = node_lent L c.loop-link.grant in
    let l' = node_lent L c.link_on.new.grant in
    let w = view c.loop-link.seat in
    let w' = view c.link_on.new.seat in
    let gone = c.loop-link.invariant.gone s stands in
    stops took (told_more c.args.handles g.S.AnswerSink.took g.met.S.AnswerSink.took_more) L ver s c.args.moment c.args.sink.now c.loop-link.sink
    c.link_on.new.sink m pass pass' l l' w w'
    gone c.in-Over.tried c.link_on.new.told
    (subst (λ (x : Link). HasLinked took L ver gone.between m c.args.moment pass l w c.loop-link.sink x c.link_on.new.told pass' l' w'
    c.link_on.new.sink) c.in-Over.is
    (c.link_on.ensures.linked gone.between gone.stands))

pub try_on-requires-clause-lent : goal.try_on-requires-clause-lent
try_on-requires-clause-lent g c =
    let L = layout_in c.args.filer.now in
    let gone = c.loop-link.invariant.gone c.requires.stands.0 c.requires.stands.1 in
    lent-for L c.args.filer.now.depot.layout.lawful (verifier_in c.args.filer.now) gone.between c.loop-link.message c.loop-link.invariant.placed
    c.args.moment (known c.loop-link.pass) (node_lent L c.loop-link.grant) (view c.loop-link.seat) gone.stands

pub returns-clause-few : goal.returns-clause-few
returns-clause-few g c =
    let few = c.loop-link.invariant.few in
    let up = c.loop-link.invariant.up in
    omega (arith, few, up)

pub returns-clause-placed : goal.returns-clause-placed
returns-clause-placed g c =
    let L = layout_in c.args.filer.now in
    last-placed (TookTold c.args.handles g.S.AnswerSink.took) (told_more c.args.handles g.S.AnswerSink.took g.met.S.AnswerSink.took_more) L
    (verifier_in c.args.filer.now) c.requires.stands.0 c.args.moment c.loop-link.message
    (node_lent L c.loop-link.grant) (node_lent L c.try_on.new.grant) c.try_on.result c.try_on.new.told c.try_on.ensures.ran

pub returns-clause-chained : goal.returns-clause-chained
returns-clause-chained g c s stands =
    let L = layout_in c.args.filer.now in
    lasts (TookTold c.args.handles g.S.AnswerSink.took) (told_more c.args.handles g.S.AnswerSink.took g.met.S.AnswerSink.took_more) L
    (verifier_in c.args.filer.now) s c.args.moment c.args.sink.now c.loop-link.sink
    c.loop-link.message c.loop-link.invariant.placed (known c.loop-link.pass) (node_lent L c.loop-link.grant) (node_lent L c.try_on.new.grant)
    (view c.loop-link.seat) (c.loop-link.invariant.gone s stands) c.try_on.result c.try_on.new.told c.try_on.ensures.ran
