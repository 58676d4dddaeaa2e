use Rattle.std.proofs.Common.{rules, refl, arith, ◌≡◌, length}
use Rattle.service_names.specs.Cards.{IsDropped}
use Rattle.service_names.proofs.Dropped.{dropped-all, dropped-alike}
use Rattle.service_names.proofs.Putting.{place-more, all-first}
use Rattle.service_names.proofs.cards.drop_cards.Goals as goal

pub loop-left-preserved : goal.loop-left-preserved
loop-left-preserved c =
    let below = c.loop-left.invariant.0 in
    let few = c.requires.few in
    let long : length c.loop-left.held.stripes.at ≡ 16 = search rules in (
      omega arith,
      c.loop-left.invariant.1,
      place-more (IsDropped c.args.fileid.0) c.args.held.now.own.stripes c.args.held.now.stripes.at c.loop-left.left c.loop-left.held.stripes.at _ _ _
          c.loop-left-test.true below (omega arith) refl c.drop_card.ensures c.loop-left.invariant.2,
    )

pub returns-clause-dropped : goal.returns-clause-dropped
returns-clause-dropped c =
    let done = c.loop-left-test.false in
    all-first (IsDropped c.args.fileid.0) c.args.held.now.own.stripes c.args.held.now.stripes.at c.loop-left.left c.loop-left.held.stripes.at
    (omega arith) c.loop-left.invariant.2

pub returns-clause-stripes : goal.returns-clause-stripes
returns-clause-stripes c =
    let done = c.loop-left-test.false in
    dropped-all c.args.fileid.0 c.args.held.now.own.stripes c.args.held.now.stripes.at c.loop-left.held.stripes.at
    (all-first (IsDropped c.args.fileid.0) c.args.held.now.own.stripes c.args.held.now.stripes.at c.loop-left.left c.loop-left.held.stripes.at
    (omega arith) c.loop-left.invariant.2)

pub returns-clause-alike : goal.returns-clause-alike
returns-clause-alike c =
    let done = c.loop-left-test.false in
    dropped-alike c.args.fileid.0 c.args.held.now.own.stripes c.args.held.now.stripes.at c.loop-left.held.stripes.at
    (all-first (IsDropped c.args.fileid.0) c.args.held.now.own.stripes c.args.held.now.stripes.at c.loop-left.left c.loop-left.held.stripes.at
    (omega arith) c.loop-left.invariant.2)
