use Rattle.std.proofs.Common.{rules, refl, arith, ◌≡◌, length}
use Rattle.nfs_values.specs.Ownership.{ownership_of}
use Rattle.inodes.specs.Inode.{kind_value}
use Rattle.service_names.specs.Cards.{DiffersByCard, HasCard}
use Rattle.service_names.proofs.Putting.{place-more, in-first, all-first}
use Rattle.service_names.proofs.cards.put_cards.Goals as goal

pub loop-left-preserved : goal.loop-left-preserved
loop-left-preserved c =
    let below = c.loop-left.invariant.0 in
    let few = c.requires.few in
    let long : length c.loop-left.held.stripes.at ≡ 16 = search rules in (
      omega arith,
      c.loop-left.invariant.1,
      place-more (DiffersByCard c.args.fileid.0) c.args.held.now.own.stripes c.args.held.now.stripes.at c.loop-left.left c.loop-left.held.stripes.at _ _ _
          c.loop-left-test.true below (omega arith) refl c.put_card.ensures.others c.loop-left.invariant.2,
      place-more (HasCard (ownership_of c.args.owner) (kind_value c.args.kind) c.args.fileid.0) c.args.held.now.own.stripes c.args.held.now.stripes.at
          c.loop-left.left
          c.loop-left.held.stripes.at _ _ _ c.loop-left-test.true below (omega arith) refl c.in_ok-put_card.ensures.ok c.loop-left.invariant.3,
    )

pub returns-in_err-put_card-clause-others : goal.returns-in_err-put_card-clause-others
returns-in_err-put_card-clause-others c =
    let below = c.loop-left.invariant.0 in
    let few = c.requires.few in
    let long : length c.loop-left.held.stripes.at ≡ 16 = search rules in
    in-first (DiffersByCard c.args.fileid.0) c.args.held.now.own.stripes c.args.held.now.stripes.at (λ x. refl) _ _
    (place-more (DiffersByCard c.args.fileid.0) c.args.held.now.own.stripes c.args.held.now.stripes.at c.loop-left.left c.loop-left.held.stripes.at _ _ _
    c.loop-left-test.true below (omega arith) refl c.put_card.ensures.others c.loop-left.invariant.2)

pub returns-clause-others : goal.returns-clause-others
returns-clause-others c =
    let done = c.loop-left-test.false in
    all-first (DiffersByCard c.args.fileid.0) c.args.held.now.own.stripes c.args.held.now.stripes.at c.loop-left.left c.loop-left.held.stripes.at
    (omega arith) c.loop-left.invariant.2

pub returns-clause-ok : goal.returns-clause-ok
returns-clause-ok c =
    let done = c.loop-left-test.false in
    all-first (HasCard (ownership_of c.args.owner) (kind_value c.args.kind) c.args.fileid.0) c.args.held.now.own.stripes c.args.held.now.stripes.at
    c.loop-left.left
    c.loop-left.held.stripes.at (omega arith) c.loop-left.invariant.3
