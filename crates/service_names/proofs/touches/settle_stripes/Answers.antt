use Rattle.std.proofs.Common.{rules, refl, arith, ◌≡◌, length}
use Rattle.nfs_values.specs.Ownership.{ownership_of}
use Rattle.service_names.proofs.Putting.{place-more, all-first}
use Rattle.service_names.proofs.Settling.{IsSettled, settled-all, settled-alike}
use Rattle.service_names.proofs.touches.settle_stripes.Goals as goal

pub loop-left-preserved : goal.loop-left-preserved
loop-left-preserved c =
    let below = c.loop-left.invariant.0 in
    let few = c.requires.few in
    let long : length c.loop-left.held.stripes.at ≡ 16 = search rules in (
      omega arith,
      c.loop-left.invariant.1,
      place-more (IsSettled c.args.fileid.0 (ownership_of c.args.owner)) c.args.held.now.own.stripes c.args.held.now.stripes.at c.loop-left.left
          c.loop-left.held.stripes.at _ _ _ c.loop-left-test.true below (omega arith) refl
          (c.settle_place.ensures.settled, c.settle_place.ensures.alike) c.loop-left.invariant.2,
    )

pub returns-clause-settled : goal.returns-clause-settled
returns-clause-settled c =
    let done = c.loop-left-test.false in
    settled-all c.args.fileid.0 (ownership_of c.args.owner) c.args.held.now.own.stripes c.args.held.now.stripes.at c.loop-left.held.stripes.at
    (all-first (IsSettled c.args.fileid.0 (ownership_of c.args.owner)) c.args.held.now.own.stripes c.args.held.now.stripes.at c.loop-left.left
    c.loop-left.held.stripes.at (omega arith) c.loop-left.invariant.2)

pub returns-clause-alike : goal.returns-clause-alike
returns-clause-alike c =
    let done = c.loop-left-test.false in
    settled-alike c.args.fileid.0 (ownership_of c.args.owner) c.args.held.now.own.stripes c.args.held.now.stripes.at c.loop-left.held.stripes.at
    (all-first (IsSettled c.args.fileid.0 (ownership_of c.args.owner)) c.args.held.now.own.stripes c.args.held.now.stripes.at c.loop-left.left
    c.loop-left.held.stripes.at (omega arith) c.loop-left.invariant.2)
