use Rattle.std.proofs.Common.{arith, rules, refl, sym, ap, subst, ◌≡◌, ℕ, length, ◌-◌, IsSome}
use Rattle.std.specs.FinMap.{get}
use Rattle.nfs_model.specs.volume.Logical.{LogicalValue}
use Rattle.nfs_model.specs.volume.Stripes.{StripeValue}
use Rattle.std.specs.Option.{option_map}
use Rattle.nfs_values.specs.Ownership.{ownership_of}
use Rattle.service_names.proofs.Sized.{AreSizedFrom, none-sized, place-sized, place-was, all-sized, size-stays, numbers-then, card-of-place, numbers-of-place}
use Rattle.service_names.proofs.cutting.size_stripes.Goals as goal

pub loop-left-init : goal.loop-left-init
loop-left-init c =
    let same : c.args.held.now.own.stripes ≡ c.get.result.now.stripes = sym (ap (λ (l : LogicalValue). l.stripes) c.get.ensures) in (
      omega arith,
      subst (λ (n : ℕ). AreSizedFrom c.args.fileid.0 c.args.size (option_map ownership_of c.args.owner) c.args.held.now.own.stripes c.args.held.now.stripes.at
          c.args.held.now.own
          c.args.filled n c.args.held.now.stripes.at c.args.held.now.own c.args.filled) same
          (none-sized c.args.fileid.0 c.args.size (option_map ownership_of c.args.owner) c.args.held.now.own.stripes c.args.held.now.stripes.at c.args.held.now.own
          c.args.filled),
    )

pub size_place-rest-requires-clause-card : goal.size_place-rest-requires-clause-card
size_place-rest-requires-clause-card c =
    let few = c.requires.few in
    let long : length c.loop-left.held.stripes.at ≡ 16 = search rules in
    let some = c.loop-left-test.true in
    let below = c.loop-left.invariant.0 in
    let same = place-was c.args.fileid.0 c.args.size (option_map ownership_of c.args.owner) c.args.held.now.own.stripes c.args.held.now.stripes.at c.args.held.now.own
    c.args.filled
    c.loop-left.left c.loop-left.held.stripes.at c.loop-left.held.own c.loop-left.rest _ _ some below (omega arith) refl c.loop-left.invariant.1 in
    subst (λ (s : StripeValue). IsSome (get s.cards c.args.fileid.0)) (sym same)
    (card-of-place c.args.held.now c.args.fileid.0 c.args.size (c.loop-left.left - 1) c.requires (omega arith))

pub size_place-rest-requires-clause-numbers : goal.size_place-rest-requires-clause-numbers
size_place-rest-requires-clause-numbers c =
    let few = c.requires.few in
    let long : length c.loop-left.held.stripes.at ≡ 16 = search rules in
    let some = c.loop-left-test.true in
    let below = c.loop-left.invariant.0 in
    let same = place-was c.args.fileid.0 c.args.size (option_map ownership_of c.args.owner) c.args.held.now.own.stripes c.args.held.now.stripes.at c.args.held.now.own
    c.args.filled
    c.loop-left.left c.loop-left.held.stripes.at c.loop-left.held.own c.loop-left.rest _ _ some below (omega arith) refl c.loop-left.invariant.1 in
    let kept = size-stays c.args.fileid.0 c.args.size (option_map ownership_of c.args.owner) c.args.held.now.own.stripes c.args.held.now.stripes.at
    c.args.held.now.own c.args.filled
    c.loop-left.left c.loop-left.held.stripes.at c.loop-left.held.own c.loop-left.rest below c.loop-left.invariant.1 in
    numbers-then _ _ c.args.fileid.0 c.args.size _ _ kept same
    (numbers-of-place c.args.held.now c.args.fileid.0 c.args.size (c.loop-left.left - 1) c.requires (omega arith))

pub loop-left-preserved : goal.loop-left-preserved
loop-left-preserved c = (
  (let below = c.loop-left.invariant.0 in omega arith),
  place-sized c.args.fileid.0 c.args.size (option_map ownership_of c.args.owner) c.args.held.now.own.stripes c.args.held.now.stripes.at c.args.held.now.own c.args.filled
      c.loop-left.left c.loop-left.held.stripes.at c.loop-left.held.own c.size_place-rest.new.own c.loop-left.rest c.size_place-rest.result _ _ _
      c.loop-left-test.true c.loop-left.invariant.0
      (let few = c.requires.few in let long : length c.loop-left.held.stripes.at ≡ 16 = search rules in omega arith) refl
      c.size_place-rest.ensures.left c.size_place-rest.ensures.own c.size_place-rest.ensures.sized c.size_place-rest.ensures.alike
      c.loop-left.invariant.1,
)

pub returns-clause-left : goal.returns-clause-left
returns-clause-left c =
    let done = c.loop-left-test.false in
    (all-sized c.args.fileid.0 c.args.size (option_map ownership_of c.args.owner) c.args.held.now.own.stripes c.args.held.now.stripes.at c.args.held.now.own c.args.filled
    c.loop-left.left c.loop-left.held.stripes.at c.loop-left.held.own c.loop-left.rest (omega arith) c.loop-left.invariant.1).0

pub returns-clause-own : goal.returns-clause-own
returns-clause-own c =
    let done = c.loop-left-test.false in
    (all-sized c.args.fileid.0 c.args.size (option_map ownership_of c.args.owner) c.args.held.now.own.stripes c.args.held.now.stripes.at c.args.held.now.own c.args.filled
    c.loop-left.left c.loop-left.held.stripes.at c.loop-left.held.own c.loop-left.rest (omega arith) c.loop-left.invariant.1).1

pub returns-clause-sized : goal.returns-clause-sized
returns-clause-sized c =
    let done = c.loop-left-test.false in
    (all-sized c.args.fileid.0 c.args.size (option_map ownership_of c.args.owner) c.args.held.now.own.stripes c.args.held.now.stripes.at c.args.held.now.own c.args.filled
    c.loop-left.left c.loop-left.held.stripes.at c.loop-left.held.own c.loop-left.rest (omega arith) c.loop-left.invariant.1).2
