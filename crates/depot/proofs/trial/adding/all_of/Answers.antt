use Rattle.std.proofs.Common.{arith, ◌≡◌, ◌+◌, length, ap, ◌∙◌, None, Some, refl}
use Rattle.std.proofs.lemmas.List.{length-replicate, length-set}
use Rattle.affinity.specs.Affinity.{affinity_of}
use Rattle.affinity.specs.Layout.{layout_of}
use Rattle.affinity.specs.Numbers.{node_count}
use Rattle.parcels.specs.Exact.{kind_in}
use Rattle.depot.proofs.trial.Trials.{none-below, laid-more, laid-all, none-each, more-each, taken-each}
use Rattle.depot.proofs.trial.adding.all_of.Goals as goal

pub loop-number-init : goal.loop-number-init
loop-number-init c =
    let made : length c.in_ok-shelf.shelf.parcels.items ≡ c.node_count.result + 1 = ap length c.in_ok-shelf.ensures
    ∙ length-replicate (c.node_count.result + 1) None in
    let count = c.node_count.ensures.count in (
      omega arith,
      none-below kind_in (layout_of c.args.layout.now) c.in_ok-shelf.shelf.parcels.items,
      none-each c.args.each (c.node_count.result + 1)
          c.in_ok-shelf.shelf.parcels.items c.in_ok-shelf.ensures,
    )

pub index_mut-requires : goal.index_mut-requires
index_mut-requires c =
    let size : length c.loop-number.shelf.parcels.items ≡ 1 + node_count (layout_of c.args.layout.now) = c.loop-number.invariant.0 in
    let count = c.node_count-number-end.ensures.count in
    let below = c.loop-number-test.true in
    let vec = c.loop-number.shelf.parcels.ok.0 in
    omega arith

pub loop-number-preserved : goal.loop-number-preserved
loop-number-preserved c =
    let size : length c.loop-number.shelf.parcels.items ≡ 1 + node_count (layout_of c.args.layout.now) = c.loop-number.invariant.0 in
    let count = c.node_count-number-end.ensures.count in
    let below = c.loop-number-test.true in (
      length-set c.loop-number.shelf.parcels.items c.loop-number.number (Some c.parcel.result) ∙ size,
      laid-more kind_in (layout_of c.args.layout.now) c.loop-number.shelf.parcels.items c.loop-number.number c.parcel.result
          (affinity_of c.affinity_at.result) c.affinity_at.ensures.node c.affinity_at.ensures.number
          (c.parcel.ensures.kind ∙ c.kind-kind.ensures) (omega arith) c.loop-number.invariant.1,
      more-each c.args.each c.loop-number.shelf.parcels.items c.loop-number.number c.parcel.result c.parcel.ensures.number (omega arith)
          c.loop-number.invariant.2,
    )

pub gather-requires : goal.gather-requires
gather-requires c =
    let count = c.node_count-number-end.ensures.count in
    let done = c.loop-number-test.false in (
      omega arith,
      (
        tt,
        (
          refl,
          laid-all kind_in (layout_of c.args.layout.now) c.loop-number.shelf.parcels.items c.loop-number.number (omega arith)
              c.loop-number.invariant.1,
        ),
      ),
    )

pub returns-clause-numbers : goal.returns-clause-numbers
returns-clause-numbers c = taken-each c.args.each _ _ _ c.gather.ensures.moved c.loop-number.invariant.2
