use Rattle.std.proofs.Common.{arith, ◌≡◌, ◌+◌, length, ◌∙◌, Some, refl}
use Rattle.std.proofs.lemmas.List.{length-set}
use Rattle.affinity.specs.Affinity.{affinity_of}
use Rattle.affinity.specs.Layout.{layout_of}
use Rattle.affinity.specs.Numbers.{node_count}
use Rattle.nfs_model.specs.Tree as trees
use Rattle.parcels.specs.Sets.{serial_parcels}
use Rattle.filer_state.specs.laws.lemmas.Opening.{opening-sound, opening-tree}
use Rattle.filer_state.proofs.Laid.{laid-more, laid-placed, laid-taken}
use Rattle.filer_state.proofs.opening.opening_parcels.Goals as goal

pub loop-number-preserved : goal.loop-number-preserved
loop-number-preserved c =
    let size : length c.loop-number.shelf.parcels.items ≡ 1 + node_count (layout_of c.args.layout.now) = c.loop-number.invariant.0 in
    let count = c.node_count-number-end.ensures.count in
    let below = c.loop-number-test.true in (
      length-set c.loop-number.shelf.parcels.items c.loop-number.number (Some c.in_ok-parcel.parcel) ∙ size,
      laid-more (layout_of c.args.layout.now) c.args.verifier.0 c.loop-number.shelf.parcels.items c.loop-number.number
          (affinity_of c.affinity_at.result) c.in_ok-parcel.parcel c.affinity_at.ensures.node c.affinity_at.ensures.number
          c.in_ok-parcel.ensures (omega arith) c.loop-number.invariant.1,
    )

pub gather-requires : goal.gather-requires
gather-requires c =
    let count = c.node_count-number-end.ensures.count in
    let done = c.loop-number-test.false in (
      omega arith,
      (
        tt,
        (
          refl,
          laid-placed (layout_of c.args.layout.now) c.args.verifier.0 c.loop-number.shelf.parcels.items c.loop-number.number
              (omega arith) c.loop-number.invariant.1,
        ),
      ),
    )

pub returns-clause-opening : goal.returns-clause-opening
returns-clause-opening c =
    let count = c.node_count-number-end.ensures.count in
    let done = c.loop-number-test.false in
    laid-taken (layout_of c.args.layout.now) c.args.verifier.0 c.loop-number.shelf.parcels.items c.loop-number.number
    (omega arith) c.loop-number.invariant.1 _ _ c.gather.ensures.moved c.gather.ensures.exact

pub returns-clause-sound : goal.returns-clause-sound
returns-clause-sound c =
    let L = layout_of c.args.layout.now in (
      L,
      (c.args.layout.now.lawful, refl),
      opening-sound L c.args.layout.now.lawful c.args.verifier.0 (serial_parcels L trees.Serial c.gather.result)
          (returns-clause-opening c),
    )

pub returns-clause-server : goal.returns-clause-server
returns-clause-server c =
    let L = layout_of c.args.layout.now in
    opening-tree L c.args.layout.now.lawful c.args.verifier.0 (serial_parcels L trees.Serial c.gather.result) (returns-clause-opening c)
