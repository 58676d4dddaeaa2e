use Rattle.std.proofs.Common.{◌∙◌, subst}
use Rattle.affinity.specs.Affinity.{affinity_of}
use Rattle.affinity.specs.Layout.{layout_of}
use Rattle.affinity.specs.Numbers.{number_of}
use Rattle.parcels.specs.Moved.{AllMoved}
use Rattle.parcels.specs.Slots.{alone}
use Rattle.parcels.proofs.gather.take_own.Goals as goal

pub unreachable-requires : goal.unreachable-requires
unreachable-requires g c = c.in-Err.ensures.other (c.take_parcel.ensures.kind ∙ c.requires.kind)

pub returns-clause-moved : goal.returns-clause-moved
returns-clause-moved g c =
    subst (λ parcel. AllMoved (g.S.Shelf.at c.args.shelf.now) (alone (number_of (layout_of c.args.layout.now) (affinity_of c.args.affinity)) parcel)
    (g.S.Shelf.at c.take_parcel.new.shelf)) c.in-Ok.ensures.own c.take_parcel.ensures.moved
