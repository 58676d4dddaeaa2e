use Rattle.std.proofs.Common.{◌∙◌, ap}
use Rattle.affinity.specs.Affinity.{affinity_of}
use Rattle.affinity.specs.Layout.{layout_of}
use Rattle.affinity.specs.Numbers.{number_of}
use Rattle.parcels.proofs.Moves.{taken-at}
use Rattle.parcels.proofs.gather.take_parcel.Goals as goal

pub take-requires : goal.take-requires
take-requires g c = (c.requires.there.0, ap (g.S.Shelf.at c.args.shelf.now) c.number_of.ensures.number ∙ c.requires.there.1)

pub returns-clause-moved : goal.returns-clause-moved
returns-clause-moved g c =
    taken-at (g.S.Shelf.at c.args.shelf.now) (g.S.Shelf.at c.take.new.self) c.number_of.result
    (number_of (layout_of c.args.layout.now) (affinity_of c.args.affinity)) c.take.result
    c.number_of.ensures.number c.take.ensures.there c.take.ensures.gone c.take.ensures.others
