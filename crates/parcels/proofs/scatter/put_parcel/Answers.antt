use Rattle.std.proofs.Common.{◌∙◌, ap, subst, sym}
use Rattle.affinity.specs.Affinity.{affinity_of}
use Rattle.affinity.specs.Layout.{layout_of}
use Rattle.affinity.specs.Numbers.{number_of}
use Rattle.parcels.proofs.Moves.{given-at}
use Rattle.parcels.proofs.scatter.put_parcel.Goals as goal

pub put-requires-clause-vacant : goal.put-requires-clause-vacant
put-requires-clause-vacant g c = ap (g.S.Shelf.at c.args.shelf.now) c.number_of.ensures.number ∙ c.requires.vacant

pub put-requires-clause-allowed : goal.put-requires-clause-allowed
put-requires-clause-allowed g c = subst (λ n. g.S.Shelf.allows c.args.shelf.now n c.args.parcel) (sym c.number_of.ensures.number) c.requires.allowed

pub returns-clause-moved : goal.returns-clause-moved
returns-clause-moved g c =
    given-at (g.S.Shelf.at c.args.shelf.now) (g.S.Shelf.at c.put.new.self) c.number_of.result
    (number_of (layout_of c.args.layout.now) (affinity_of c.args.affinity)) c.args.parcel
    c.number_of.ensures.number c.requires.vacant c.put.ensures.there c.put.ensures.others
