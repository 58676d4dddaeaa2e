use Rattle.affinity.specs.Affinity.{affinity_of}
use Rattle.affinity.specs.Layout.{layout_of}
use Rattle.parcels.specs.Exact.{IsVacant}
use Rattle.parcels.proofs.Allowed.{range_allowed}
use Rattle.parcels.proofs.ByKind.{own-under}
use Rattle.parcels.proofs.Levels.{range-scattered}
use Rattle.parcels.proofs.sets.RangeHeld.scatter.Goals as goal

pub put_parcel-requires-clause-node : goal.put_parcel-requires-clause-node
put_parcel-requires-clause-node g c =
    c.requires.node

pub put_parcel-requires-clause-vacant : goal.put_parcel-requires-clause-vacant
put_parcel-requires-clause-vacant g c =
    own-under (layout_of c.args.layout.now) (IsVacant (layout_of c.args.layout.now) (g.S.Shelf.at c.args.shelf.now))
    (affinity_of c.args.affinity) c.requires.node
    c.requires.vacant

pub put_parcel-requires-clause-allowed : goal.put_parcel-requires-clause-allowed
put_parcel-requires-clause-allowed g c =
    range_allowed (layout_of c.args.layout.now) (g.S.Shelf.allows c.args.shelf.now) (affinity_of c.args.affinity) c.args.self c.requires.allowed

pub returns-clause-moved : goal.returns-clause-moved
returns-clause-moved g c =
    range-scattered (layout_of c.args.layout.now) (affinity_of c.args.affinity) c.args.self
    (g.S.Shelf.at c.args.shelf.now) (g.S.Shelf.at c.put_parcel.new.shelf)
    c.put_parcel.ensures.moved
