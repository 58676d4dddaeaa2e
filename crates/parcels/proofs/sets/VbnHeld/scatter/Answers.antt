use Rattle.std.proofs.Common.{slice_get}
use Rattle.affinity.specs.Affinity.{affinity_of}
use Rattle.affinity.specs.Layout.{layout_of}
use Rattle.affinity.specs.Numbers.{number_of}
use Rattle.parcels.specs.Children.{child}
use Rattle.parcels.specs.Exact.{IsVacant}
use Rattle.parcels.specs.Slots.{in_slot}
use Rattle.parcels.specs.Sets.{range_parcels}
use Rattle.parcels.specs.declared.family.Parcel.TheVariants as parcels
use Rattle.parcels.proofs.Allowing.{allowed-over}
use Rattle.parcels.proofs.ByKind.{own-under, vbn_child_kind, vbn_room, vbn_own_allowed-at, ranges_allowed-at, vbn-scattered-at}
use Rattle.parcels.proofs.Moves.{given-others}
use Rattle.parcels.proofs.Siblings.{children-after}
use Rattle.parcels.proofs.Steps.{vacant_kept}
use Rattle.parcels.proofs.sets.VbnHeld.scatter.Goals as goal

pub put_parcel-requires-clause-node : goal.put_parcel-requires-clause-node
put_parcel-requires-clause-node g c =
    c.requires.node

pub put_parcel-requires-clause-vacant : goal.put_parcel-requires-clause-vacant
put_parcel-requires-clause-vacant g c =
    own-under (layout_of c.args.layout.now) (IsVacant (layout_of c.args.layout.now) (g.S.Shelf.at c.args.shelf.now))
    (affinity_of c.args.affinity) c.requires.node
    c.requires.vacant

pub put_parcel-requires-clause-allowed : goal.put_parcel-requires-clause-allowed
put_parcel-requires-clause-allowed g c =
    vbn_own_allowed-at (layout_of c.args.layout.now) (g.S.Shelf.allows c.args.shelf.now) c.args.self (affinity_of c.args.affinity)
    c.requires.kind c.requires.node c.requires.allowed

pub scatter_children-requires-clause-node : goal.scatter_children-requires-clause-node
scatter_children-requires-clause-node g c =
    c.requires.node

pub scatter_children-requires-clause-kind : goal.scatter_children-requires-clause-kind
scatter_children-requires-clause-kind g c =
    vbn_child_kind (affinity_of c.args.affinity) c.requires.kind

pub scatter_children-requires-clause-room : goal.scatter_children-requires-clause-room
scatter_children-requires-clause-room g c =
    vbn_room (affinity_of c.args.affinity) c.requires.kind

pub scatter_children-requires-clause-vacant : goal.scatter_children-requires-clause-vacant
scatter_children-requires-clause-vacant g c =
    children-after (layout_of c.args.layout.now) (IsVacant (layout_of c.args.layout.now)) (vacant_kept (layout_of c.args.layout.now))
    (g.S.Shelf.at c.args.shelf.now) (g.S.Shelf.at c.put_parcel.new.shelf) (affinity_of c.args.affinity) c.requires.node
    (given-others (g.S.Shelf.at c.args.shelf.now) (g.S.Shelf.at c.put_parcel.new.shelf) (number_of (layout_of c.args.layout.now) (affinity_of c.args.affinity))
    (parcels.Vbn c.args.self.own) c.put_parcel.ensures.moved) c.requires.vacant

pub scatter_children-requires-clause-allowed : goal.scatter_children-requires-clause-allowed
scatter_children-requires-clause-allowed g c =
    λ i l used. allowed-over
    (λ k. in_slot (λ set. range_parcels (layout_of c.args.layout.now) (child (affinity_of c.args.affinity) i) set k) (slice_get c.args.self.ranges.at i))
    (g.S.Shelf.allows c.args.shelf.now) (g.S.Shelf.allows c.put_parcel.new.shelf)
    (λ k x. g.met.S.Shelf.keeps_allowing c.args.shelf.now c.put_parcel.new.shelf k x c.put_parcel.ensures.kept)
    (ranges_allowed-at (layout_of c.args.layout.now) (g.S.Shelf.allows c.args.shelf.now) c.args.self (affinity_of c.args.affinity) c.requires.kind
    c.requires.node c.requires.allowed i l used)

pub returns-clause-moved : goal.returns-clause-moved
returns-clause-moved g c =
    vbn-scattered-at (layout_of c.args.layout.now) c.args.self (g.S.Shelf.at c.args.shelf.now) (g.S.Shelf.at c.put_parcel.new.shelf)
    (g.S.Shelf.at c.scatter_children.new.shelf) (affinity_of c.args.affinity) c.requires.kind c.requires.node
    c.put_parcel.ensures.moved c.scatter_children.ensures.moved

pub returns-clause-kept : goal.returns-clause-kept
returns-clause-kept g c =
    g.met.S.Shelf.keeps_on c.args.shelf.now c.put_parcel.new.shelf c.scatter_children.new.shelf c.put_parcel.ensures.kept c.scatter_children.ensures.kept
