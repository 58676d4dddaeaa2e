use Rattle.std.proofs.Common.{rules}
use Rattle.affinity.specs.Affinity.{affinity_of}
use Rattle.affinity.specs.Layout.{layout_of}
use Rattle.affinity.specs.Numbers.{number_of}
use Rattle.affinity.specs.lemmas.Lawful.{aggregate_known}
use Rattle.parcels.specs.Exact.{HasParcel, IsPlaced, kind_in}
use Rattle.parcels.specs.declared.family.Parcel.TheVariants as parcels
use Rattle.parcels.proofs.ByKind.{own-under, serial_child_kind, serial_room, serial-taken-at, serial-gathered-at}
use Rattle.parcels.proofs.Moves.{taken-others}
use Rattle.parcels.proofs.Siblings.{children-after, placed_kept}
use Rattle.parcels.proofs.nodes.SerialNodeNodeParcel.gather.Goals as goal

pub take_own-own-requires-clause-node : goal.take_own-own-requires-clause-node
take_own-own-requires-clause-node g c =
    c.requires.node

pub take_own-own-requires-clause-kind : goal.take_own-own-requires-clause-kind
take_own-own-requires-clause-kind g c =
    c.requires.kind

pub take_own-own-requires-clause-there : goal.take_own-own-requires-clause-there
take_own-own-requires-clause-there g c =
    own-under (layout_of c.args.layout.now) (HasParcel (layout_of c.args.layout.now) (g.S.Shelf.at c.args.shelf.now))
    (affinity_of c.args.affinity) c.requires.node
    c.requires.there

pub gather_children-requires-clause-node : goal.gather_children-requires-clause-node
gather_children-requires-clause-node g c =
    c.requires.node

pub gather_children-requires-clause-kind : goal.gather_children-requires-clause-kind
gather_children-requires-clause-kind g c =
    serial_child_kind (affinity_of c.args.affinity) c.requires.kind

pub gather_children-requires-clause-room : goal.gather_children-requires-clause-room
gather_children-requires-clause-room g c =
    serial_room (affinity_of c.args.affinity) c.requires.kind

pub gather_children-requires-clause-there : goal.gather_children-requires-clause-there
gather_children-requires-clause-there g c =
    children-after (layout_of c.args.layout.now) (IsPlaced kind_in (layout_of c.args.layout.now)) (placed_kept kind_in (layout_of c.args.layout.now))
    (g.S.Shelf.at c.args.shelf.now) (g.S.Shelf.at c.take_own-own.new.shelf) (affinity_of c.args.affinity) c.requires.node
    (taken-others (g.S.Shelf.at c.args.shelf.now) (g.S.Shelf.at c.take_own-own.new.shelf)
    (number_of (layout_of c.args.layout.now) (affinity_of c.args.affinity)) (parcels.Serial c.take_own-own.result) c.take_own-own.ensures.moved)
    c.requires.there

pub returns-clause-exact : goal.returns-clause-exact
returns-clause-exact g c =
    serial-gathered-at (layout_of c.args.layout.now) record { own = c.take_own-own.result; aggregates = c.gather_children.new.slots }
    (g.S.Shelf.at c.args.shelf.now) (g.S.Shelf.at c.take_own-own.new.shelf) (g.S.Shelf.at c.gather_children.new.shelf)
    (affinity_of c.args.affinity) c.requires.kind c.requires.node (λ v. aggregate_known (layout_of c.args.layout.now) v c.args.layout.now.lawful)
    c.take_own-own.ensures.moved c.gather_children.ensures.moved c.gather_children.ensures.gone c.requires.there

pub returns-clause-moved : goal.returns-clause-moved
returns-clause-moved g c =
    serial-taken-at (layout_of c.args.layout.now) record { own = c.take_own-own.result; aggregates = c.gather_children.new.slots }
    (g.S.Shelf.at c.args.shelf.now) (g.S.Shelf.at c.take_own-own.new.shelf) (g.S.Shelf.at c.gather_children.new.shelf)
    (affinity_of c.args.affinity) c.requires.kind c.requires.node c.take_own-own.ensures.moved c.gather_children.ensures.moved

pub returns-clause-kept : goal.returns-clause-kept
returns-clause-kept g c =
    g.met.S.Shelf.keeps_on c.args.shelf.now c.take_own-own.new.shelf c.gather_children.new.shelf c.take_own-own.ensures.kept c.gather_children.ensures.kept

-- that sets and slots fit memory: each found once
pub gather_children-requires-room-C-Slots : goal.gather_children-requires-room-C-Slots
gather_children-requires-room-C-Slots g c κs within = search rules

pub gather_children-requires-room-K-Node : goal.gather_children-requires-room-K-Node
gather_children-requires-room-K-Node g c κs within = search rules

pub gather_children-requires-room-C-Slots-2 : goal.gather_children-requires-room-C-Slots-2
gather_children-requires-room-C-Slots-2 g c κs within = gather_children-requires-room-K-Node g c κs within
