use Rattle.affinity.specs.Affinity.{affinity_of}
use Rattle.affinity.specs.Layout.{layout_of}
use Rattle.parcels.specs.Exact.{HasParcel}
use Rattle.parcels.proofs.ByKind.{own-under, stripe-gathered-at}
use Rattle.parcels.proofs.Levels.{stripe-taken}
use Rattle.parcels.proofs.nodes.StripeNodeNodeParcel.gather.Goals as goal

pub take_own-own-requires-clause-node : goal.take_own-own-requires-clause-node
take_own-own-requires-clause-node g c =
    c.requires.node

pub take_own-own-requires-clause-kind : goal.take_own-own-requires-clause-kind
take_own-own-requires-clause-kind g c =
    c.requires.kind

pub take_own-own-requires-clause-there : goal.take_own-own-requires-clause-there
take_own-own-requires-clause-there g c =
    own-under (layout_of c.args.layout.now) (HasParcel (layout_of c.args.layout.now) (g.S.Shelf.at c.args.shelf.now))
    (affinity_of c.args.affinity) c.requires.node
    c.requires.there

pub returns-clause-exact : goal.returns-clause-exact
returns-clause-exact g c =
    stripe-gathered-at (layout_of c.args.layout.now) (g.S.Shelf.at c.args.shelf.now) (g.S.Shelf.at c.take_own-own.new.shelf)
    record { own = c.take_own-own.result } (affinity_of c.args.affinity) c.requires.kind c.requires.node c.take_own-own.ensures.moved c.requires.there

pub returns-clause-moved : goal.returns-clause-moved
returns-clause-moved g c =
    stripe-taken (layout_of c.args.layout.now) (affinity_of c.args.affinity) record { own = c.take_own-own.result } (g.S.Shelf.at c.args.shelf.now)
    (g.S.Shelf.at c.take_own-own.new.shelf) c.take_own-own.ensures.moved
