use Rattle.std.proofs.Common.{sym, refl}
use Rattle.nfs_model.specs.Tree as trees
use Rattle.affinity.specs.Affinity.{affinity_of}
use Rattle.affinity.specs.Layout.{layout_of}
use Rattle.affinity.specs.Numbers.{number_of}
use Rattle.parcels.specs.Exact.{IsVacant}
use Rattle.parcels.specs.Sets.{vbn_parcels, logical_parcels, volume_parcels}
use Rattle.parcels.specs.lemmas.Around.{is-volume}
use Rattle.parcels.specs.declared.family.Parcel.TheVariants as parcels
use Rattle.parcels.proofs.Parts.{logical-none}
use Rattle.parcels.proofs.Allowing.{allowed-over}
use Rattle.parcels.proofs.Allowed.{volume_own_allowed, logical_allowed, vbn_allowed}
use Rattle.parcels.proofs.Moves.{moved-same, given-others}
use Rattle.parcels.proofs.AtNode.{at-node, at-under, at-allowed, at-taken}
use Rattle.parcels.proofs.Exactness.{volume-from, vbn-to, logical-to}
use Rattle.parcels.proofs.Steps.{vacant_kept, logical-after, vbn-after, vbn-after-logical}
use Rattle.parcels.proofs.Levels.{volume-scattered}
use Rattle.parcels.proofs.sets.VolumeHeld.scatter.Goals as goal

pub put_parcel-requires-clause-node : goal.put_parcel-requires-clause-node
put_parcel-requires-clause-node g c =
    let at = is-volume (affinity_of c.args.affinity) c.volume_number-volume.result c.requires.kind c.volume_number-volume.ensures in
    at-node (layout_of c.args.layout.now) (affinity_of c.args.affinity) (trees.Volume c.volume_number-volume.result) at c.requires.node

pub put_parcel-requires-clause-vacant : goal.put_parcel-requires-clause-vacant
put_parcel-requires-clause-vacant g c =
    let at = is-volume (affinity_of c.args.affinity) c.volume_number-volume.result c.requires.kind c.volume_number-volume.ensures in
    (volume-from (layout_of c.args.layout.now) (IsVacant (layout_of c.args.layout.now) (g.S.Shelf.at c.args.shelf.now)) c.volume_number-volume.result
    (at-node (layout_of c.args.layout.now) (affinity_of c.args.affinity) (trees.Volume c.volume_number-volume.result) at
    c.requires.node) (at-under (layout_of c.args.layout.now) (affinity_of c.args.affinity) (trees.Volume c.volume_number-volume.result)
    at (IsVacant (layout_of c.args.layout.now) (g.S.Shelf.at c.args.shelf.now)) c.requires.vacant)).own

pub put_parcel-requires-clause-allowed : goal.put_parcel-requires-clause-allowed
put_parcel-requires-clause-allowed g c =
    let at = is-volume (affinity_of c.args.affinity) c.volume_number-volume.result c.requires.kind c.volume_number-volume.ensures in
    volume_own_allowed (layout_of c.args.layout.now) (g.S.Shelf.allows c.args.shelf.now) c.volume_number-volume.result c.args.self
    (at-allowed (layout_of c.args.layout.now) (affinity_of c.args.affinity) (trees.Volume c.volume_number-volume.result) at
    volume_parcels c.args.self (g.S.Shelf.allows c.args.shelf.now) c.requires.allowed)

pub scatter_at-requires-clause-node : goal.scatter_at-requires-clause-node
scatter_at-requires-clause-node g c =
    let at = is-volume (affinity_of c.args.affinity) c.volume_number-volume.result c.requires.kind c.volume_number-volume.ensures in
    at-node (layout_of c.args.layout.now) (affinity_of c.args.affinity) (trees.Volume c.volume_number-volume.result) at c.requires.node

pub scatter_at-requires-clause-kind : goal.scatter_at-requires-clause-kind
scatter_at-requires-clause-kind g c =
    refl

pub scatter_at-requires-clause-vacant : goal.scatter_at-requires-clause-vacant
scatter_at-requires-clause-vacant g c =
    let at = is-volume (affinity_of c.args.affinity) c.volume_number-volume.result c.requires.kind c.volume_number-volume.ensures in
    logical-to (layout_of c.args.layout.now) (IsVacant (layout_of c.args.layout.now) (g.S.Shelf.at c.put_parcel.new.shelf)) c.volume_number-volume.result
    (logical-after (layout_of c.args.layout.now) (IsVacant (layout_of c.args.layout.now)) (vacant_kept (layout_of c.args.layout.now))
    (g.S.Shelf.at c.args.shelf.now) (g.S.Shelf.at c.put_parcel.new.shelf) c.volume_number-volume.result
    (given-others (g.S.Shelf.at c.args.shelf.now) (g.S.Shelf.at c.put_parcel.new.shelf)
    (number_of (layout_of c.args.layout.now) (trees.Volume c.volume_number-volume.result)) (parcels.Volume c.args.self.own) c.put_parcel.ensures.moved)
    (volume-from (layout_of c.args.layout.now) (IsVacant (layout_of c.args.layout.now) (g.S.Shelf.at c.args.shelf.now)) c.volume_number-volume.result
    (at-node (layout_of c.args.layout.now) (affinity_of c.args.affinity) (trees.Volume c.volume_number-volume.result) at
    c.requires.node) (at-under (layout_of c.args.layout.now) (affinity_of c.args.affinity) (trees.Volume c.volume_number-volume.result)
    at (IsVacant (layout_of c.args.layout.now) (g.S.Shelf.at c.args.shelf.now)) c.requires.vacant)).logical)

pub scatter_at-requires-clause-allowed : goal.scatter_at-requires-clause-allowed
scatter_at-requires-clause-allowed g c =
    let at = is-volume (affinity_of c.args.affinity) c.volume_number-volume.result c.requires.kind c.volume_number-volume.ensures in
    allowed-over (logical_parcels (layout_of c.args.layout.now) (trees.Logical c.volume_number-volume.result) c.args.self.logical)
    (g.S.Shelf.allows c.args.shelf.now) (g.S.Shelf.allows c.put_parcel.new.shelf)
    (λ k x. g.met.S.Shelf.keeps_allowing c.args.shelf.now c.put_parcel.new.shelf k x c.put_parcel.ensures.kept)
    (logical_allowed (layout_of c.args.layout.now) (g.S.Shelf.allows c.args.shelf.now) c.volume_number-volume.result c.args.self
    (at-allowed (layout_of c.args.layout.now) (affinity_of c.args.affinity) (trees.Volume c.volume_number-volume.result) at
    volume_parcels c.args.self (g.S.Shelf.allows c.args.shelf.now) c.requires.allowed))

pub scatter_at-requires-2-clause-node : goal.scatter_at-requires-2-clause-node
scatter_at-requires-2-clause-node g c =
    let at = is-volume (affinity_of c.args.affinity) c.volume_number-volume.result c.requires.kind c.volume_number-volume.ensures in
    at-node (layout_of c.args.layout.now) (affinity_of c.args.affinity) (trees.Volume c.volume_number-volume.result) at c.requires.node

pub scatter_at-requires-2-clause-kind : goal.scatter_at-requires-2-clause-kind
scatter_at-requires-2-clause-kind g c =
    refl

pub scatter_at-requires-2-clause-vacant : goal.scatter_at-requires-2-clause-vacant
scatter_at-requires-2-clause-vacant g c =
    let at = is-volume (affinity_of c.args.affinity) c.volume_number-volume.result c.requires.kind c.volume_number-volume.ensures in
    vbn-to (layout_of c.args.layout.now) (IsVacant (layout_of c.args.layout.now) (g.S.Shelf.at c.scatter_at.new.shelf)) c.volume_number-volume.result
    (vbn-after-logical (layout_of c.args.layout.now) (IsVacant (layout_of c.args.layout.now)) (vacant_kept (layout_of c.args.layout.now))
    (g.S.Shelf.at c.put_parcel.new.shelf) (g.S.Shelf.at c.scatter_at.new.shelf) c.volume_number-volume.result
    (λ k out. sym (moved-same (g.S.Shelf.at c.scatter_at.new.shelf k)
    (logical_parcels (layout_of c.args.layout.now) (trees.Logical c.volume_number-volume.result) c.args.self.logical k)
    (g.S.Shelf.at c.put_parcel.new.shelf k) (logical-none (layout_of c.args.layout.now) k c.volume_number-volume.result c.args.self.logical out)
    (c.scatter_at.ensures.moved k)))
    (vbn-after (layout_of c.args.layout.now) (IsVacant (layout_of c.args.layout.now)) (vacant_kept (layout_of c.args.layout.now))
    (g.S.Shelf.at c.args.shelf.now) (g.S.Shelf.at c.put_parcel.new.shelf) c.volume_number-volume.result
    (given-others (g.S.Shelf.at c.args.shelf.now) (g.S.Shelf.at c.put_parcel.new.shelf)
    (number_of (layout_of c.args.layout.now) (trees.Volume c.volume_number-volume.result)) (parcels.Volume c.args.self.own) c.put_parcel.ensures.moved)
    (volume-from (layout_of c.args.layout.now) (IsVacant (layout_of c.args.layout.now) (g.S.Shelf.at c.args.shelf.now)) c.volume_number-volume.result
    (at-node (layout_of c.args.layout.now) (affinity_of c.args.affinity) (trees.Volume c.volume_number-volume.result) at
    c.requires.node) (at-under (layout_of c.args.layout.now) (affinity_of c.args.affinity) (trees.Volume c.volume_number-volume.result)
    at (IsVacant (layout_of c.args.layout.now) (g.S.Shelf.at c.args.shelf.now)) c.requires.vacant)).vbn))

pub scatter_at-requires-2-clause-allowed : goal.scatter_at-requires-2-clause-allowed
scatter_at-requires-2-clause-allowed g c =
    let at = is-volume (affinity_of c.args.affinity) c.volume_number-volume.result c.requires.kind c.volume_number-volume.ensures in
    allowed-over (vbn_parcels (layout_of c.args.layout.now) (trees.Vbn c.volume_number-volume.result) c.args.self.vbn) (g.S.Shelf.allows c.args.shelf.now)
    (g.S.Shelf.allows c.scatter_at.new.shelf)
    (λ k x h. g.met.S.Shelf.keeps_allowing c.put_parcel.new.shelf c.scatter_at.new.shelf k x c.scatter_at.ensures.kept
    (g.met.S.Shelf.keeps_allowing c.args.shelf.now c.put_parcel.new.shelf k x c.put_parcel.ensures.kept h))
    (vbn_allowed (layout_of c.args.layout.now) (g.S.Shelf.allows c.args.shelf.now) c.volume_number-volume.result c.args.self
    (at-allowed (layout_of c.args.layout.now) (affinity_of c.args.affinity) (trees.Volume c.volume_number-volume.result) at
    volume_parcels c.args.self (g.S.Shelf.allows c.args.shelf.now) c.requires.allowed))

pub returns-clause-moved : goal.returns-clause-moved
returns-clause-moved g c =
    let at = is-volume (affinity_of c.args.affinity) c.volume_number-volume.result c.requires.kind c.volume_number-volume.ensures in
    at-taken (layout_of c.args.layout.now) (affinity_of c.args.affinity) (trees.Volume c.volume_number-volume.result) at
    volume_parcels c.args.self (g.S.Shelf.at c.scatter_at-2.new.shelf) (g.S.Shelf.at c.args.shelf.now)
    (volume-scattered (layout_of c.args.layout.now) c.volume_number-volume.result
    (at-node (layout_of c.args.layout.now) (affinity_of c.args.affinity) (trees.Volume c.volume_number-volume.result) at
    c.requires.node) c.args.self (g.S.Shelf.at c.args.shelf.now) (g.S.Shelf.at c.put_parcel.new.shelf) (g.S.Shelf.at c.scatter_at.new.shelf)
    (g.S.Shelf.at c.scatter_at-2.new.shelf) c.put_parcel.ensures.moved c.scatter_at.ensures.moved c.scatter_at-2.ensures.moved)

pub returns-clause-kept : goal.returns-clause-kept
returns-clause-kept g c =
    g.met.S.Shelf.keeps_on c.args.shelf.now c.put_parcel.new.shelf c.scatter_at-2.new.shelf c.put_parcel.ensures.kept
    (g.met.S.Shelf.keeps_on c.put_parcel.new.shelf c.scatter_at.new.shelf c.scatter_at-2.new.shelf c.scatter_at.ensures.kept c.scatter_at-2.ensures.kept)
