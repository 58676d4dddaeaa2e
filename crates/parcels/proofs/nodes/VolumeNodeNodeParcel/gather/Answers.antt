use Rattle.std.proofs.Common.{refl}
use Rattle.nfs_model.specs.Tree as trees
use Rattle.affinity.specs.Affinity.{affinity_of}
use Rattle.affinity.specs.Layout.{layout_of}
use Rattle.affinity.specs.Numbers.{number_of}
use Rattle.parcels.specs.Exact.{HasParcel, kind_in}
use Rattle.parcels.specs.Sets.{logical_parcels, volume_parcels}
use Rattle.parcels.specs.lemmas.Around.{is-volume}
use Rattle.parcels.specs.declared.family.Parcel.TheVariants as parcels
use Rattle.parcels.proofs.OfKind.{has_kept}
use Rattle.parcels.proofs.Parts.{logical-none}
use Rattle.parcels.proofs.Moves.{moved-same, taken-others}
use Rattle.parcels.proofs.AtNode.{at-node, at-under, at-taken, at-exact}
use Rattle.parcels.proofs.Exactness.{volume-from, vbn-to, logical-to}
use Rattle.parcels.proofs.Steps.{logical-after, vbn-after, vbn-after-logical}
use Rattle.parcels.proofs.Levels.{volume-taken, volume-gathered}
use Rattle.parcels.proofs.nodes.VolumeNodeNodeParcel.gather.Goals as goal

pub take_own-own-requires-clause-node : goal.take_own-own-requires-clause-node
take_own-own-requires-clause-node g c =
    let at = is-volume (affinity_of c.args.affinity) c.volume_number-volume.result c.requires.kind c.volume_number-volume.ensures in
    at-node (layout_of c.args.layout.now) (affinity_of c.args.affinity) (trees.Volume c.volume_number-volume.result) at c.requires.node

pub take_own-own-requires-clause-kind : goal.take_own-own-requires-clause-kind
take_own-own-requires-clause-kind g c =
    refl

pub take_own-own-requires-clause-there : goal.take_own-own-requires-clause-there
take_own-own-requires-clause-there g c =
    let at = is-volume (affinity_of c.args.affinity) c.volume_number-volume.result c.requires.kind c.volume_number-volume.ensures in
    (volume-from (layout_of c.args.layout.now) (HasParcel (layout_of c.args.layout.now) (g.S.Shelf.at c.args.shelf.now)) c.volume_number-volume.result
    (at-node (layout_of c.args.layout.now) (affinity_of c.args.affinity) (trees.Volume c.volume_number-volume.result) at
    c.requires.node) (at-under (layout_of c.args.layout.now) (affinity_of c.args.affinity) (trees.Volume c.volume_number-volume.result)
    at (HasParcel (layout_of c.args.layout.now) (g.S.Shelf.at c.args.shelf.now)) c.requires.there)).own

pub gather_at-logical-requires-clause-node : goal.gather_at-logical-requires-clause-node
gather_at-logical-requires-clause-node g c =
    let at = is-volume (affinity_of c.args.affinity) c.volume_number-volume.result c.requires.kind c.volume_number-volume.ensures in
    at-node (layout_of c.args.layout.now) (affinity_of c.args.affinity) (trees.Volume c.volume_number-volume.result) at c.requires.node

pub gather_at-logical-requires-clause-kind : goal.gather_at-logical-requires-clause-kind
gather_at-logical-requires-clause-kind g c =
    refl

pub gather_at-logical-requires-clause-there : goal.gather_at-logical-requires-clause-there
gather_at-logical-requires-clause-there g c =
    let at = is-volume (affinity_of c.args.affinity) c.volume_number-volume.result c.requires.kind c.volume_number-volume.ensures in
    logical-to (layout_of c.args.layout.now) (HasParcel (layout_of c.args.layout.now) (g.S.Shelf.at c.take_own-own.new.shelf)) c.volume_number-volume.result
    (logical-after (layout_of c.args.layout.now) (HasParcel (layout_of c.args.layout.now)) (has_kept (layout_of c.args.layout.now))
    (g.S.Shelf.at c.args.shelf.now) (g.S.Shelf.at c.take_own-own.new.shelf) c.volume_number-volume.result
    (taken-others (g.S.Shelf.at c.args.shelf.now) (g.S.Shelf.at c.take_own-own.new.shelf)
    (number_of (layout_of c.args.layout.now) (trees.Volume c.volume_number-volume.result)) (parcels.Volume c.take_own-own.result)
    c.take_own-own.ensures.moved)
    (volume-from (layout_of c.args.layout.now) (HasParcel (layout_of c.args.layout.now) (g.S.Shelf.at c.args.shelf.now)) c.volume_number-volume.result
    (at-node (layout_of c.args.layout.now) (affinity_of c.args.affinity) (trees.Volume c.volume_number-volume.result) at
    c.requires.node) (at-under (layout_of c.args.layout.now) (affinity_of c.args.affinity) (trees.Volume c.volume_number-volume.result)
    at (HasParcel (layout_of c.args.layout.now) (g.S.Shelf.at c.args.shelf.now)) c.requires.there)).logical)

pub gather_at-vbn-requires-clause-node : goal.gather_at-vbn-requires-clause-node
gather_at-vbn-requires-clause-node g c =
    let at = is-volume (affinity_of c.args.affinity) c.volume_number-volume.result c.requires.kind c.volume_number-volume.ensures in
    at-node (layout_of c.args.layout.now) (affinity_of c.args.affinity) (trees.Volume c.volume_number-volume.result) at c.requires.node

pub gather_at-vbn-requires-clause-kind : goal.gather_at-vbn-requires-clause-kind
gather_at-vbn-requires-clause-kind g c =
    refl

pub gather_at-vbn-requires-clause-there : goal.gather_at-vbn-requires-clause-there
gather_at-vbn-requires-clause-there g c =
    let at = is-volume (affinity_of c.args.affinity) c.volume_number-volume.result c.requires.kind c.volume_number-volume.ensures in
    vbn-to (layout_of c.args.layout.now) (HasParcel (layout_of c.args.layout.now) (g.S.Shelf.at c.gather_at-logical.new.shelf)) c.volume_number-volume.result
    (vbn-after-logical (layout_of c.args.layout.now) (HasParcel (layout_of c.args.layout.now)) (has_kept (layout_of c.args.layout.now))
    (g.S.Shelf.at c.take_own-own.new.shelf) (g.S.Shelf.at c.gather_at-logical.new.shelf) c.volume_number-volume.result
    (λ k out. moved-same (g.S.Shelf.at c.take_own-own.new.shelf k)
    (logical_parcels (layout_of c.args.layout.now) (trees.Logical c.volume_number-volume.result) c.gather_at-logical.result k)
    (g.S.Shelf.at c.gather_at-logical.new.shelf k)
    (logical-none (layout_of c.args.layout.now) k c.volume_number-volume.result c.gather_at-logical.result out) (c.gather_at-logical.ensures.moved k))
    (vbn-after (layout_of c.args.layout.now) (HasParcel (layout_of c.args.layout.now)) (has_kept (layout_of c.args.layout.now))
    (g.S.Shelf.at c.args.shelf.now) (g.S.Shelf.at c.take_own-own.new.shelf) c.volume_number-volume.result
    (taken-others (g.S.Shelf.at c.args.shelf.now) (g.S.Shelf.at c.take_own-own.new.shelf)
    (number_of (layout_of c.args.layout.now) (trees.Volume c.volume_number-volume.result)) (parcels.Volume c.take_own-own.result)
    c.take_own-own.ensures.moved)
    (volume-from (layout_of c.args.layout.now) (HasParcel (layout_of c.args.layout.now) (g.S.Shelf.at c.args.shelf.now)) c.volume_number-volume.result
    (at-node (layout_of c.args.layout.now) (affinity_of c.args.affinity) (trees.Volume c.volume_number-volume.result) at
    c.requires.node) (at-under (layout_of c.args.layout.now) (affinity_of c.args.affinity) (trees.Volume c.volume_number-volume.result)
    at (HasParcel (layout_of c.args.layout.now) (g.S.Shelf.at c.args.shelf.now)) c.requires.there)).vbn))

pub returns-clause-exact : goal.returns-clause-exact
returns-clause-exact g c =
    let at = is-volume (affinity_of c.args.affinity) c.volume_number-volume.result c.requires.kind c.volume_number-volume.ensures in
    at-exact (layout_of c.args.layout.now) (affinity_of c.args.affinity) (trees.Volume c.volume_number-volume.result) at
    volume_parcels record { own = c.take_own-own.result; logical = c.gather_at-logical.result; vbn = c.gather_at-vbn.result } kind_in
    (volume-gathered (layout_of c.args.layout.now) c.volume_number-volume.result
    (at-node (layout_of c.args.layout.now) (affinity_of c.args.affinity) (trees.Volume c.volume_number-volume.result) at
    c.requires.node) record { own = c.take_own-own.result; logical = c.gather_at-logical.result; vbn = c.gather_at-vbn.result }
    (g.S.Shelf.at c.args.shelf.now) (g.S.Shelf.at c.take_own-own.new.shelf) (g.S.Shelf.at c.gather_at-logical.new.shelf)
    (g.S.Shelf.at c.gather_at-vbn.new.shelf) c.take_own-own.ensures.moved c.gather_at-logical.ensures.moved c.gather_at-vbn.ensures.moved
    c.gather_at-logical.ensures.gone c.gather_at-vbn.ensures.gone
    (at-under (layout_of c.args.layout.now) (affinity_of c.args.affinity) (trees.Volume c.volume_number-volume.result) at
    (HasParcel (layout_of c.args.layout.now) (g.S.Shelf.at c.args.shelf.now)) c.requires.there))

pub returns-clause-moved : goal.returns-clause-moved
returns-clause-moved g c =
    let at = is-volume (affinity_of c.args.affinity) c.volume_number-volume.result c.requires.kind c.volume_number-volume.ensures in
    at-taken (layout_of c.args.layout.now) (affinity_of c.args.affinity) (trees.Volume c.volume_number-volume.result) at
    volume_parcels record { own = c.take_own-own.result; logical = c.gather_at-logical.result; vbn = c.gather_at-vbn.result }
    (g.S.Shelf.at c.args.shelf.now) (g.S.Shelf.at c.gather_at-vbn.new.shelf)
    (volume-taken (layout_of c.args.layout.now) c.volume_number-volume.result
    (at-node (layout_of c.args.layout.now) (affinity_of c.args.affinity) (trees.Volume c.volume_number-volume.result) at
    c.requires.node) record { own = c.take_own-own.result; logical = c.gather_at-logical.result; vbn = c.gather_at-vbn.result }
    (g.S.Shelf.at c.args.shelf.now) (g.S.Shelf.at c.take_own-own.new.shelf) (g.S.Shelf.at c.gather_at-logical.new.shelf)
    (g.S.Shelf.at c.gather_at-vbn.new.shelf) c.take_own-own.ensures.moved c.gather_at-logical.ensures.moved c.gather_at-vbn.ensures.moved)

pub returns-clause-kept : goal.returns-clause-kept
returns-clause-kept g c =
    g.met.S.Shelf.keeps_on c.args.shelf.now c.take_own-own.new.shelf c.gather_at-vbn.new.shelf c.take_own-own.ensures.kept
    (g.met.S.Shelf.keeps_on c.take_own-own.new.shelf c.gather_at-logical.new.shelf c.gather_at-vbn.new.shelf c.gather_at-logical.ensures.kept
    c.gather_at-vbn.ensures.kept)
