-- What a grant of any kind of node lends.
use Rattle.nfs_model.specs.Tree.{Layout}
use Rattle.affinity.specs.declared.affinity.HasKind as kinds
use Rattle.affinity.specs.Affinity.{affinity_of}
use Rattle.parcels.specs.declared.node.Node as nodes
use Rattle.depot.specs.Words.{node_of, parcels_in}
use Rattle.desk.specs.laws.Books.{Lent}
use Rattle.desk.specs.declared.grant.NodeGrant.{NodeGrant}
use Rattle.desk.specs.declared.grant.SmallGrant.{SmallGrant}
use Rattle.desk.specs.declared.grant.SmallGrant.TheVariants.{Stripe, Logical, Volume}
use Rattle.desk.specs.declared.grant.LargeGrant.{LargeGrant}
use Rattle.desk.specs.declared.grant.LargeGrant.TheVariants.{Aggregate, Serial}

module _ {T N H : Type 0} {Q : kinds.Ghosts T} {G : nodes.Ghosts N T H} where
  -- what a grant of one kind of node lends
  abbrev pub node_lent : Layout → NodeGrant T N H Q G → Lent T
  node_lent layout g = record { affinity = affinity_of (node_of g.grant); parcels = parcels_in G.parcels layout g.grant }

module _ {T K N1 N2 N3 N4 N5 H1 H2 H3 H4 H5 : Type 0} {Q : kinds.Ghosts T} where
  module _ {G1 : nodes.Ghosts N1 T H1} {G2 : nodes.Ghosts N2 T H2} {G3 : nodes.Ghosts N3 T H3} where
    -- what a grant of a volume, or of a node below one, lends
    abbrev pub small_lent : SmallGrant T K N1 N2 N3 N4 N5 H1 H2 H3 H4 H5 Q G1 G2 G3 → Layout → Lent T
    small_lent (Stripe g) layout = node_lent layout g
    small_lent (Logical g) layout = node_lent layout g
    small_lent (Volume g) layout = node_lent layout g

  module _ {G4 : nodes.Ghosts N4 T H4} {G5 : nodes.Ghosts N5 T H5} where
    -- what a grant of a node with volumes below it lends
    abbrev pub large_lent : LargeGrant T K N1 N2 N3 N4 N5 H1 H2 H3 H4 H5 Q G4 G5 → Layout → Lent T
    large_lent (Aggregate g) layout = node_lent layout g
    large_lent (Serial g) layout = node_lent layout g
