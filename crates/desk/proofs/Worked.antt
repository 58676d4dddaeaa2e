-- A node's set, where a task finds it and where it leaves it.
use Rattle.std.proofs.Common.{◌≡◌, ℕ, Option, refl, sym, subst}
use Rattle.nfs_model.specs.Tree as trees
use Rattle.affinity.specs.declared.affinity.HasKind as kinds
use Rattle.affinity.specs.declared.affinity.Affinity.{Affinity}
use Rattle.affinity.specs.Affinity.{affinity_of}
use Rattle.parcels.specs.declared.node.Node as nodes
use Rattle.parcels.specs.Exact.{HasExactly}
use Rattle.depot.specs.Words.{node_of, held_in}
use Rattle.desk.specs.laws.Books.{Lent}
use Rattle.desk.specs.laws.Backing.{IsDone}
use Rattle.desk.specs.laws.Calls.{DoesTask}
use Rattle.desk.specs.declared.grant.NodeGrant.{NodeGrant}
use Rattle.desk.specs.Any.{node_lent}

module _ {T N H : Type 0} {Q : kinds.Ghosts T} {G : nodes.Ghosts N T H} (L : trees.Layout) (g : NodeGrant T N H Q G) (a : Affinity)
    (same : a ≡ node_of g.grant) where
  -- what holds of what is lent holds of what the task is given
  pub as-given : (F : trees.Affinity → (ℕ → Option T) → Type 0) (l : Lent T) (held : H) → l ≡ node_lent L g → held ≡ held_in g.grant
      → F l.affinity l.parcels → F (affinity_of a) (G.parcels L (affinity_of a) held)
  as-given F l held is value given =
      subst (λ x. F (affinity_of x) (G.parcels L (affinity_of x) held)) (sym same)
      (subst (λ h. F (affinity_of (node_of g.grant)) (G.parcels L (affinity_of (node_of g.grant)) h)) (sym value)
      (subst (λ k. F k.affinity k.parcels) is given))

  -- what the task leaves is whole
  pub as-left : (held : H) → HasExactly Q.kind L (affinity_of a) (G.parcels L (affinity_of a) held)
      → HasExactly Q.kind L (affinity_of (node_of g.grant)) (G.parcels L (affinity_of (node_of g.grant)) held)
  as-left held exact = subst (λ x. HasExactly Q.kind L (affinity_of x) (G.parcels L (affinity_of x) held)) same exact

  -- what the task did, it did to what is lent
  pub as-done : {O : Type 0} (does : DoesTask T O) (l : Lent T) (before after : H) (outcome : O) → l ≡ node_lent L g → before ≡ held_in g.grant
      → does L (affinity_of a) (G.parcels L (affinity_of a) before) outcome (G.parcels L (affinity_of a) after)
      → IsDone does L l outcome (record { affinity = affinity_of (node_of g.grant); parcels = G.parcels L (affinity_of (node_of g.grant)) after })
  as-done does l before after outcome is value did =
      subst (λ k. IsDone does L k outcome
      (record { affinity = affinity_of (node_of g.grant); parcels = G.parcels L (affinity_of (node_of g.grant)) after })) (sym is) (record {
        affinity = refl;
        did = subst (λ h. does L (affinity_of (node_of g.grant)) (G.parcels L (affinity_of (node_of g.grant)) h) outcome
            (G.parcels L (affinity_of (node_of g.grant)) after)) value
            (subst (λ x. does L (affinity_of x) (G.parcels L (affinity_of x) before) outcome (G.parcels L (affinity_of x) after)) same did);
      })
