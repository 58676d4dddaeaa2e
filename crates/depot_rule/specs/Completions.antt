-- Steps that are told by completions: whatever the other parcels are, a call does what it has to, and what has to hold holds after it.
use Rattle.std.specs.Prelude.{◌≡◌, ℕ, ◌+◌, List, Option, None}
use Rattle.nfs_model.specs.Tree.{Layout, Affinity}
use Rattle.affinity.specs.Fault.{fault_of}
use Rattle.affinity.specs.Tree.{IsNode}
use Rattle.affinity.specs.Numbers.{number_of, parents}
use Rattle.depot_rule.specs.Sums.{total}
use Rattle.affinity.specs.Ancestors.{Covers}
use Rattle.depot_rule.specs.History.{patched, Invariant}

-- what has to hold of all parcels, of the batches in all hands and of the count of entries. W is what a machine needs to know of its tree, such as a layout
abbrev pub Whole : Type 0 → Type 0 → Type 0 → Type 1
Whole W P B = W → (ℕ → Option P) → List B → ℕ → Type 0

-- what a call does to all parcels: of the tree, the call's node, the call, the parcels before, the reply and the parcels after
abbrev pub Deed : Type 0 → Type 0 → Type 0 → Type 0 → Type 1
Deed W P C R = W → ℕ → C → (ℕ → Option P) → R → (ℕ → Option P) → Type 0

module _ {W P C R B : Type 0} (HasTree : W → List ℕ → Type 0) (good : Whole W P B) (takes gives : C → R → List B) (deed : Deed W P C R) where
  -- in each tree with these parents, and whatever the parcels are that a doesn't cover: where all is as it has to be,
  -- with any hands, the call does its deed and all is so again, with the hands after it
  abbrev pub DoesRight : List ℕ → ℕ → C → (ℕ → Option P) → R → (ℕ → Option P) → Type 0
  DoesRight ps a call f reply f' = (tree : W) → HasTree tree ps
      → (g : ℕ → Option P) (hands hands' : List B) (n : ℕ)
      → ((k : ℕ) → Covers ps a k → g k ≡ f k)
      → good tree g hands n
      → ((weigh : B → ℕ) → total weigh (gives call reply) + total weigh hands' ≡ total weigh (takes call reply) + total weigh hands)
      → deed tree a call g reply (patched ps a f' g) × good tree (patched ps a f' g) hands' (n + 1)

  -- a call at a leaves the parcels that a doesn't cover, and does right
  pub record StepsRight (ps : List ℕ) (a : ℕ) (call : C) (f : ℕ → Option P) (reply : R) (f' : ℕ → Option P) : Type 0 where
    pub others : (k : ℕ) → (Covers ps a k → ⊥) → f' k ≡ f k
    pub right : DoesRight ps a call f reply f'

-- all is as it has to be, in some tree with these parents
abbrev pub IsGood : {W P B : Type 0} → (W → List ℕ → Type 0) → Whole W P B → Invariant P B
IsGood HasTree good ps f hands n = (tree : _) × HasTree tree ps × good tree f hands n

-- ---- where the tree is a layout's

-- a lawful layout with these parents
abbrev pub IsLayoutOf : Layout → List ℕ → Type 0
IsLayoutOf layout ps = (fault_of layout ≡ None) × (parents layout ≡ ps)

-- a deed told by the call's node, in place of the node's number
abbrev pub at_node : {P C R : Type 0} → (Layout → Affinity → C → (ℕ → Option P) → R → (ℕ → Option P) → Type 0) → Deed Layout P C R
at_node deed layout a call f reply f' = (node : Affinity) → IsNode layout node → number_of layout node ≡ a → deed layout node call f reply f'
