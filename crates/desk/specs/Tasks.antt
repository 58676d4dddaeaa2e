-- What a task finds and leaves in the set of a node, alike for each kind of node.
use Rattle.std.specs.Prelude.{ℕ, Option}
use Rattle.nfs_model.specs.Tree as trees
use Rattle.affinity.specs.declared.affinity.Affinity.{Affinity}
use Rattle.affinity.specs.declared.affinity.Kind.{Kind}
use Rattle.affinity.specs.declared.layout.Layout.{Layout}
use Rattle.affinity.specs.Affinity.{affinity_of}
use Rattle.affinity.specs.Layout.{layout_of}
use Rattle.parcels.specs.Exact.{HasExactly}
use Rattle.desk.specs.laws.Calls.{Asks, DoesTask}

-- the parcels of a set by the numbers of their nodes, as a kind of node tells them
abbrev pub ParcelsOf : Type 0 → Type 0 → Type 0
ParcelsOf T H = trees.Layout → trees.Affinity → H → ℕ → Option T

-- the set has exactly the parcels of the node and of those below it
abbrev pub HasAll : {T H : Type 0} → (T → Kind) → ParcelsOf T H → Layout → Affinity → H → Type 0
HasAll kind parcels layout affinity held =
    HasExactly kind (layout_of layout) (affinity_of affinity) (parcels (layout_of layout) (affinity_of affinity) held)

-- a task finds in the set what it asks for
abbrev pub Finds : {T H : Type 0} → Asks T → ParcelsOf T H → Layout → Affinity → H → Type 0
Finds asks parcels layout affinity held = asks (layout_of layout) (affinity_of affinity) (parcels (layout_of layout) (affinity_of affinity) held)

-- what comes of a task on the set, and the set after it, are as the task does it
abbrev pub Leaves : {T H O : Type 0} → DoesTask T O → ParcelsOf T H → Layout → Affinity → H → O → H → Type 0
Leaves does parcels layout affinity old outcome new =
    does (layout_of layout) (affinity_of affinity) (parcels (layout_of layout) (affinity_of affinity) old) outcome
    (parcels (layout_of layout) (affinity_of affinity) new)
