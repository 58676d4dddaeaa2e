-- The kinds of parcels by node.
use Rattle.std.specs.Prelude.{◌≡◌, List, Option, Some, None, slice_index_or}
use Rattle.nfs_model.specs.Tree.{Layout, Affinity}
use Rattle.affinity.specs.declared.affinity.Kind.{Kind}
use Rattle.affinity.specs.Affinity.{kind_of}
use Rattle.affinity.specs.Numbers.{number_of}
use Rattle.affinity.specs.Tree.{IsNode}

-- each node's parcel at the start is of the node's kind
abbrev pub AreOfKind : {P : Type 0} → (P → Kind) → Layout → List (Option P) → Type 0
AreOfKind kind layout first = (node : Affinity) (parcel : _) → IsNode layout node → slice_index_or first (number_of layout node) None ≡ Some parcel
    → kind parcel ≡ kind_of node
