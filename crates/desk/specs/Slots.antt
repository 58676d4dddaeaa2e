-- What lies in a worker's slot.
use Rattle.std.specs.Prelude.{List, map, Option, Some, None, option_map}
use Rattle.nfs_model.specs.Tree.{Layout}
use Rattle.affinity.specs.declared.affinity.HasKind as kinds
use Rattle.parcels.specs.declared.node.Node as nodes
use Rattle.desk.specs.laws.Books.{Lent}
use Rattle.desk.specs.laws.Backing.{Shows}
use Rattle.desk.specs.declared.slot.Slot.{Slot}
use Rattle.desk.specs.Any.{small_lent, large_lent}

-- the first of two, or else the second
abbrev pub either : {A : Type 0} → Option A → Option A → Option A
either (Some x) other = Some x
either None other = other

-- what is lent in a layout
abbrev pub shown : {P : Type 0} → Shows (Layout → Lent P) P
shown layout lends = lends layout

module _ {T K N1 N2 N3 N4 N5 H1 H2 H3 H4 H5 : Type 0} {Q : kinds.Ghosts T}
    {G1 : nodes.Ghosts N1 T H1} {G2 : nodes.Ghosts N2 T H2} {G3 : nodes.Ghosts N3 T H3} {G4 : nodes.Ghosts N4 T H4} {G5 : nodes.Ghosts N5 T H5} where
  -- what the grant in a slot lends, if there is one
  abbrev pub granted : Slot T K N1 N2 N3 N4 N5 H1 H2 H3 H4 H5 Q G1 G2 G3 G4 G5 → Option (Layout → Lent T)
  granted slot = either (option_map small_lent slot.small) (option_map large_lent slot.large)

  -- the same of each slot
  abbrev pub all_granted : List (Slot T K N1 N2 N3 N4 N5 H1 H2 H3 H4 H5 Q G1 G2 G3 G4 G5) → List (Option (Layout → Lent T))
  all_granted slots = map granted slots
