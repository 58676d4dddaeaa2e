-- The words in which the clauses of the calls speak.
use Rattle.affinity.specs.declared.affinity.HasKind as kinds
use Rattle.parcels.specs.declared.node.Node as nodes
use Rattle.depot_rule.specs.declared.machine.Machine as machines
use Rattle.depot_rule.specs.History.{Behaviour}
use Rattle.depot.specs.Words.{served_by, layout_in, view}
use Rattle.desk.specs.laws.Books.{Books}
use Rattle.desk.specs.laws.Backing.{books_of, IsBook}
use Rattle.desk.specs.declared.desk.Desk.{Desk}
use Rattle.desk.specs.Slots.{all_granted, shown}

module _ {M K P C R B N1 N2 N3 N4 N5 H1 H2 H3 H4 H5 : Type 0} {G : machines.Ghosts M P C R B} {Q : kinds.Ghosts P}
    {G1 : nodes.Ghosts N1 P H1} {G2 : nodes.Ghosts N2 P H2} {G3 : nodes.Ghosts N3 P H3} {G4 : nodes.Ghosts N4 P H4} {G5 : nodes.Ghosts N5 P H5} where
  -- what is seen of a desk: the parcels at the start, the history, and what each worker was lent
  abbrev pub books : Desk M K P C R B N1 N2 N3 N4 N5 H1 H2 H3 H4 H5 G Q G1 G2 G3 G4 G5 → Books P C R
  books desk = books_of shown (layout_in desk.depot) (view desk.seat) (all_granted desk.slots.items)

  -- the machine whose calls it serves
  abbrev pub machine_in : Desk M K P C R B N1 N2 N3 N4 N5 H1 H2 H3 H4 H5 G Q G1 G2 G3 G4 G5 → Behaviour P C R B
  machine_in desk = served_by G

  -- the desk's seat backs its books. Each call asks it, and leaves it so
  abbrev pub IsKept : Desk M K P C R B N1 N2 N3 N4 N5 H1 H2 H3 H4 H5 G Q G1 G2 G3 G4 G5 → Type 0
  IsKept desk = IsBook Q.kind (books desk) (view desk.seat)
