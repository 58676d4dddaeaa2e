-- The words in which the clauses of the calls speak: of a depot, a seat, a grant and a refusal.
use Rattle.std.specs.Prelude.{◌≡◌, ℕ, ◌+◌, Option}
use Rattle.nfs_model.specs.Tree as trees
use Rattle.affinity.specs.declared.affinity.Affinity.{Affinity}
use Rattle.affinity.specs.declared.affinity.Kind.{Kind}
use Rattle.affinity.specs.Affinity.{affinity_of, kind_of}
use Rattle.affinity.specs.Layout.{layout_of}
use Rattle.affinity.specs.Numbers.{number_of, node_count, parents}
use Rattle.affinity.specs.Tree.{IsNode}
use Rattle.parcels.specs.Exact.{HasExactly}
use Rattle.depot_rule.specs.declared.machine.Machine as machines
use Rattle.affinity.specs.declared.affinity.HasKind as kinds
use Rattle.depot_rule.specs.declared.view.View.{View}
use Rattle.depot_rule.specs.declared.view.Entry.{Entry}
use Rattle.depot_rule.specs.Shares.{opening_view, Has}
use Rattle.depot_rule.specs.Seats.{longer, having_seen}
use Rattle.depot_rule.specs.History.{Behaviour, behaviour, by_number}
use Rattle.depot.specs.declared.depot.Depot.{Depot}
use Rattle.depot.specs.declared.seats.Seat.{Seat}
use Rattle.depot.specs.declared.grants.Grant.{Grant}
use Rattle.depot.specs.declared.grants.GrantRefusal.{GrantRefusal}
use Rattle.depot.specs.declared.grants.GrantRefusal.TheVariants.{Busy, Worn}
use Rattle.depot.specs.Calls.{known}
use Rattle.depot.specs.Grants.{IsSeatOf, entry_of}

-- the parcels of a set by the numbers of their nodes, as a kind of node has them
abbrev pub Listing : Type 0 → Type 0 → Type 0
Listing Held P = trees.Layout → trees.Affinity → Held → ℕ → Option P

-- ---- nodes

-- the affinity is a node of the layout, and of this kind
abbrev pub IsNodeOf : trees.Layout → Kind → Affinity → Type 0
IsNodeOf layout kind affinity = IsNode layout (affinity_of affinity) × (kind_of (affinity_of affinity) ≡ kind)

-- the number of a node
abbrev pub number_at : trees.Layout → Affinity → ℕ
number_at layout affinity = number_of layout (affinity_of affinity)

-- ---- a depot and its seats

-- what a machine's calls do
abbrev pub served_by : {M P C R B : Type 0} → machines.Ghosts M P C R B → Behaviour P C R B
served_by G = behaviour G.steps G.takes G.gives G.invariant

-- the layout that the depot was made of
abbrev pub layout_in : {M P C R B : Type 0} → Depot M P C R B → trees.Layout
layout_in depot = layout_of depot.layout

module _ {M P C R B : Type 0} {G : machines.Ghosts M P C R B} {K : kinds.Ghosts P} where
  -- what the depot of the seat serves
  abbrev pub machine_of : Seat M P C R B G K → Behaviour P C R B
  machine_of seat = served_by G

  -- what the seat knows
  abbrev pub view : Seat M P C R B G K → View P (Entry P C R)
  view seat = known seat.badge.views

  -- how many more seats can be split off from it. All seats of a depot have 64 less their number together, so a seat with 63 is the only one
  abbrev pub splits_left : Seat M P C R B G K → ℕ
  splits_left seat = seat.splits

  -- the seat is one of this depot's
  abbrev pub IsSeatHere : Depot M P C R B → Seat M P C R B G K → Type 0
  IsSeatHere depot seat = (seat.badge.table_id ≡ depot.table.shared.table_id) × IsSeatOf K.kind (layout_in depot) (view seat)

  -- of two seats that met, this one is as it was, and has seen the longer of the two's histories
  abbrev pub HasTold : Seat M P C R B G K → Seat M P C R B G K → Seat M P C R B G K → Seat M P C R B G K → Type 0
  HasTold one other old new = view new ≡ having_seen (longer (view one).seen (view other).seen) (view old)

  -- the seat has each grant that is in the view
  abbrev pub HasGrants : View P (Entry P C R) → Seat M P C R B G K → Type 0
  HasGrants v seat = (b : ℕ) (g : _) → Has v b g → Has (view seat) b g

  -- the seat has no grant
  abbrev pub HasNoGrant : Seat M P C R B G K → Type 0
  HasNoGrant seat = (b : ℕ) (g : _) → Has (view seat) b g → ⊥

-- ---- the parcels of a whole depot

-- the set of all parcels, by the numbers of their nodes
abbrev pub all_parcels : {Held P : Type 0} → Listing Held P → trees.Layout → Held → ℕ → Option P
all_parcels parcels layout held = parcels layout trees.Serial held

-- the first seat's view, where these are all parcels
abbrev pub first_view : {P E : Type 0} → trees.Layout → (ℕ → Option P) → View P E
first_view layout f = opening_view (parents layout) (by_number f (1 + node_count layout))

-- ---- a grant

module _ {T N Held : Type 0} where
  -- what was granted
  abbrev pub node_of : Grant T N Held → Affinity
  node_of grant = grant.affinity

  abbrev pub held_in : Grant T N Held → Held
  held_in grant = grant.held

  abbrev pub with_held : Grant T N Held → Held → Grant T N Held
  with_held grant held = record grant { held = held }

  -- the number of its node
  abbrev pub number_in : trees.Layout → Grant T N Held → ℕ
  number_in layout grant = number_at layout grant.affinity

  -- its parcels, by the numbers of their nodes
  abbrev pub parcels_in : {P : Type 0} → Listing Held P → trees.Layout → Grant T N Held → ℕ → Option P
  parcels_in parcels layout grant = parcels layout (affinity_of grant.affinity) grant.held

  -- it has just the parcels of its node and of all below it
  abbrev pub IsWhole : {P : Type 0} → (P → Kind) → Listing Held P → trees.Layout → Grant T N Held → Type 0
  IsWhole kind parcels layout grant = HasExactly kind layout (affinity_of grant.affinity) (parcels_in parcels layout grant)

  -- the entry of a call with this grant, which leaves its parcels as they are
  abbrev pub entry_with : {P C R : Type 0} → Listing Held P → trees.Layout → Grant T N Held → C → R → Entry P C R
  entry_with parcels layout grant call reply = entry_of layout (affinity_of grant.affinity) (parcels_in parcels layout grant) call reply

-- ---- a refusal

-- its number, as scripts print it
abbrev pub refusal_number : GrantRefusal → ℕ
refusal_number (Busy node word) = 21
refusal_number Worn = 22
