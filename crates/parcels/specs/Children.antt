-- The nodes below a node whose set has slots for theirs. Only functions within the crate speak of them.
use Rattle.std.specs.Prelude.{◌≡◌, ℕ, ◌<◌, ◌==◌, Bool, true, List, Option, None, length, if◌then◌else◌}
use Rattle.nfs_model.specs.Tree.{Layout, Affinity, Serial, Aggregate, Volume, Logical, Stripe, Vbn, Range, stripes_of, aggregate_of}
use Rattle.parcels.specs.Slots.{in_slot, in_places}

-- the node of a slot; a node without slots has itself there
abbrev pub child : Affinity → ℕ → Affinity
child Serial i = Aggregate i
child (Aggregate a) i = Volume i
child (Volume v) i = Volume v
child (Logical v) i = Stripe v i
child (Stripe v j) i = Stripe v j
child (Vbn v) i = Range v i
child (Range v r) i = Range v r

-- how many slots a node's set has
abbrev pub most_children : Affinity → ℕ
most_children Serial = 2
most_children (Aggregate a) = 8
most_children (Volume v) = 0
most_children (Logical v) = 16
most_children (Stripe v j) = 0
most_children (Vbn v) = 16
most_children (Range v r) = 0

-- how many of them are for nodes of the layout
abbrev pub children : Layout → Affinity → ℕ
children layout Serial = length layout.spare
children layout (Aggregate a) = length layout.volumes
children layout (Volume v) = 0
children layout (Logical v) = stripes_of layout v
children layout (Stripe v j) = 0
children layout (Vbn v) = 16
children layout (Range v r) = 0

-- whether a slot is in use: an aggregate has those volumes that the layout puts on it
abbrev pub has_child : Layout → Affinity → ℕ → Bool
has_child layout Serial i = true
has_child layout (Aggregate a) i = aggregate_of layout i == a
has_child layout (Volume v) i = true
has_child layout (Logical v) i = true
has_child layout (Stripe v j) i = true
has_child layout (Vbn v) i = true
has_child layout (Range v r) i = true

-- a fact of the node of each slot that is in use
abbrev pub EachChild : Layout → Affinity → (Affinity → Type 0) → Type 0
EachChild layout parent Q = (i : ℕ) → i < children layout parent → has_child layout parent i ≡ true → Q (child parent i)

module _ {H T : Type 0} (parcels : Layout → Affinity → H → ℕ → Option T) (layout : Layout) (parent : Affinity) where
  -- the parcels of the set in a slot, if the slot is in use
  abbrev pub child_parcels : ℕ → Option (Option H) → ℕ → Option T
  child_parcels i slot k = if has_child layout parent i then in_slot (λ held. parcels layout (child parent i) held k) slot else None

  -- the parcels of the sets in all slots that are in use
  abbrev pub children_parcels : List (Option H) → ℕ → Option T
  children_parcels slots k = in_places (λ i. has_child layout parent i) (λ i held. parcels layout (child parent i) held k) slots (children layout parent)
