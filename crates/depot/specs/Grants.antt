-- What the calls on a depot do to a seat's view.
use Rattle.std.specs.Prelude.{◌≡◌, ℕ, ◌+◌, ◌<◌, ◌≤◌, nat_lt, List, [], ◌∷◌, ◌++◌, length, slice_set, slice_index_or, Option, Some, None}
use mathlib.Core.Option.{some}
use lib.ListN.{get_elem?}
use Rattle.nfs_model.specs.Tree.{Layout, Affinity}
use Rattle.affinity.specs.declared.affinity.Affinity as codes
use Rattle.affinity.specs.Affinity.{affinity_of}
use Rattle.affinity.specs.declared.affinity.Kind.{Kind}
use Rattle.affinity.specs.Numbers.{number_of, node_count, parents}
use Rattle.affinity.specs.Tree.{IsNode}
use Rattle.depot_rule.specs.declared.view.View.{View}
use Rattle.depot_rule.specs.declared.view.Read.{Read}
use Rattle.depot_rule.specs.declared.view.Entry.{Entry}
use Rattle.affinity.specs.Ancestors.{one_if, tally, Covers}
use Rattle.depot_rule.specs.Sums.{total}
use Rattle.depot_rule.specs.History.{Behaviour, by_number, Legal, SoundThroughout, IsHistory, AreHands, entries_of, listed, after}
use Rattle.depot_rule.specs.Shares.{worn, too_many, made, Has}
use Rattle.depot_rule.specs.Plays.{IsOnly, Counts, with_entry, HasAdded}
use Rattle.depot.specs.Kinds.{AreOfKind}
use Rattle.depot.specs.Calls.{IsAmong, IsRead, Refuses, IsExcluded}
use Rattle.depot.specs.declared.grants.GrantRefusal.{GrantRefusal}
use Rattle.depot.specs.declared.grants.GrantRefusal.TheVariants.{Busy, Worn}

-- the entry of a call on a node, with the parcels as it leaves them
abbrev pub entry_of : {P C R : Type 0} → Layout → Affinity → (ℕ → Option P) → C → R → Entry P C R
entry_of layout a f call reply = record { node = number_of layout a; call = call; reply = reply; left = by_number f (1 + node_count layout) }

-- the ticket was read as a number of which Q holds
abbrev pub HasLooked : (ℕ → Type 0) → List Read → Type 0
HasLooked Q more = (ticket : ℕ) × Q ticket × IsAmong (record { word = 0; value = ticket; shares = 0 }) more

module _ {P E : Type 0} where
  -- the ticket was read as a number below 2^62. For the only seat it is the number of its entries, which are all that it has seen
  abbrev pub IsLow : View P E → List Read → Type 0
  IsLow v more = HasLooked (λ ticket. (ticket < worn) × (IsOnly v → Counts v ticket)) more

  -- what is known of a seat of a depot of this layout: it has the layout's tree, and the parcels at the start were of their nodes' kinds
  abbrev pub IsSeatOf : (P → Kind) → Layout → View P E → Type 0
  IsSeatOf kind layout v = (v.tree ≡ parents layout) × AreOfKind kind layout v.first

  -- g lists what f has at each node that b covers
  abbrev pub ListsAs : View P E → ℕ → List (Option P) → (ℕ → Option P) → Type 0
  ListsAs v b g f = (k : ℕ) → 0 < k → k < length v.tree → Covers v.tree b k → slice_index_or g k None ≡ f k

  -- the seat has a grant of b, with the parcels f
  abbrev pub HasWith : View P E → ℕ → (ℕ → Option P) → Type 0
  HasWith v b f = (g : List (Option P)) × Has v b g × ListsAs v b g f

  -- a grant of b, with the parcels f, was added: no open grant of the seat's excluded b, and the ticket was low
  abbrev pub IsBegun : View P E → ℕ → (ℕ → Option P) → View P E → Type 0
  IsBegun v b f w = (g : List (Option P)) × (gone : List ℕ) × (more : List Read)
      × (w ≡ record v { looked = 0; held = slice_set v.held b (Some g); gone = gone; reads = more ++ v.reads })
      × ListsAs v b g f
      × (get_elem? v.held b ≡ some None)
      × (IsExcluded v b → ⊥)
      × IsLow v more

  -- the grant of b is no more
  abbrev pub IsEnded : View P E → ℕ → View P E → Type 0
  IsEnded v b w = (gone : List ℕ) × (more : List Read) × (w ≡ record v { stamped = 0; held = slice_set v.held b None; gone = gone; reads = more ++ v.reads })

  -- nothing but reads was added, and `looked` is this
  abbrev pub HasRead : View P E → ℕ → List Read → View P E → Type 0
  HasRead v looked more w = w ≡ record v { looked = looked; reads = more ++ v.reads }

  -- b was refused by the word of a node, which this call read: the seat then had no share in it but for its grants. The
  -- ticket was low. If it is the only seat, a grant of its own excludes b
  abbrev pub IsBusy : List ℕ → View P E → ℕ → ℕ → ℕ → View P E → Type 0
  IsBusy tree v b node word w = (more : List Read) × HasRead v 1 more w × IsRead v node word more × Refuses tree b node word × IsLow v more
      × (IsOnly v → IsExcluded v b)

  -- the ticket was read at 2^62 or more. If it is the only seat, it made as many entries, which are all that it has seen
  abbrev pub IsWorn : View P E → View P E → Type 0
  IsWorn v w = (more : List Read) × HasRead v v.looked more w × HasLooked (λ ticket. worn ≤ ticket) more
      × (IsOnly v → (worn ≤ made v) × (worn ≤ length v.seen))

  -- the ticket was read at 2^62 - 1 or more, so that after one entry more no call may begin, and nothing else was done. If
  -- it is the only seat, with one more it made as many entries, which are all that it has seen
  abbrev pub IsLast : View P E → View P E → Type 0
  IsLast v w = (looked : ℕ) × (more : List Read) × HasRead v looked more w × HasLooked (λ ticket. worn ≤ ticket + 1) more
      × (IsOnly v → (worn ≤ made v + 1) × (worn ≤ length v.seen + 1))

  -- a call on the node a was refused
  abbrev pub IsRefused : Layout → View P E → codes.Affinity → GrantRefusal → View P E → Type 0
  IsRefused layout v a (Busy node word) w = IsNode layout (affinity_of node) × IsBusy (parents layout) v (number_of layout (affinity_of a))
      (number_of layout (affinity_of node)) word w
  IsRefused layout v a Worn w = IsWorn v w

module _ {P C R B : Type 0} (m : Behaviour P C R B) where
  -- the parcels f of the nodes that b covers are as a history left them that begins with what the seat has seen, of
  -- fewer than 2^62 + 300,000 entries. For the only seat it is just what it has seen
  abbrev pub IsAfter : View P (Entry P C R) → ℕ → (ℕ → Option P) → Type 0
  IsAfter v b f = (log : List (Entry P C R)) × IsHistory m v.tree v.first v log × (length log < too_many) × (IsOnly v → log ≡ v.seen)
      × ((k : ℕ) → 0 < k → k < length v.tree → Covers v.tree b k → f k ≡ after v.tree (listed v.first) log k)

  -- the call is a step of the machine's, from the parcels of the seat's grant of b to g
  abbrev pub IsStep : View P (Entry P C R) → ℕ → C → R → (ℕ → Option P) → Type 0
  IsStep v b call reply g = (f : ℕ → Option P) × HasWith v b f × m.steps v.tree b call f reply g

  -- what the call gives was in the seat's hand, or is taken by it
  abbrev pub HasInHand : View P (Entry P C R) → C → R → Type 0
  HasInHand v call reply = (hand next : List B) × AreHands m.takes m.gives (entries_of v) hand
      × ((weigh : B → ℕ) → total weigh (m.gives call reply) + total weigh next ≡ total weigh (m.takes call reply) + total weigh hand)

  -- the entry e was stamped
  abbrev pub IsStamped : View P (Entry P C R) → Entry P C R → ℕ → List (View P (Entry P C R)) → Type 0
  IsStamped v e ticket vs = (between : List (Entry P C R))
      × (vs ≡ record (with_entry v between e) {
        stamped = e.node;
        held = slice_set v.held e.node (Some e.left);
        reads = record { word = 0; value = ticket; shares = 0 } ∷ v.reads;
      } ∷ [])
      × HasAdded m v between e

  -- the grant of b is no more, and the entry e stands in the history after all that was seen, and what others put between
  abbrev pub IsFinished : View P (Entry P C R) → ℕ → Entry P C R → View P (Entry P C R) → Type 0
  IsFinished v b e w = (gone : List ℕ) × (more : List Read) × (between : List (Entry P C R))
      × (w ≡ record (with_entry v between e) { stamped = 0; held = slice_set v.held b None; gone = gone; reads = more ++ v.reads })
      × HasAdded m v between e

  -- what the seat's grants list was granted anew, after a history that the ticket counts for the only seat
  abbrev pub IsRenewed : View P (Entry P C R) → ℕ → List (View P (Entry P C R)) → Type 0
  IsRenewed v ticket vs = (vs ≡ record v { looked = 0; stamped = 0; reads = record { word = 0; value = ticket; shares = 0 } ∷ v.reads } ∷ [])
      × (IsOnly v → Counts v ticket)
      × ((b : ℕ) (g : List (Option P)) → Has v b g → IsAfter v b (listed g))

  -- the call of the entry e was finished, and one on the same node was begun, with the parcels f as e left them
  abbrev pub HasGoneOn : View P (Entry P C R) → ℕ → (ℕ → Option P) → Entry P C R → View P (Entry P C R) → Type 0
  HasGoneOn v b f e w = (mid : View P (Entry P C R)) × IsFinished v b e mid × IsBegun mid b f w × IsAfter mid b f

  -- the history of the only seat, at the end: it is legal, with the invariant throughout; the seat's own hand is all
  -- hands; each entry is the seat's; and the parcels f are as it left them
  abbrev pub IsClosed : View P (Entry P C R) → (ℕ → Option P) → Type 0
  IsClosed v f = Legal m.steps v.tree (listed v.first) v.seen × SoundThroughout m v.tree (listed v.first) v.seen
      × ((hands : List B) × AreHands m.takes m.gives (entries_of v) hands × m.invariant v.tree (after v.tree (listed v.first) v.seen) hands (length v.seen))
      × ((p : ℕ) → tally p v.mine ≡ one_if (nat_lt p (length v.seen)))
      × ((k : ℕ) → 0 < k → k < length v.tree → f k ≡ after v.tree (listed v.first) v.seen k)
