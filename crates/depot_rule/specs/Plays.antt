-- What each kind of step tells the seat that makes it.
use Rattle.std.specs.Prelude.{◌≡◌, ◌≢◌, ◌⊎◌, ℕ, ◌+◌, ◌<◌, ◌≤◌, List, [], ◌∷◌, ◌++◌, drop, length, slice_set, slice_index_or, Option, Some, None, IfSome}
use mathlib.Core.Option.{some}
use lib.ListN.{get_elem?}
use Rattle.atomic_table.specs.Table.{Me, Step, rest}
use Rattle.depot_rule.specs.declared.view.View.{View}
use Rattle.depot_rule.specs.declared.view.Read.{Read}
use Rattle.depot_rule.specs.declared.view.Entry.{Entry}
use Rattle.affinity.specs.Ancestors.{tally, ancestors, Covers, Excludes}
use Rattle.depot_rule.specs.Sums.{total, without}
use Rattle.depot_rule.specs.Shares.{exclusive, worn, too_many, made, shares, Has}
use Rattle.depot_rule.specs.Parcels.{has_out, IsParcel}
use Rattle.depot_rule.specs.Seats.{OnOne, longer, merge}
use Rattle.depot_rule.specs.History.{Behaviour, SoundThroughout, IsHistory, Legal, StartsWith, listed, after, chosen, entries_of}
use Rattle.affinity.specs.declared.affinity.Kind.{Kind}

-- a seat: its views, and the slots that are out with it
abbrev pub Place : Type 0 → Type 0 → Type 0
Place P E = Me (Option P) (List (View P E))

module _ {P E : Type 0} where
  -- what was found, added to the reads
  abbrev pub noted : Step (Option P) → ℕ → View P E → List Read
  noted st found v = record { word = st.word; value = found; shares = shares st.word v } ∷ v.reads

  -- a seat that has all parts is the only one, so that what it finds is its own
  abbrev pub IsOnly : View P E → Type 0
  IsOnly v = v.parts ≡ 64

  -- a step that moves no slot
  abbrev pub Goes : (View P E → List (View P E) → Type 0) → Place P E → Place P E → Type 0
  Goes Q me me' = OnOne (λ v. Q v me'.0) me.0 × (me'.1 ≡ me.1)

  -- fetch_add of 1: a share that counts, or, where the word was found exclusive, one that has to be left
  abbrev pub EnterSays : Step (Option P) → Place P E → ℕ → Place P E → Type 0
  EnterSays st me found me' = Goes (λ v vs.
      (found < exclusive → vs ≡ record v { path = st.word ∷ v.path; reads = noted st found v } ∷ [])
      × (exclusive ≤ found → (vs ≡ record v { unsure = st.word; reads = noted st found v } ∷ []) × (IsOnly v → (g : List (Option P)) × Has v st.word g))) me me'

  -- fetch_sub of 1, of the share that was found to be in vain
  abbrev pub BackOutSays : Step (Option P) → Place P E → ℕ → Place P E → Type 0
  BackOutSays st me found me' = Goes (λ v vs. vs ≡ record v { unsure = 0; reads = noted st found v } ∷ []) me me'

  -- fetch_sub of 1, of the share that was entered last
  abbrev pub LeaveSays : Step (Option P) → Place P E → ℕ → Place P E → Type 0
  LeaveSays st me found me' = Goes (λ v vs. vs ≡ record v { path = drop 1 v.path; reads = noted st found v } ∷ []) me me'

  -- fetch_sub of 2^32: the grant ends, which no other grant of the seat excluded, no grant is stamped any more, and its shares are to be left
  abbrev pub ReleaseSays : Step (Option P) → Place P E → ℕ → Place P E → Type 0
  ReleaseSays st me found me' = Goes (λ v vs. (vs ≡ record v {
    stamped = 0;
    path = ancestors v.tree st.word;
    held = slice_set v.held st.word None;
    reads = noted st found v;
  } ∷ [])
      × ((c : ℕ) (h : List (Option P)) → Has v c h → Excludes v.tree st.word c → c ≡ st.word)) me me'

  -- a load of the node's word, by which its slot goes out with what the grant lists
  abbrev pub FetchSays : Step (Option P) → Place P E → ℕ → Place P E → Type 0
  FetchSays st me found me' =
      OnOne (λ v. me'.0 ≡ record v { out = st.word; reads = noted st found v } ∷ []) me.0
      × OnOne (λ v. (b : ℕ) (g : List (Option P)) → Has v b g → Covers v.tree b st.word → me'.1 ≡ (st.word, slice_index_or g st.word None) ∷ me.1) me.0

  -- a load, by which the slot comes home empty
  abbrev pub EmptySays : Step (Option P) → Place P E → ℕ → Place P E → Type 0
  EmptySays st me found me' = OnOne (λ v. me'.0 ≡ record v { out = 0; gone = st.word ∷ v.gone; reads = noted st found v } ∷ []) me.0 × (me'.1 ≡ rest me.1)

  -- a load, by which the empty slot of a parcel that was taken once goes out
  abbrev pub ReachSays : Step (Option P) → Place P E → ℕ → Place P E → Type 0
  ReachSays st me found me' =
      OnOne (λ v. (me'.0 ≡ record v { out = st.word; gone = without st.word v.gone; reads = noted st found v } ∷ []) × (tally st.word v.gone ≡ 1)) me.0
      × (me'.1 ≡ (st.word, None) ∷ me.1)

  -- a load, by which the slot comes home with what the grant lists
  abbrev pub FillSays : Step (Option P) → Place P E → ℕ → Place P E → Type 0
  FillSays st me found me' = OnOne (λ v. me'.0 ≡ record v { out = 0; reads = noted st found v } ∷ []) me.0 × (me'.1 ≡ rest me.1)

  -- the number is that of the entries that the view made, and that of all entries that it has seen
  abbrev pub Counts : View P E → ℕ → Type 0
  Counts v n = (n ≡ made v) × (n ≡ length v.seen)

  -- a load of the ticket, in which no seat has shares: below 2^62 a call may begin. For the only seat it counts the
  -- entries that it made, which are all that it has seen
  abbrev pub LookSays : Step (Option P) → Place P E → ℕ → Place P E → Type 0
  LookSays st me found me' = Goes (λ v vs. (st.word ≡ 0)
      × (found < worn → vs ≡ record v { looked = 1; reads = record { word = 0; value = found; shares = 0 } ∷ v.reads } ∷ [])
      × (worn ≤ found → vs ≡ record v { reads = record { word = 0; value = found; shares = 0 } ∷ v.reads } ∷ [])
      × (IsOnly v → Counts v found)) me me'

  -- no grant of the one excludes a grant of the other
  abbrev pub AreApart : View P E → View P E → Type 0
  AreApart v w = (b c : ℕ) (g h : List (Option P)) → Has v b g → Has w c h → Excludes v.tree b c → ⊥

  -- what the one has seen began what the other has
  abbrev pub HaveSeenOne : View P E → View P E → Type 0
  HaveSeenOne v w = StartsWith w.seen v.seen ⊎ StartsWith v.seen w.seen

  -- the entries of each are the same in the longer history, and those of both together are the two's, however weighed
  abbrev pub KeepEntries : View P E → View P E → Type 0
  KeepEntries v w = (chosen (longer v.seen w.seen) v.mine ≡ entries_of v) × (chosen (longer v.seen w.seen) w.mine ≡ entries_of w)
      × ((weigh : E → ℕ) → total weigh (entries_of (merge v w)) ≡ total weigh (entries_of v) + total weigh (entries_of w))

  -- a load by which two seats that met are found to be of one tree and one history, with at most 64 parts, no grant of
  -- the one to exclude a grant of the other, and each to keep its entries
  abbrev pub AlikeSays : Step (Option P) → Place P E → ℕ → Place P E → Type 0
  AlikeSays st me found me' = (me' ≡ me) × ((v w : View P E) → me.0 ≡ v ∷ w ∷ [] → (v.tree ≡ w.tree) × (v.parts + w.parts ≤ 64) × AreApart v w
      × HaveSeenOne v w × KeepEntries v w)

  -- the view has seen what others put between, and its own entry e after that
  abbrev pub with_entry : View P E → List E → E → View P E
  with_entry v between e = record v { seen = (v.seen ++ between) ++ e ∷ []; mine = v.mine ++ length (v.seen ++ between) ∷ [] }

module _ {P C R B : Type 0} where
  -- compare_exchange of 0 by 2^32: where 0 was found there is a grant, with a parcel for each node that it covers, none
  -- of them taken, each as a sound history left it, and the shares entered are the grant's. For the only seat that
  -- history is what it has seen. The look is used up. Where another number was found nothing changes
  abbrev pub ClaimSays : (P → Kind) → Behaviour P C R B → Step (Option P) → Place P (Entry P C R) → ℕ → Place P (Entry P C R) → Type 0
  ClaimSays kind_of m st me found me' = Goes (λ v vs.
      (found ≡ 0 → (g : List (Option P))
      × (vs ≡ record v { looked = 0; path = []; held = slice_set v.held st.word (Some g); reads = noted st found v } ∷ [])
      × ((k : ℕ) → 0 < k → k < length v.tree → Covers v.tree st.word k → IsParcel kind_of v.first k (slice_index_or g k None))
      × ((c : ℕ) (h : List (Option P)) → Has v c h → Excludes v.tree st.word c → ⊥)
      × ((k : ℕ) → 0 < k → Covers v.tree st.word k → has_out k v ≡ 0)
      × (get_elem? v.held st.word ≡ some None)
      × ((log : List (Entry P C R)) × IsHistory m v.tree v.first v log × (length log < too_many) × (IsOnly v → log ≡ v.seen)
      × ((k : ℕ) → 0 < k → k < length v.tree → Covers v.tree st.word k → slice_index_or g k None ≡ after v.tree (listed v.first) log k)))
      × (found ≢ 0 → (vs ≡ record v { reads = noted st found v } ∷ []) × (IsOnly v → (c : ℕ) × (h : List (Option P)) × Has v c h
      × Excludes v.tree st.word c))) me me'

  -- the seat's history is what it had seen, what others put between, and e, fewer than 2^62 + 300,000 entries; it is
  -- legal, with the machine's invariant throughout, and the seat's own entries are those that it had, and e. For the
  -- only seat nothing is between
  abbrev pub HasAdded : Behaviour P C R B → View P (Entry P C R) → List (Entry P C R) → Entry P C R → Type 0
  HasAdded m v between e = Legal m.steps v.tree (listed v.first) (with_entry v between e).seen
      × SoundThroughout m v.tree (listed v.first) (with_entry v between e).seen
      × (entries_of (with_entry v between e) ≡ entries_of v ++ e ∷ [])
      × (IsOnly v → between ≡ [])
      × (length (with_entry v between e).seen < too_many)

  -- fetch_add of 1 on the ticket, for the entry e: the grant of its node lists from then on what the entry left, and
  -- the entry stands in the history after all that was seen and what others put between
  abbrev pub StampSays : Behaviour P C R B → Option (Entry P C R) → Step (Option P) → Place P (Entry P C R) → ℕ → Place P (Entry P C R) → Type 0
  StampSays m item st me found me' = IfSome item (λ e. OnOne (λ v. (between : List (Entry P C R))
      × (me'.0 ≡ record (with_entry v between e) {
        stamped = e.node;
        held = slice_set v.held e.node (Some e.left);
        reads = record { word = 0; value = found; shares = 0 } ∷ v.reads;
      } ∷ [])
      × HasAdded m v between e) me.0)
      × (me'.1 ≡ me.1)

  -- a load of the ticket, by which a grant that was stamped is granted anew: the right of a look is used up, and no grant
  -- is stamped any more. What the seat's grants list is as a sound history left it. For the only seat that history is what
  -- it has seen, and the ticket counts its entries
  abbrev pub RenewSays : Behaviour P C R B → Step (Option P) → Place P (Entry P C R) → ℕ → Place P (Entry P C R) → Type 0
  RenewSays m st me found me' = Goes (λ v vs.
      (vs ≡ record v { looked = 0; stamped = 0; reads = record { word = 0; value = found; shares = 0 } ∷ v.reads } ∷ [])
      × (IsOnly v → Counts v found)
      × ((log : List (Entry P C R)) × IsHistory m v.tree v.first v log × (length log < too_many) × (IsOnly v → log ≡ v.seen)
      × ((b k : ℕ) (g : List (Option P)) → Has v b g → 0 < k → k < length v.tree → Covers v.tree b k
      → slice_index_or g k None ≡ after v.tree (listed v.first) log k))) me me'
