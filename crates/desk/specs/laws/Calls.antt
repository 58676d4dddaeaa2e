-- What calls do to a desk.
use Rattle.std.specs.Prelude.{◌≡◌, ◌≢◌, ℕ, ◌+◌, ◌<◌, ◌≤◌, false, List, [], ◌∷◌, ◌++◌, length, slice_set, Option, Some, None, Result, Ok, Err}
use Rattle.nfs_model.specs.Tree.{Layout, Affinity, excludes}
use Rattle.affinity.specs.Numbers.{number_of, parents}
use Rattle.affinity.specs.Tree.{IsNode}
use Rattle.depot_rule.specs.Sums.{total}
use Rattle.depot_rule.specs.Shares.{worn}
use Rattle.depot_rule.specs.History.{Behaviour, patched}
use Rattle.depot.specs.Grants.{entry_of}
use Rattle.desk.specs.laws.Books.{Lent, Books, settled, now, stamps, HasLent, IsTaken, UnderLent, IsUnchanged, IsSame, IsWorked, HasHands, IsSettled}

-- what a task needs of the layout, the affinity and its parcels
abbrev pub Asks : Type 0 → Type 1
Asks P = Layout → Affinity → (ℕ → Option P) → Type 0

-- what a task does: of the layout, the affinity, its parcels before, what comes of it, and its parcels after
abbrev pub DoesTask : Type 0 → Type 0 → Type 1
DoesTask P O = Layout → Affinity → (ℕ → Option P) → O → (ℕ → Option P) → Type 0

module _ {P C R : Type 0} where
  -- what a worker has is another thing
  abbrev pub with_lent : Books P C R → ℕ → Option (Lent P) → Books P C R
  with_lent b worker x = record b { lent = slice_set b.lent worker x }

  -- a worker was lent the parcels under an affinity, as the finished calls left them: nothing that was lent excluded it,
  -- and fewer than 2^62 calls were finished. The parcels are as they were
  pub record HasBegun (b : Books P C R) (worker : ℕ) (a : Affinity) (c : Books P C R) : Type 0 where
    pub free : IsTaken b a → ⊥
    pub low : stamps b < worn
    pub parcels : ℕ → Option P
    pub unchanged : IsUnchanged b (record { affinity = a; parcels = parcels })
    pub books : c ≡ with_lent b worker (Some (record { affinity = a; parcels = parcels }))
    pub same : IsSame b c

  -- a call can't begin: nothing that is lent excludes its affinity, but 2^62 calls were finished
  abbrev pub IsWorn : Books P C R → Affinity → Type 0
  IsWorn b a = (IsTaken b a → ⊥) × (worn ≤ stamps b)

  -- a worker's call may be put back: what it was lent is as it was lent
  pub record MayPutBack (b : Books P C R) (worker : ℕ) : Type 0 where
    pub lent : Lent P
    pub is_lent : HasLent b worker lent
    pub unchanged : IsUnchanged b lent

  -- what a worker was lent is home, and the parcels are as they were
  pub record HasPutBack (b : Books P C R) (worker : ℕ) (c : Books P C R) : Type 0 where
    pub books : c ≡ with_lent b worker None
    pub same : IsSame b c

  -- a worker was lent what a task needs
  pub record MayWork (asks : Asks P) (b : Books P C R) (worker : ℕ) : Type 0 where
    pub lent : Lent P
    pub is_lent : HasLent b worker lent
    pub fits : asks b.layout lent.affinity lent.parcels

  -- the parcels of a worker were changed, and no others
  pub record HasWorked {O : Type 0} (does : DoesTask P O) (b : Books P C R) (worker : ℕ) (outcome : O) (c : Books P C R) : Type 0 where
    pub lent : Lent P
    pub is_lent : HasLent b worker lent
    pub parcels : ℕ → Option P
    pub did : does b.layout lent.affinity lent.parcels outcome parcels
    pub books : c ≡ with_lent b worker (Some (record { affinity = lent.affinity; parcels = parcels }))
    pub now_is : (k : ℕ) → now c k ≡ patched (parents b.layout) (number_of b.layout lent.affinity) parcels (now b) k

  -- what is lent is under nodes of the layout that don't exclude each other
  pub record AreApart (b : Books P C R) : Type 0 where
    pub node : (worker : ℕ) (l : Lent P) → HasLent b worker l → IsNode b.layout l.affinity
    pub apart : (i j : ℕ) (l k : Lent P) → HasLent b i l → HasLent b j k → i ≢ j → excludes b.layout l.affinity k.affinity ≡ false

  module _ {B : Type 0} (m : Behaviour P C R B) where
    -- a worker's call may be finished: it leads to what the worker has, and what it gives is in a hand
    pub record MayFinish (b : Books P C R) (worker : ℕ) (call : C) (reply : R) : Type 0 where
      pub lent : Lent P
      pub is_lent : HasLent b worker lent
      pub worked : IsWorked m b lent call reply
      pub hands : List B
      pub next : List B
      pub are_hands : HasHands m b hands
      pub moves : (weigh : B → ℕ) → total weigh (m.gives call reply) + total weigh next ≡ total weigh (m.takes call reply) + total weigh hands

    -- a worker's call is in the history, with what the worker had, which is home. The parcels are as they were
    pub record HasFinished (b : Books P C R) (worker : ℕ) (call : C) (reply : R) (c : Books P C R) : Type 0 where
      pub lent : Lent P
      pub is_lent : HasLent b worker lent
      pub books : c ≡ record (with_lent b worker None) { entries = b.entries ++ entry_of b.layout lent.affinity lent.parcels call reply ∷ [] }
      pub same : IsSame b c
      -- under what the other workers have, nothing changed for the finished calls
      pub others : (i : ℕ) (l : Lent P) → HasLent b i l → i ≢ worker → UnderLent b l (λ k. settled c k ≡ settled b k)
      pub keeps : IsSettled m c

    module _ {A U : Type 0} (entered : A → R) where
      -- a worker's call may be ended by what came of its work: finished with what that replies, or else put back
      abbrev pub MayEnd : Books P C R → ℕ → C → Result A U → Type 0
      MayEnd b worker call (Ok reply) = MayFinish b worker call (entered reply)
      MayEnd b worker call (Err undone) = MayPutBack b worker

      -- so it was ended
      abbrev pub HasEnded : Books P C R → ℕ → C → Result A U → Books P C R → Type 0
      HasEnded b worker call (Ok reply) c = HasFinished b worker call (entered reply) c
      HasEnded b worker call (Err undone) c = HasPutBack b worker c

      -- a worker's call may be made at once: whatever it is lent, it may run on that, and be ended by what comes of its run
      abbrev pub MayMake : Asks P → DoesTask P (Result A U) → Books P C R → ℕ → Affinity → C → Type 0
      MayMake asks does b worker a call = (c : Books P C R) → HasBegun b worker a c → AreApart c
          → MayWork asks c worker × ((outcome : Result A U) (d : Books P C R) → HasWorked does c worker outcome d → MayEnd d worker call outcome)

      -- it began, ran and was ended
      pub record HasMade (does : DoesTask P (Result A U)) (b : Books P C R) (worker : ℕ) (a : Affinity) (call : C) (outcome : Result A U)
          (c : Books P C R) : Type 0 where
        pub begun : Books P C R
        pub begins : HasBegun b worker a begun
        pub apart : AreApart begun
        pub worked : Books P C R
        pub works : HasWorked does begun worker outcome worked
        pub ends : HasEnded worked worker call outcome c

  -- no worker was lent anything
  abbrev pub AreIdle : Books P C R → Type 0
  AreIdle b = (worker : ℕ) (l : Lent P) → HasLent b worker l → ⊥

  -- these are the parcels as the finished calls left them
  abbrev pub AreSettled : Books P C R → (ℕ → Option P) → Type 0
  AreSettled b f = (k : ℕ) → 0 < k → k < length (parents b.layout) → f k ≡ settled b k
