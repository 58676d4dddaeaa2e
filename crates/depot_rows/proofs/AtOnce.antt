-- Work that counts up, or isn't done, may be made at once; and what a worker has that changes nothing may be finished.
use Rattle.std.proofs.Common.{◌≡◌, ℕ, ◌+◌, List, [], Option, Result, Ok, Err, refl}
use Rattle.nfs_model.specs.Tree.{Affinity}
use Rattle.affinity.specs.Numbers.{number_of, parents}
use Rattle.parcels.specs.declared.family.Parcel.{Parcel}
use Rattle.depot_rule.specs.History.{Behaviour}
use Rattle.depot_rule.specs.Sums.{total}
use Rattle.depot.specs.declared.trial.adding.Change.{Change}
use Rattle.depot.specs.declared.trial.adding.Change.TheVariants.{Touch, Add}
use Rattle.depot.specs.trial.Adding.{Changes}
use Rattle.desk.specs.laws.Books.{Books, IsIdle, HasHands}
use Rattle.desk.specs.laws.Calls.{HasBegun, MayWork, HasWorked, MayFinish, MayPutBack, MayEnd, MayMake}
use Rattle.desk.specs.laws.lemmas.Beside.{begun-fresh, still-fresh, work-lent, work-done}
use Rattle.depot_rows.specs.Counting.{Counts}

module _ {P B : Type 0} (m : Behaviour (Parcel P ℕ ℕ ℕ ℕ ℕ ℕ ℕ) Change ℕ B)
    (steps : (ps : List ℕ) (n : ℕ) (call : Change) (f : ℕ → Option (Parcel P ℕ ℕ ℕ ℕ ℕ ℕ ℕ)) (reply : ℕ) (f' : ℕ → Option (Parcel P ℕ ℕ ℕ ℕ ℕ ℕ ℕ))
    → Changes ps n call f reply f' → m.steps ps n call f reply f')
    (no_hands : (d : Books (Parcel P ℕ ℕ ℕ ℕ ℕ ℕ ℕ) Change ℕ) → HasHands m d [])
    (moves : (call : Change) (reply : ℕ) (weigh : B → ℕ)
    → total weigh (m.gives call reply) + total weigh [] ≡ total weigh (m.takes call reply) + total weigh [])
    (b : Books (Parcel P ℕ ℕ ℕ ℕ ℕ ℕ ℕ) Change ℕ) (i : ℕ) where
  -- a call that changes nothing
  pub may-touch : MayPutBack b i → MayFinish m b i Touch 0
  may-touch fresh = record {
    lent = fresh.lent;
    is_lent = fresh.is_lent;
    worked = (
      fresh.lent.parcels,
      fresh.unchanged,
      steps (parents b.layout) (number_of b.layout fresh.lent.affinity) Touch fresh.lent.parcels 0 fresh.lent.parcels (refl, λ k. refl),
    );
    hands = [];
    next = [];
    are_hands = no_hands b;
    moves = moves Touch 0;
  }

  module _ (idle : IsIdle b i) (a : Affinity) where
    module _ (c : Books (Parcel P ℕ ℕ ℕ ℕ ℕ ℕ ℕ) Change ℕ) (begins : HasBegun b i a c) where
      fresh : MayPutBack c i
      fresh = begun-fresh b i a c idle begins

      may-work : MayWork (λ layout node f. Unit {0}) c i
      may-work = record { lent = fresh.lent; is_lent = fresh.is_lent; fits = tt }

    module _ {U : Type 0} where
      may-end : (c : Books (Parcel P ℕ ℕ ℕ ℕ ℕ ℕ ℕ) Change ℕ) → HasBegun b i a c → (outcome : Result ℕ U)
          (d : Books (Parcel P ℕ ℕ ℕ ℕ ℕ ℕ ℕ) Change ℕ) → HasWorked (Counts {U = U}) c i outcome d → MayEnd m (λ x. x) d i (Add 1) outcome
      may-end c begins (Ok sum) d works =
          let is_fresh = fresh c begins in
          record {
            lent = record { affinity = works.lent.affinity; parcels = works.parcels };
            is_lent = work-lent c i (Counts {U = U}) (Ok sum) d is_fresh works;
            worked = work-done c i (Counts {U = U}) (Ok sum) d is_fresh works m (Add 1) sum
                (steps (parents c.layout) (number_of c.layout works.lent.affinity) (Add 1) works.lent.parcels sum works.parcels works.did);
            hands = [];
            next = [];
            are_hands = no_hands d;
            moves = moves (Add 1) sum;
          }
      may-end c begins (Err undone) d works = still-fresh c i (Counts {U = U}) (Err undone) d (fresh c begins) works works.did

      pub may-count : MayMake m (λ x. x) (λ layout node f. Unit {0}) (Counts {U = U}) b i a (Add 1)
      may-count c begins apart = (may-work c begins, may-end c begins)
