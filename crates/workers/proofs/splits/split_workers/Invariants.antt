use Rattle.std.proofs.Common.{◌≡◌, ◌≤◌, ◌+◌, ℕ, All, vec_len, vec_capacity}
use Rattle.depot_rule.specs.Sums.{total}
use Rattle.turns.specs.Words.{passed, seats_in, IsIn}
use Rattle.tends.specs.Shares.{entries_by, picks_by, puts_by, share_of}
use Rattle.granted_calls.specs.Balance.{FilerEntry}
use Rattle.granted_calls.specs.Messages.{Message}
use Rattle.workers.proofs.splits.split_workers.Given as goal

abbrev pub invariant-loop : goal.invariant-loop
invariant-loop l = record {
  inside : IsIn l.filer l.worker;
  each : All (IsIn l.filer) l.into.items;
  len : vec_len l.into + 1 ≡ l.counter;
  room : vec_capacity l.into ≡ vec_capacity l.fn.into;
  seats : seats_in l.worker + total seats_in l.into.items ≡ seats_in l.fn.worker;
  left : seats_in l.worker + vec_len l.into ≡ seats_in l.fn.worker;
  halvings : (passed l.worker).halvings ≡ (passed l.fn.worker).halvings + vec_len l.into;
  share : (k : ℕ) → (passed l.fn.worker).halvings + vec_len l.into ≤ k
      → share_of k l.worker + total (share_of k) l.into.items ≡ share_of k l.fn.worker;
  entries : (weigh : FilerEntry → ℕ) → entries_by weigh l.worker + total (entries_by weigh) l.into.items ≡ entries_by weigh l.fn.worker;
  put : (weigh : Message → ℕ) → puts_by weigh l.worker + total (puts_by weigh) l.into.items ≡ puts_by weigh l.fn.worker;
  picked : (weigh : Message → ℕ) → picks_by weigh l.worker + total (picks_by weigh) l.into.items ≡ picks_by weigh l.fn.worker;
}
