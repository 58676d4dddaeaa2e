use Rattle.std.proofs.Common.{◌≡◌, ◌≤◌, ◌+◌, ℕ, All, vec_len, vec_capacity}
use Rattle.depot_rule.specs.Sums.{total}
use Rattle.tends.specs.Shares.{share_of}
use Rattle.workers.specs.Threads.{lent_share_with, seats_with, share_with, PutsInto, ServesIn}
use Rattle.granted_calls.specs.SharedOutboxes.{IsOf}
use Rattle.turns.specs.Words.{seats_in, IsIn}
use Rattle.granted_calls.specs.declared.shared.Filer.{Filer}
use Rattle.granted_calls.specs.shared_waiting.Balance.{part}
use Rattle.granted_calls.specs.shared_waiting.Passes.{known}
use Rattle.workers.proofs.collecting.collect.Given as goal

abbrev pub invariant-loop-thread : goal.invariant-loop-thread
invariant-loop-thread g l = record {
  room : vec_len l.workers + vec_len l.threads ≤ vec_capacity l.workers;
  of : IsOf l.outboxes l.pass;
  put : All (PutsInto l.outboxes) l.threads.items;
  inside : (filer : Filer) → All (ServesIn filer) l.fn.threads.items → All (IsIn filer) l.fn.workers.items
      → All (ServesIn filer) l.threads.items × All (IsIn filer) l.workers.items;
  len : vec_len l.workers + vec_len l.threads ≡ vec_len l.fn.workers + vec_len l.fn.threads;
  seats : total seats_in l.workers.items + total seats_with l.threads.items
      ≡ total seats_in l.fn.workers.items + total seats_with l.fn.threads.items;
  share : (k : ℕ) → total (share_of k) l.workers.items + total (share_with k) l.threads.items
      ≡ total (share_of k) l.fn.workers.items + total (share_with k) l.fn.threads.items;
  level : ℕ;
  lent : (k : ℕ) → level ≤ k → part k (known l.pass) + total (lent_share_with k) l.threads.items
      ≡ part k (known l.fn.pass) + total (lent_share_with k) l.fn.threads.items;
}

abbrev pub decreases-loop-thread : goal.decreases-loop-thread
decreases-loop-thread g l = l.threads.len
