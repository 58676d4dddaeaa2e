use Rattle.std.proofs.Common.{◌≡◌, ◌≤◌, ◌+◌, ℕ, All, vec_len, vec_capacity}
use Rattle.std.specs.Arc.{arc_value}
use Rattle.depot_rule.specs.Sums.{total}
use Rattle.workers.specs.Threads.{lent_share_with, started_with, PutsInto, ServesIn}
use Rattle.turns.specs.declared.worker.Worker.{Worker}
use Rattle.granted_calls.specs.SharedOutboxes.{IsOf}
use Rattle.turns.specs.Words.{IsIn}
use Rattle.granted_calls.specs.shared_waiting.Balance.{part}
use Rattle.granted_calls.specs.shared_waiting.Passes.{known}
use Rattle.workers.proofs.starting.start_all.Given as goal

abbrev pub invariant-loop-worker : goal.invariant-loop-worker
invariant-loop-worker g l = record {
  inside : All (IsIn (arc_value l.commons.filer)) l.workers.items;
  of : IsOf (arc_value l.commons.outboxes) l.pass;
  serve : All (ServesIn (arc_value l.commons.filer)) l.threads.items;
  put : All (PutsInto (arc_value l.commons.outboxes)) l.threads.items;
  room : vec_len l.threads + vec_len l.workers ≤ vec_capacity l.threads;
  len : vec_len l.threads + vec_len l.workers ≡ vec_len l.fn.threads + vec_len l.fn.workers;
  back : vec_capacity l.workers ≡ vec_capacity l.fn.workers;
  each : (f : Worker → ℕ) → total (λ t. f (started_with t)) l.threads.items + total f l.workers.items
      ≡ total (λ t. f (started_with t)) l.fn.threads.items + total f l.fn.workers.items;
  halvings : (known l.pass).halvings + vec_len l.workers ≡ (known l.fn.pass).halvings + vec_len l.fn.workers;
  lent : (k : ℕ) → (known l.pass).halvings ≤ k → part k (known l.pass) + total (lent_share_with k) l.threads.items
      ≡ part k (known l.fn.pass) + total (lent_share_with k) l.fn.threads.items;
}

abbrev pub decreases-loop-worker : goal.decreases-loop-worker
decreases-loop-worker g l = l.workers.len
