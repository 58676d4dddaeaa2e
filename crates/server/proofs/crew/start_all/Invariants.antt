use Rattle.std.proofs.Common.{◌≡◌, ◌≤◌, ◌+◌, ℕ, All, vec_len, vec_capacity}
use Rattle.depot_rule.specs.Sums.{total}
use Rattle.granted_calls.specs.declared.shared.Filer.{Filer}
use Rattle.lanes.specs.Words.{Identity}
use Rattle.server.specs.Threads.{identity_for, identity_with, seats_for, seats_with, IsTaskFor, ServesFor}
use Rattle.server.proofs.crew.start_all.Given as goal

abbrev pub invariant-loop-task : goal.invariant-loop-task
invariant-loop-task g l = record {
  room : vec_len l.threads + vec_len l.tasks ≤ vec_capacity l.threads;
  serve : (filer : Filer) → All (IsTaskFor filer) l.fn.tasks.items → All (ServesFor filer) l.fn.threads.items
      → All (IsTaskFor filer) l.tasks.items × All (ServesFor filer) l.threads.items;
  len : vec_len l.threads + vec_len l.tasks ≡ vec_len l.fn.threads + vec_len l.fn.tasks;
  seats : total seats_with l.threads.items + total seats_for l.tasks.items
      ≡ total seats_with l.fn.threads.items + total seats_for l.fn.tasks.items;
  each : (weigh : Identity → ℕ) → total (identity_with weigh) l.threads.items + total (identity_for weigh) l.tasks.items
      ≡ total (identity_with weigh) l.fn.threads.items + total (identity_for weigh) l.fn.tasks.items;
}

abbrev pub decreases-loop-task : goal.decreases-loop-task
decreases-loop-task g l = l.tasks.len
