-- What threads of workers come to, added up.
use Rattle.std.specs.Prelude.{◌≡◌, ◌≤◌, ℕ, ◌+◌, List}
use Rattle.std.specs.Arc.{arc_value}
use Rattle.std.specs.declared.thread.PromisedHandle.{PromisedHandle}
use Rattle.depot_rule.specs.Sums.{total}
use Rattle.tends.specs.Shares.{share_of}
use Rattle.workers.specs.declared.pool_worker.PoolWorker.{PoolWorker}
use Rattle.workers.specs.declared.task.Serves.{Serves}
use Rattle.granted_calls.specs.declared.shared.Filer.{Filer}
use Rattle.granted_calls.specs.declared.shared_outboxes.SharedOutboxes.{SharedOutboxes}
use Rattle.turns.specs.declared.worker.Worker.{Worker}
use Rattle.granted_calls.specs.SharedOutboxes.{OutboxesPass}
use Rattle.turns.specs.Words.{seats_in}
use Rattle.granted_calls.specs.shared_waiting.Balance.{part}
use Rattle.granted_calls.specs.shared_waiting.Passes.{known}

abbrev pub Thread : Type 0
Thread = PromisedHandle PoolWorker Serves

-- the thread runs a worker of this filer
abbrev pub ServesIn : Filer → Thread → Type 0
ServesIn filer thread = arc_value thread.promise.filer.value ≡ filer

-- it puts its answers into these outboxes
abbrev pub PutsInto : SharedOutboxes → Thread → Type 0
PutsInto outboxes thread = arc_value thread.promise.outboxes.value ≡ outboxes

-- the worker that the thread was started with
abbrev pub started_with : Thread → Worker
started_with thread = thread.promise.work.value.worker

-- its seats
abbrev pub seats_with : Thread → ℕ
seats_with thread = seats_in (started_with thread)

-- its share of the right to know the queue, counted in parts of 1 / 2^k
abbrev pub share_with : ℕ → Thread → ℕ
share_with k thread = share_of k (started_with thread)

-- its share of the right to know the outboxes
abbrev pub lent_share_with : ℕ → Thread → ℕ
lent_share_with k thread = part k (known thread.promise.work.value.pass)

-- a pass has all that another, and threads, had of the right to know the outboxes
abbrev pub HasLentBack : OutboxesPass → List Thread → OutboxesPass → Type 0
HasLentBack before threads after = (level : ℕ)
    × ((k : ℕ) → level ≤ k → part k (known after) ≡ part k (known before) + total (lent_share_with k) threads)
