-- What a pool has.
use Rattle.std.specs.Prelude.{◌≡◌, ◌≤◌, ◌+◌, ◌^◌, ℕ, List, length}
use Rattle.std.specs.Arc.{arc_value}
use Rattle.depot_rule.specs.Sums.{total}
use Rattle.workers.specs.declared.pool.Pool.{Pool}
use Rattle.tends.specs.Shares.{FilerPass, entries_by, picks_by, puts_by, share_in}
use Rattle.workers.specs.Threads.{Thread, lent_share_with, seats_with, share_with, started_with, HasLentBack}
use Rattle.granted_calls.specs.shared_waiting.Balance.{part}
use Rattle.granted_calls.specs.shared_waiting.Passes.{known}
use Rattle.granted_calls.specs.Balance.{FilerEntry}
use Rattle.granted_calls.specs.Messages.{Message}
use Rattle.granted_calls.specs.declared.shared.Filer.{Filer}
use Rattle.granted_calls.specs.declared.shared_outboxes.SharedOutboxes.{SharedOutboxes}
use Rattle.granted_calls.specs.SharedOutboxes.{OutboxesPass}

-- its threads
abbrev pub threads_of : Pool → List Thread
threads_of pool = pool.threads.items

-- the filer whose calls they run
abbrev pub filer_of : Pool → Filer
filer_of pool = arc_value pool.filer

-- the outboxes that they put their answers into
abbrev pub outboxes_of : Pool → SharedOutboxes
outboxes_of pool = arc_value pool.outboxes

-- Each of this many threads was started with a worker. Between them these had all the seats of one seat and all the share of one pass in
-- the right to know the queue, and what the seat had finished, and the pass had put and picked, each once: so their seats and passes
-- are this seat and this pass, or split from them, and none is left over.
pub record HasBetween (splits : ℕ) (finished : List FilerEntry) (pass : FilerPass) (many : ℕ) (pool : Pool) : Type 0 where
  pub count : length (threads_of pool) ≡ many
  pub seats : total seats_with (threads_of pool) ≡ splits + 1
  pub share : (k : ℕ) → (known pass).halvings + many ≤ k → total (share_with k) (threads_of pool) ≡ part k (known pass)
  pub entries : (weigh : FilerEntry → ℕ) → total (λ (t : Thread). entries_by weigh (started_with t)) (threads_of pool) ≡ total weigh finished
  pub put : (weigh : Message → ℕ) → total (λ (t : Thread). puts_by weigh (started_with t)) (threads_of pool) ≡ total weigh (known pass).put
  pub picked : (weigh : Message → ℕ) → total (λ (t : Thread). picks_by weigh (started_with t)) (threads_of pool) ≡ total weigh (known pass).picked

-- no pass is missing: the shares with which the workers were started, and those of these passes, are the whole
abbrev pub HasAllWith : Pool → List FilerPass → Type 0
HasAllWith pool passes = (level : ℕ)
    × ((k : ℕ) → level ≤ k → total (share_with k) (threads_of pool) + total (share_in k) passes ≡ 2 ^ k)

-- This many threads, and the pool, have between them all that one pass had of the right to know the outboxes.
abbrev pub HasLentBetween : OutboxesPass → ℕ → Pool → Type 0
HasLentBetween pass many pool = (k : ℕ) → (known pass).halvings + many ≤ k
    → part k (known pool.pass) + total (lent_share_with k) (threads_of pool) ≡ part k (known pass)

-- all that they have, in one pass
abbrev pub HasLentAllOf : Pool → OutboxesPass → Type 0
HasLentAllOf pool pass = HasLentBack pool.pass (threads_of pool) pass
