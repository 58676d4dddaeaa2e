-- What workers of a filer have, and who puts messages for them: each a half of the right to know its queue.
use Rattle.std.specs.Prelude.{◌≡◌, ◌≤◌, ◌^◌, ◌*◌, ℕ, [], Some}
use Rattle.depot_rule.specs.Sums.{total}
use Rattle.tends.specs.Shares.{FilerPass}
use Rattle.workers.specs.Pools.{filer_of, threads_of}
use Rattle.workers.specs.Threads.{share_with}
use Rattle.workers.specs.declared.pool.Pool.{Pool}
use Rattle.granted_calls.specs.shared_waiting.Passes.{known, IsOf}
use Rattle.granted_calls.specs.Balance.{FilerView, Passed}
use Rattle.granted_calls.specs.Filers.{layout_in, layout_known, verifier_in, HasDoneNothing, IsReady}
use Rattle.turns.specs.Words.{passed, seats_in, IsIn}
use Rattle.granted_calls.specs.declared.shared.Filer.{Filer}
use Rattle.turns.specs.declared.worker.Worker.{Worker}

-- a pass of the filer's queue that has picked nothing
pub record IsReaderOf (filer : Filer) (pass : FilerPass) : Type 0 where
  pub of : IsOf filer.waiting pass
  pub layout : layout_known (known pass) ≡ Some (layout_in filer)
  pub picked : (known pass).picked ≡ []

-- one of so many equal parts of the right
abbrev pub IsPart : ℕ → Passed → Type 0
IsPart n v = n * v.share ≡ 2 ^ v.halvings

-- half of the right
abbrev pub IsHalf : Passed → Type 0
IsHalf v = IsPart 2 v

-- such a part before is one afterwards
abbrev pub StaysPart : ℕ → Passed → Passed → Type 0
StaysPart n v w = IsPart n v → IsPart n w

-- the pass afterwards is such a one too, with the share that it had
pub record HasPut (filer : Filer) (before after : FilerPass) : Type 0 where
  pub reader : IsReaderOf filer after
  pub half : StaysPart 2 (known before) (known after)
  pub quarter : StaysPart 4 (known before) (known after)

-- the worker afterwards is of the filer too, with the seats and the share that it had
pub record IsStill (filer : Filer) (before after : Worker) : Type 0 where
  pub inside : IsIn filer after
  pub seats : seats_in after ≡ seats_in before
  pub half : StaysPart 2 (passed before) (passed after)

-- a filer's only seat, which has this view and can be split so often, and a pass have done nothing yet; who puts messages has the rest
pub record IsUnstarted (filer : Filer) (v : FilerView) (splits : ℕ) (pass reader : FilerPass) : Type 0 where
  pub ready : IsReady (layout_in filer) (verifier_in filer) v
  pub nothing : HasDoneNothing v (known pass)
  pub only : splits ≡ 63
  pub of : IsOf filer.waiting pass
  pub layout : layout_known (known pass) ≡ Some (layout_in filer)
  pub half : IsHalf (known pass)
  pub one : IsReaderOf filer reader
  pub other : IsHalf (known reader)

-- the filer's only worker has all its seats; who puts messages has the rest
pub record IsAlone (filer : Filer) (worker : Worker) (reader : FilerPass) : Type 0 where
  pub inside : IsIn filer worker
  pub seats : seats_in worker ≡ 64
  pub half : IsHalf (passed worker)
  pub one : IsReaderOf filer reader
  pub other : IsHalf (known reader)

-- so have the workers of a pool
pub record IsRunning (filer : Filer) (pool : Pool) (reader : FilerPass) : Type 0 where
  pub same : filer_of pool ≡ filer
  pub level : ℕ
  pub half : (k : ℕ) → level ≤ k → 2 * total (share_with k) (threads_of pool) ≡ 2 ^ k
  pub one : IsReaderOf filer reader
  pub other : IsHalf (known reader)
