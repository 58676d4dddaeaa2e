-- What a worker is made of.
use Rattle.std.specs.Prelude.{◌≡◌}
use Rattle.depot.specs.Words.{view, HasNoGrant}
use Rattle.depot_rule.specs.History.{entries_of, AreHands}
use Rattle.filer_state.specs.state.Jobs.{batches_in}
use Rattle.service.specs.Jobs.{job_takes, job_gives}
use Rattle.granted_calls.specs.shared_waiting.Passes.{known}
use Rattle.turns.specs.declared.parts.WorkerParts.{WorkerParts}
use Rattle.turns.specs.declared.worker.Worker.{Worker}
use Rattle.granted_calls.specs.Balance.{IsEven}

-- the parts are the worker's
pub record AreOf (w : Worker) (p : WorkerParts) : Type 0 where
  pub seat : p.seat ≡ w.seat
  pub pass : p.pass ≡ w.pass
  pub hand : p.hand ≡ w.hand
  pub kept : p.kept ≡ w.kept

-- what the pass picked is, as often, what the seat finished, what the pass put and what is kept; the batch in the hand is all that
-- the seat's calls took and didn't give; and the seat has no open grant
pub record IsSettled (p : WorkerParts) : Type 0 where
  pub balance : IsEven (known p.pass) (entries_of (view p.seat)) p.kept
  pub in_hand : AreHands job_takes job_gives (entries_of (view p.seat)) (batches_in p.hand)
  pub none_open : HasNoGrant p.seat
