-- The queue of a lane, of which the lane has both passes: its own, and its worker's.
use Rattle.std.specs.Prelude.{◌≡◌, ℕ, ◌+◌, length, Option, Some, None}
use Rattle.affinity.specs.declared.layout.Layout as layouts
use Rattle.depot_rule.specs.Sums.{total}
use Rattle.granted_calls.specs.Messages.{Message}
use Rattle.granted_calls.specs.declared.shared_waiting.pass.Pass.{Pass}
use Rattle.turns.specs.declared.worker.Worker.{Worker}
use Rattle.granted_calls.specs.shared_waiting.Balance.{IsWhole, both}
use Rattle.granted_calls.specs.shared_waiting.Passes.{known}
use Rattle.turns.specs.Tends.{kept_in}
use Rattle.turns.specs.Words.{passed}

-- both passes of a queue, which nobody else has
abbrev pub HasBoth : Pass Message layouts.Layout → Worker → Type 0
HasBoth pass worker = IsWhole (both (known pass) (passed worker)) × ((known pass).key ≡ (passed worker).key)

-- what was put into the queue by these was picked, each message as often
abbrev pub HasNoneLeft : Pass Message layouts.Layout → Worker → Type 0
HasNoneLeft pass worker = (weigh : Message → ℕ)
    → total weigh (both (known pass) (passed worker)).put ≡ total weigh (both (known pass) (passed worker)).picked

-- how many messages a worker keeps
abbrev pub count_kept : Option Message → ℕ
count_kept None = 0
count_kept (Some m) = 1

-- This many messages wait, in the queue or kept by the worker: what was put by these and isn't picked, and what is kept.
abbrev pub IsCounted : Pass Message layouts.Layout → Worker → ℕ → Type 0
IsCounted pass worker waiting =
    (length (known pass).put + length (passed worker).put) + count_kept (kept_in worker)
    ≡ (length (known pass).picked + length (passed worker).picked) + waiting
