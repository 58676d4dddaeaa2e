-- What stays of a worker that another runs.
use Rattle.std.proofs.Common.{◌≡◌, ℕ, ◌-◌, ◌*◌, ◌^◌, ap, ◌∙◌}
use Rattle.workers.specs.Heirs.{IsHeir}
use Rattle.tends.specs.Shares.{share_of}
use Rattle.turns.specs.declared.worker.Worker.{Worker}
use Rattle.turns.specs.Words.{passed}

-- an heir has the share that was there before
pub same-share : (k : ℕ) (before after : Worker) → IsHeir before after → share_of k after ≡ share_of k before
same-share k before after heir =
    ap (λ n. n * 2 ^ (k - (passed after).halvings)) heir.0.0 ∙ ap (λ n. (passed before).share * 2 ^ (k - n)) heir.0.1
