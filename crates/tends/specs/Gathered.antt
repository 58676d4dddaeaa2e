-- What all workers of a filer leave.
use Rattle.std.specs.Prelude.{◌≡◌, ℕ, ◌+◌}
use Rattle.depot.specs.Words.{view, splits_left, IsSeatHere, HasNoGrant}
use Rattle.depot_rule.specs.History.{entries_of, AreHands}
use Rattle.depot_rule.specs.Sums.{total}
use Rattle.turns.specs.Jobs.{job_takes, job_gives}
use Rattle.granted_calls.specs.shared_waiting.Passes.{IsOf}
use Rattle.tends.specs.declared.gathered.Gathered.{Gathered}
use Rattle.tends.specs.declared.left.Left.{Left}
use Rattle.granted_calls.specs.declared.shared.Filer.{Filer}
use Rattle.granted_calls.specs.Balance.{Weight, by_entry, by_key}
use Rattle.granted_calls.specs.Filers.{layout_in, verifier_in, HasOpened}

-- workers of this filer were put together
pub record IsGatheredIn (filer : Filer) (g : Gathered) : Type 0 where
  pub seat : IsSeatHere filer.depot g.seat
  pub opened : HasOpened (layout_in filer) (verifier_in filer) (view g.seat)
  pub pass : IsOf filer.waiting g.pass

-- all workers of this filer leave this: its only seat, which has no open grant, and as hands what its calls took and didn't give
pub record IsLeftOf (filer : Filer) (left : Left) : Type 0 where
  pub seat : IsSeatHere filer.depot left.seat
  pub opened : HasOpened (layout_in filer) (verifier_in filer) (view left.seat)
  pub only : splits_left left.seat ≡ 63
  pub none_open : HasNoGrant left.seat
  pub hands : AreHands job_takes job_gives (entries_of (view left.seat)) left.hands.items

-- as many messages, by a weight, as the seat finished, as were kept and as wait
abbrev pub calls_by : Weight → Left → ℕ
calls_by weight left =
    total (by_entry weight) (entries_of (view left.seat)) + (total (by_key weight) left.kept.items + total (by_key weight) left.waiting.items)
