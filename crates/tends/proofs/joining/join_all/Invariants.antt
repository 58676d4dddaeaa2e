use Rattle.std.proofs.Common.{◌≡◌, ◌≤◌, ◌+◌, ℕ, List, All, vec_len, vec_capacity}
use Rattle.nfs_model.specs.Parts.{Hand}
use Rattle.depot.specs.Words.{splits_left}
use Rattle.depot_rule.specs.Sums.{total}
use Rattle.granted_calls.specs.shared_waiting.Passes.{known}
use Rattle.granted_calls.specs.Balance.{Weight, by_key}
use Rattle.turns.specs.Words.{seats_in, IsIn}
use Rattle.tends.specs.Gathered.{IsGatheredIn}
use Rattle.tends.specs.Shares.{FilerPass, AreAllWith, carried_by, kept_by}
use Rattle.tends.proofs.joining.join_all.Given as goal

abbrev pub invariant-loop-worker : goal.invariant-loop-worker
invariant-loop-worker l = record {
  inside : IsGatheredIn l.filer l.gathered;
  each : All (IsIn l.filer) l.workers.items;
  hands_room : vec_len l.gathered.hands + vec_len l.workers ≤ vec_capacity l.gathered.hands;
  kept_room : vec_len l.gathered.kept + vec_len l.workers ≤ vec_capacity l.gathered.kept;
  seats : splits_left l.gathered.seat + total seats_in l.workers.items
      ≡ splits_left l.fn.gathered.seat + total seats_in l.fn.workers.items;
  share : (passes : List FilerPass) → AreAllWith (known l.fn.gathered.pass) l.fn.workers.items passes
      → AreAllWith (known l.gathered.pass) l.workers.items passes;
  hands : (weigh : Hand → ℕ) → total weigh l.gathered.hands.items + total (carried_by weigh) l.workers.items
      ≡ total weigh l.fn.gathered.hands.items + total (carried_by weigh) l.fn.workers.items;
  kept : (weight : Weight) → total (by_key weight) l.gathered.kept.items + total (kept_by weight) l.workers.items
      ≡ total (by_key weight) l.fn.gathered.kept.items + total (kept_by weight) l.fn.workers.items;
}

abbrev pub decreases-loop-worker : goal.decreases-loop-worker
decreases-loop-worker l = l.workers.len
