use Rattle.std.proofs.Common.{◌≡◌, ◌≤◌, ◌+◌, ◌*◌, ◌++◌, ℕ, All, List, map, vec_len, vec_capacity}
use Rattle.depot.specs.Words.{view, splits_left}
use Rattle.depot_rule.specs.History.{entries_of}
use Rattle.depot_rule.specs.Placed.{HasPlaced}
use Rattle.depot_rule.specs.Sums.{total}
use Rattle.granted_calls.specs.Balance.{FilerEntry, Weight}
use Rattle.filer_lanes.specs.Lanes.{admitted_by, entries_by, finished_by, seats_of, IsLaneOf}
use Rattle.filer_lanes.specs.Remains.{calls_in, AreRemainsIn}
use Rattle.filer_lanes.proofs.gathering.join_all.Given as goal

abbrev pub invariant-loop-lane : goal.invariant-loop-lane
invariant-loop-lane g l = record {
  inside : AreRemainsIn l.filer l.remains;
  of : All (IsLaneOf l.filer) l.lanes.items;
  hands_room : vec_len l.remains.hands + vec_len l.lanes ≤ vec_capacity l.remains.hands;
  kept_room : vec_len l.remains.kept + vec_len l.lanes ≤ vec_capacity l.remains.kept;
  waiting_room : vec_len l.remains.waiting + 1024 * vec_len l.lanes ≤ vec_capacity l.remains.waiting;
  seats : splits_left l.remains.seat + total seats_of l.lanes.items ≡ splits_left l.fn.remains.seat + total seats_of l.fn.lanes.items;
  calls : (weight : Weight) → calls_in weight l.remains + total (admitted_by weight) l.lanes.items
      ≡ calls_in weight l.fn.remains + total (admitted_by weight) l.fn.lanes.items;
  entries : (weight : FilerEntry → ℕ) → total weight (entries_of (view l.remains.seat)) + total (finished_by weight) l.lanes.items
      ≡ total weight (entries_of (view l.fn.remains.seat)) + total (finished_by weight) l.fn.lanes.items;
  placed : (joined : List _) × (l.fn.lanes.items ≡ l.lanes.items ++ joined) × ((lists : List (List FilerEntry)) → HasPlaced (view l.fn.remains.seat) lists
      → HasPlaced (view l.remains.seat) (map entries_by joined ++ lists));
}

abbrev pub decreases-loop-lane : goal.decreases-loop-lane
decreases-loop-lane g l = l.lanes.len
