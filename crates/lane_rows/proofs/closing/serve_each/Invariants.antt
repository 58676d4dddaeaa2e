use Rattle.std.proofs.Common.{◌≡◌, ◌≤◌, ◌+◌, ℕ, All, vec_len, vec_capacity}
use Rattle.depot_rule.specs.Sums.{total}
use Rattle.lanes.specs.Words.{Identity}
use Rattle.filer_lanes.specs.Lanes.{by_identity, seats_of, IsLaneOf}
use Rattle.granted_calls.specs.declared.shared.Filer.{Filer}
use Rattle.lane_rows.proofs.closing.serve_each.Given as goal

abbrev pub invariant-loop-lane : goal.invariant-loop-lane
invariant-loop-lane g l = record {
  room : vec_len l.served + vec_len l.lanes ≤ vec_capacity l.served;
  len : vec_len l.served + vec_len l.lanes ≡ vec_len l.fn.lanes;
  of : (filer : Filer) → All (IsLaneOf filer) l.fn.lanes.items → All (IsLaneOf filer) l.lanes.items × All (IsLaneOf filer) l.served.items;
  seats : total seats_of l.served.items + total seats_of l.lanes.items ≡ total seats_of l.fn.lanes.items;
  each : (weigh : Identity → ℕ) → total (by_identity weigh) l.served.items + total (by_identity weigh) l.lanes.items
      ≡ total (by_identity weigh) l.fn.lanes.items;
}

abbrev pub decreases-loop-lane : goal.decreases-loop-lane
decreases-loop-lane g l = l.lanes.len
