use Rattle.std.proofs.Common.{◌≡◌, ◌≤◌, ◌+◌, ℕ, All, vec_len, vec_capacity}
use Rattle.depot_rule.specs.Sums.{total}
use Rattle.granted_calls.specs.declared.shared.Filer.{Filer}
use Rattle.lanes.specs.Words.{Identity}
use Rattle.filer_lanes.specs.Lanes.{by_identity, seats_of, IsLaneOf}
use Rattle.server.specs.Threads.{identity_for, seats_for, IsTaskFor}
use Rattle.server.proofs.running.man_all.Given as goal

abbrev pub invariant-loop-lane : goal.invariant-loop-lane
invariant-loop-lane g l = record {
  task_room : vec_len l.tasks + vec_len l.lanes ≤ vec_capacity l.tasks;
  box_room : vec_len l.boxes + vec_len l.lanes ≤ vec_capacity l.boxes;
  room : vec_capacity l.lanes ≡ vec_capacity l.fn.lanes;
  len : vec_len l.tasks + vec_len l.lanes ≡ vec_len l.fn.tasks + vec_len l.fn.lanes;
  of : (filer : Filer) → All (IsLaneOf filer) l.fn.lanes.items → All (IsTaskFor filer) l.fn.tasks.items
      → All (IsLaneOf filer) l.lanes.items × All (IsTaskFor filer) l.tasks.items;
  seats : total seats_for l.tasks.items + total seats_of l.lanes.items
      ≡ total seats_for l.fn.tasks.items + total seats_of l.fn.lanes.items;
  each : (weigh : Identity → ℕ) → total (identity_for weigh) l.tasks.items + total (by_identity weigh) l.lanes.items
      ≡ total (identity_for weigh) l.fn.tasks.items + total (by_identity weigh) l.fn.lanes.items;
}

abbrev pub decreases-loop-lane : goal.decreases-loop-lane
decreases-loop-lane g l = l.lanes.len
