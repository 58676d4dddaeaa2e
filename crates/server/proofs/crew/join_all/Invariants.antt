use Rattle.std.proofs.Common.{◌≡◌, ◌≤◌, ◌+◌, ℕ, All, vec_len, vec_capacity}
use Rattle.depot_rule.specs.Sums.{total}
use Rattle.granted_calls.specs.declared.shared.Filer.{Filer}
use Rattle.lanes.specs.Words.{Identity}
use Rattle.filer_lanes.specs.Lanes.{by_identity, seats_of, IsLaneOf}
use Rattle.server.specs.Threads.{identity_with, seats_with, ServesFor}
use Rattle.server.proofs.crew.join_all.Given as goal

abbrev pub invariant-loop-thread : goal.invariant-loop-thread
invariant-loop-thread g l = record {
  room : vec_len l.lanes + vec_len l.threads ≤ vec_capacity l.lanes;
  of : (filer : Filer) → All (ServesFor filer) l.fn.threads.items → All (IsLaneOf filer) l.fn.lanes.items
      → All (ServesFor filer) l.threads.items × All (IsLaneOf filer) l.lanes.items;
  len : vec_len l.lanes + vec_len l.threads ≡ vec_len l.fn.lanes + vec_len l.fn.threads;
  seats : total seats_of l.lanes.items + total seats_with l.threads.items
      ≡ total seats_of l.fn.lanes.items + total seats_with l.fn.threads.items;
  each : (weigh : Identity → ℕ) → total (by_identity weigh) l.lanes.items + total (identity_with weigh) l.threads.items
      ≡ total (by_identity weigh) l.fn.lanes.items + total (identity_with weigh) l.fn.threads.items;
}

abbrev pub decreases-loop-thread : goal.decreases-loop-thread
decreases-loop-thread g l = l.threads.len
