use Rattle.std.proofs.Common.{◌≡◌, ◌+◌, ℕ, [], All, vec_len, vec_capacity}
use Rattle.std.specs.Arc.{arc_value}
use Rattle.depot_rule.specs.Sums.{total}
use Rattle.lanes.specs.Queues.{HasBoth}
use Rattle.turns.specs.Words.{entries_in, seats_in, IsAt}
use Rattle.filer_lanes.specs.Lanes.{by_place, places_below, seats_of, AllOffer, IsLaneOf}
use Rattle.filer_lanes.proofs.opening.open_lanes.Given as goal

abbrev pub invariant-loop-index : goal.invariant-loop-index
invariant-loop-index g l = record {
  inside : IsAt (arc_value l.filer) l.queue l.worker;
  both : HasBoth l.admits l.worker;
  none : entries_in l.worker ≡ [];
  of : All (IsLaneOf (arc_value l.filer)) l.lanes.items;
  offer : AllOffer l.offer l.lanes.items;
  len : vec_len l.lanes + 1 ≡ l.index;
  room : vec_capacity l.lanes ≡ vec_capacity l.fn.lanes;
  left : seats_in l.worker + vec_len l.lanes ≡ 64;
  seats : seats_in l.worker + total seats_of l.lanes.items ≡ 64;
  each : (weigh : ℕ × ℕ → ℕ) → weigh (0, l.fn.count) + total (by_place weigh) l.lanes.items ≡ total weigh (places_below l.fn.count l.index);
}
