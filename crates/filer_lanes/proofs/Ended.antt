-- A filer whose lanes have stopped comes to its end.
use Rattle.std.proofs.Common.{◌≡◌, ◌∙◌, ℕ, ◌+◌, List, Option, ap, arith, subst, sym}
use Rattle.depot.specs.Words.{view}
use Rattle.depot_rule.specs.LookingBack.{HasAll}
use Rattle.depot_rule.specs.Sums.{total}
use Rattle.connections.specs.declared.device.Device as devices
use Rattle.lanes.specs.declared.lane.Lane.{Lane}
use Rattle.filer_state.specs.state.Parcels.{FilerParcel}
use Rattle.filer_state.specs.declared.files.Files.{Files}
use Rattle.granted_calls.specs.Balance.{by_entry, by_key}
use Rattle.granted_calls.specs.Filers.{layout_in, verifier_in}
use Rattle.granted_calls.specs.declared.shared.Filer.{Filer}
use Rattle.tends.specs.declared.left.Left.{Left}
use Rattle.tends.specs.Ends.{log_in, HasEnded}
use Rattle.tends.specs.Gathered.{IsLeftOf}
use Rattle.filer_lanes.specs.declared.ending.FilerEnd.{FilerEnd}
use Rattle.filer_lanes.specs.Ends.{hands_in, kept_in, waiting_in, HasBack, IsEndOf, HaveStopped}

module _ {D R : Type 0} {G : devices.Ghosts D} (filer there : Filer) (same : there ≡ filer) (lanes : List (Lane D R G)) (left : Left)
    (stopped : HaveStopped filer lanes left) where
  pub left-there : IsLeftOf there left
  left-there = subst (λ (f : Filer). IsLeftOf f left) (sym same) stopped.leaves

  -- what is left then, of which the seat that has all of the history tells
  pub have-ended : (end : FilerEnd) (parcels : ℕ → Option (FilerParcel Files)) → HasBack (layout_in there) (log_in left) parcels end
      → HasEnded (layout_in there) (verifier_in there) parcels (hands_in end) (log_in left)
      → HasAll (view left.seat) (log_in left)
      → kept_in end ≡ left.kept.items → waiting_in end ≡ left.waiting.items
      → IsEndOf filer lanes end
  have-ended end parcels back history all kept waiting =
      let placed = stopped.placed.1 in
      record {
        lanes_are = stopped.lanes_are;
        log = log_in left;
        parcels = parcels;
        back = subst (λ (f : Filer). HasBack (layout_in f) (log_in left) parcels end) same back;
        history = subst (λ (f : Filer). HasEnded (layout_in f) (verifier_in f) parcels (hands_in end) (log_in left)) same history;
        places = stopped.placed.0;
        placed = record { ascend = placed.ascend; chosen_are = placed.chosen_are; each = λ p. placed.each p ∙ all.places p };
        all = λ weight. stopped.entries weight ∙ all.entries weight;
        calls = λ weight.
            let a = stopped.calls weight in
            let b = all.entries (by_entry weight) in
            let k = ap (total (by_key weight)) kept in
            let w = ap (total (by_key weight)) waiting in
            omega (arith, a, b, k, w);
      }
