use Rattle.std.proofs.Common.{◌≡◌, ℕ, ◌<◌, ◌≤◌, true}
use Rattle.affinity.specs.Affinity.{affinity_of}
use Rattle.affinity.specs.Layout.{layout_of}
use Rattle.parcels.specs.Children.{child, children, has_child}
use Rattle.parcels.specs.Exact.{IsPlaced, IsVacant, Under}
use Rattle.parcels.specs.Moved.{Moved}
use Rattle.parcels.specs.Slots.{in_places}
use Rattle.parcels.proofs.gather.gather_children.Given as goal

-- those before are in their slots, and the others are still there
abbrev pub invariant-loop-index : goal.invariant-loop-index
invariant-loop-index g l = record {
  moved : (k : ℕ) → Moved (g.S.Shelf.at l.initial.shelf k)
      (in_places (λ i. has_child (layout_of l.layout) (affinity_of l.parent) i)
      (λ i held. g.K.Node.parcels (layout_of l.layout) (child (affinity_of l.parent) i) held k) (g.C.Slots.at l.slots) l.index) (g.S.Shelf.at l.shelf k);
  there : (i : ℕ) → l.index ≤ i → i < children (layout_of l.layout) (affinity_of l.parent)
      → has_child (layout_of l.layout) (affinity_of l.parent) i ≡ true
      → Under (layout_of l.layout) (child (affinity_of l.parent) i) (IsPlaced g.T.HasKind.kind (layout_of l.layout) (g.S.Shelf.at l.shelf));
  gone : (i : ℕ) → i < l.index → has_child (layout_of l.layout) (affinity_of l.parent) i ≡ true
      → Under (layout_of l.layout) (child (affinity_of l.parent) i) (IsVacant (layout_of l.layout) (g.S.Shelf.at l.shelf));
  kept : g.S.Shelf.keeps l.initial.shelf l.shelf;
}
