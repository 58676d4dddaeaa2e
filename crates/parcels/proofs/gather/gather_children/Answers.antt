use Rattle.std.proofs.Common.{◌≡◌, ◌<◌, true, None, Some, arith}
use Rattle.std.specs.Prelude.{if◌then◌else◌}
use Rattle.affinity.specs.Affinity.{affinity_of}
use Rattle.affinity.specs.Layout.{layout_of}
use Rattle.affinity.specs.Numbers.{number_of}
use Rattle.parcels.specs.Children.{child, children, has_child}
use Rattle.parcels.specs.Exact.{IsPlaced, IsVacant, Under}
use Rattle.parcels.specs.Slots.{in_slot}
use Rattle.parcels.proofs.PlaceLemmas.{used-none, slot-none}
use Rattle.parcels.proofs.Moves.{moved-same, moved-stays, gathered-step, moved-none}
use Rattle.parcels.proofs.Siblings.{child_known, sibling-after, placed_kept}
use Rattle.parcels.proofs.Steps.{fewer, more}
use Rattle.parcels.proofs.gather.gather_children.Goals as goal

pub loop-index-init : goal.loop-index-init
loop-index-init g c = record {
  moved = moved-none (λ i. has_child (layout_of c.args.layout.now) (affinity_of c.args.parent) i)
      (λ i held. g.K.Node.parcels (layout_of c.args.layout.now) (child (affinity_of c.args.parent) i) held) (g.C.Slots.at c.args.slots.now)
      (g.S.Shelf.at c.args.shelf.now);
  there = λ i low high. c.requires.there i high;
  gone = λ i below. absurd (let no : ⊥ = omega arith in no);
  kept = g.met.S.Shelf.keeps_itself c.args.shelf.now;
}

pub gather_child-held-requires-clause-there : goal.gather_child-held-requires-clause-there
gather_child-held-requires-clause-there g c =
    let count = c.child_count-index-end.ensures.count in
    c.loop-index.invariant.there c.loop-index.index (omega arith) (omega arith)

pub loop-index-preserved : goal.loop-index-preserved
loop-index-preserved g c =
    let count = c.child_count-index-end.ensures.count in
    let below : c.loop-index.index < children (layout_of c.args.layout.now) (affinity_of c.args.parent) = omega arith in
    record {
      moved = gathered-step (λ i. has_child (layout_of c.args.layout.now) (affinity_of c.args.parent) i)
          (λ i held. g.K.Node.parcels (layout_of c.args.layout.now) (child (affinity_of c.args.parent) i) held) (g.C.Slots.at c.loop-index.slots)
          (g.C.Slots.at c.fill.new.self) c.loop-index.index c.gather_child-held.result (g.S.Shelf.at c.args.shelf.now)
          (g.S.Shelf.at c.loop-index.shelf) (g.S.Shelf.at c.gather_child-held.new.shelf) c.fill.ensures.there c.fill.ensures.others
          c.loop-index.invariant.moved c.gather_child-held.ensures.moved;
      there = fewer (λ i. has_child (layout_of c.args.layout.now) (affinity_of c.args.parent) i ≡ true
          → Under (layout_of c.args.layout.now) (child (affinity_of c.args.parent) i)
          (IsPlaced g.T.HasKind.kind (layout_of c.args.layout.now) (g.S.Shelf.at c.loop-index.shelf)))
          (λ i. has_child (layout_of c.args.layout.now) (affinity_of c.args.parent) i ≡ true
          → Under (layout_of c.args.layout.now) (child (affinity_of c.args.parent) i)
          (IsPlaced g.T.HasKind.kind (layout_of c.args.layout.now) (g.S.Shelf.at c.gather_child-held.new.shelf))) c.loop-index.index
          (children (layout_of c.args.layout.now) (affinity_of c.args.parent))
          (λ i n high has used. sibling-after (layout_of c.args.layout.now) (IsPlaced g.T.HasKind.kind (layout_of c.args.layout.now))
          (placed_kept g.T.HasKind.kind (layout_of c.args.layout.now)) (g.S.Shelf.at c.loop-index.shelf)
          (g.S.Shelf.at c.gather_child-held.new.shelf) (affinity_of c.args.parent) c.loop-index.index i c.requires.node below high n
          (λ k out. moved-same (g.S.Shelf.at c.loop-index.shelf k)
          (if has_child (layout_of c.args.layout.now) (affinity_of c.args.parent) c.loop-index.index then in_slot
          (λ held. g.K.Node.parcels (layout_of c.args.layout.now) (child (affinity_of c.args.parent) c.loop-index.index) held k)
          (Some c.gather_child-held.result) else None) (g.S.Shelf.at c.gather_child-held.new.shelf k)
          (used-none (has_child (layout_of c.args.layout.now) (affinity_of c.args.parent) c.loop-index.index)
          (in_slot (λ held. g.K.Node.parcels (layout_of c.args.layout.now) (child (affinity_of c.args.parent) c.loop-index.index) held k)
          (Some c.gather_child-held.result))
          (λ w. slot-none (λ held. g.K.Node.parcels (layout_of c.args.layout.now) (child (affinity_of c.args.parent) c.loop-index.index) held k)
          (Some c.gather_child-held.result)
          (λ held. g.met.K.Node.within (layout_of c.args.layout.now) (child (affinity_of c.args.parent) c.loop-index.index) held k
          (child_known (layout_of c.args.layout.now) (affinity_of c.args.parent) c.loop-index.index c.requires.node below)
          (c.requires.kind c.loop-index.index) out)))
          (c.gather_child-held.ensures.moved k))
          (has used))
          c.loop-index.invariant.there;
      gone = more (λ i. has_child (layout_of c.args.layout.now) (affinity_of c.args.parent) i ≡ true
          → Under (layout_of c.args.layout.now) (child (affinity_of c.args.parent) i)
          (IsVacant (layout_of c.args.layout.now) (g.S.Shelf.at c.loop-index.shelf)))
          (λ i. has_child (layout_of c.args.layout.now) (affinity_of c.args.parent) i ≡ true
          → Under (layout_of c.args.layout.now) (child (affinity_of c.args.parent) i)
          (IsVacant (layout_of c.args.layout.now) (g.S.Shelf.at c.gather_child-held.new.shelf))) c.loop-index.index
          (λ i none used b under. moved-stays (g.S.Shelf.at c.loop-index.shelf (number_of (layout_of c.args.layout.now) b))
          (if has_child (layout_of c.args.layout.now) (affinity_of c.args.parent) c.loop-index.index then in_slot
          (λ held. g.K.Node.parcels (layout_of c.args.layout.now) (child (affinity_of c.args.parent) c.loop-index.index) held
          (number_of (layout_of c.args.layout.now) b)) (Some c.gather_child-held.result) else None)
          (g.S.Shelf.at c.gather_child-held.new.shelf (number_of (layout_of c.args.layout.now) b)) (none used b under)
          (c.gather_child-held.ensures.moved (number_of (layout_of c.args.layout.now) b)))
          c.loop-index.invariant.gone c.gather_child-held.ensures.gone;
      kept = g.met.S.Shelf.keeps_on c.args.shelf.now c.loop-index.shelf c.gather_child-held.new.shelf c.loop-index.invariant.kept
          c.gather_child-held.ensures.kept;
    }

pub returns-clause-gone : goal.returns-clause-gone
returns-clause-gone g c =
    let count = c.child_count-index-end.ensures.count in
    let least = c.loop-index-test.false in
    λ i l. c.loop-index.invariant.gone i (omega arith)
