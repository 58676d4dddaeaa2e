use Rattle.std.proofs.Common.{◌≡◌, ◌∙◌, ◌<◌, true, None, Some, refl, sym, arith, slice_get}
use Rattle.std.specs.Prelude.{if◌then◌else◌}
use Rattle.affinity.specs.Affinity.{affinity_of}
use Rattle.affinity.specs.Layout.{layout_of}
use Rattle.parcels.specs.Children.{child, children, has_child}
use Rattle.parcels.specs.Exact.{IsVacant, Under}
use Rattle.parcels.specs.Slots.{in_slot}
use Rattle.parcels.proofs.PlaceLemmas.{used-none, slot-none}
use Rattle.parcels.proofs.Moves.{moved-same, scattered-any, moved-none}
use Rattle.parcels.proofs.Allowing.{allowed-taken}
use Rattle.parcels.proofs.Siblings.{child_known, sibling-after}
use Rattle.parcels.proofs.Steps.{fewer, vacant_kept}
use Rattle.parcels.proofs.scatter.scatter_children.Goals as goal

pub loop-index-init : goal.loop-index-init
loop-index-init g c = record {
  moved = moved-none (λ i. has_child (layout_of c.args.layout.now) (affinity_of c.args.parent) i)
      (λ i held. g.K.Node.parcels (layout_of c.args.layout.now) (child (affinity_of c.args.parent) i) held) (g.C.Slots.at c.args.slots)
      (g.S.Shelf.at c.args.shelf.now);
  others = λ i low. refl;
  vacant = λ i low high. c.requires.vacant i high;
  kept = g.met.S.Shelf.keeps_itself c.args.shelf.now;
}

pub scatter_child-requires-clause-vacant : goal.scatter_child-requires-clause-vacant
scatter_child-requires-clause-vacant g c =
    let count = c.child_count-index-end.ensures.count in
    c.loop-index.invariant.vacant c.loop-index.index (omega arith) (omega arith)

pub scatter_child-requires-clause-allowed : goal.scatter_child-requires-clause-allowed
scatter_child-requires-clause-allowed g c =
    let count = c.child_count-index-end.ensures.count in
    λ used. allowed-taken (g.K.Node.parcels (layout_of c.args.layout.now) (child (affinity_of c.args.parent) c.loop-index.index))
    (g.S.Shelf.allows c.args.shelf.now) (g.S.Shelf.allows c.loop-index.shelf) (slice_get (g.C.Slots.at c.args.slots) c.loop-index.index)
    c.empty-slot.result
    (sym (c.loop-index.invariant.others c.loop-index.index (omega arith)) ∙ c.empty-slot.ensures.taken)
    (λ k x. g.met.S.Shelf.keeps_allowing c.args.shelf.now c.loop-index.shelf k x c.loop-index.invariant.kept)
    (c.requires.allowed c.loop-index.index (omega arith) used)

pub loop-index-preserved : goal.loop-index-preserved
loop-index-preserved g c =
    let count = c.child_count-index-end.ensures.count in
    let below : c.loop-index.index < children (layout_of c.args.layout.now) (affinity_of c.args.parent) = omega arith in
    record {
      moved = scattered-any (λ i. has_child (layout_of c.args.layout.now) (affinity_of c.args.parent) i)
          (λ i held. g.K.Node.parcels (layout_of c.args.layout.now) (child (affinity_of c.args.parent) i) held) (g.C.Slots.at c.args.slots)
          c.loop-index.index c.empty-slot.result (g.S.Shelf.at c.args.shelf.now) (g.S.Shelf.at c.loop-index.shelf) (g.S.Shelf.at c.scatter_child.new.shelf)
          (sym (c.loop-index.invariant.others c.loop-index.index (omega arith)) ∙ c.empty-slot.ensures.taken) c.loop-index.invariant.moved
          c.scatter_child.ensures.moved;
      others = λ j low. c.empty-slot.ensures.others j (λ e. omega arith) ∙ c.loop-index.invariant.others j (omega arith);
      vacant = fewer (λ i. has_child (layout_of c.args.layout.now) (affinity_of c.args.parent) i ≡ true
          → Under (layout_of c.args.layout.now) (child (affinity_of c.args.parent) i)
          (IsVacant (layout_of c.args.layout.now) (g.S.Shelf.at c.loop-index.shelf)))
          (λ i. has_child (layout_of c.args.layout.now) (affinity_of c.args.parent) i ≡ true
          → Under (layout_of c.args.layout.now) (child (affinity_of c.args.parent) i)
          (IsVacant (layout_of c.args.layout.now) (g.S.Shelf.at c.scatter_child.new.shelf))) c.loop-index.index
          (children (layout_of c.args.layout.now) (affinity_of c.args.parent))
          (λ i n high none used. sibling-after (layout_of c.args.layout.now) (IsVacant (layout_of c.args.layout.now))
          (vacant_kept (layout_of c.args.layout.now)) (g.S.Shelf.at c.loop-index.shelf) (g.S.Shelf.at c.scatter_child.new.shelf)
          (affinity_of c.args.parent) c.loop-index.index i c.requires.node below high n
          (λ k out. sym (moved-same (g.S.Shelf.at c.scatter_child.new.shelf k)
          (if has_child (layout_of c.args.layout.now) (affinity_of c.args.parent) c.loop-index.index then in_slot
          (λ held. g.K.Node.parcels (layout_of c.args.layout.now) (child (affinity_of c.args.parent) c.loop-index.index) held k)
          (Some c.empty-slot.result) else None) (g.S.Shelf.at c.loop-index.shelf k)
          (used-none (has_child (layout_of c.args.layout.now) (affinity_of c.args.parent) c.loop-index.index)
          (in_slot (λ held. g.K.Node.parcels (layout_of c.args.layout.now) (child (affinity_of c.args.parent) c.loop-index.index) held k)
          (Some c.empty-slot.result))
          (λ w. slot-none (λ held. g.K.Node.parcels (layout_of c.args.layout.now) (child (affinity_of c.args.parent) c.loop-index.index) held k)
          (Some c.empty-slot.result)
          (λ held. g.met.K.Node.within (layout_of c.args.layout.now) (child (affinity_of c.args.parent) c.loop-index.index) held k
          (child_known (layout_of c.args.layout.now) (affinity_of c.args.parent) c.loop-index.index c.requires.node below)
          (c.requires.kind c.loop-index.index) out)))
          (c.scatter_child.ensures.moved k)))
          (none used))
          c.loop-index.invariant.vacant;
      kept = g.met.S.Shelf.keeps_on c.args.shelf.now c.loop-index.shelf c.scatter_child.new.shelf c.loop-index.invariant.kept c.scatter_child.ensures.kept;
    }
