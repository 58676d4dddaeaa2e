use Rattle.std.proofs.Common.{◌∷◌, [], length, ap, ◌∙◌, append_assoc, arith}
use Rattle.std.specs.Vec.Iter.{into_iter_items}
use Rattle.filer_state.specs.state.Sets.{logical_before}
use Rattle.service_names.specs.Listing.{entry_if}
use Rattle.service_names.proofs.Told.{no-more, all-told, page-full, one-told}
use Rattle.service_names.proofs.listing_plus.with_nodes.Goals as goal

pub returns-then-size-left-clause-ok : goal.returns-then-size-left-clause-ok
returns-then-size-left-clause-ok c =
    let at = c.loop-entry in
    page-full (entry_if c.args.is_bare c.args.volume.0 (logical_before c.args.held.now)) at.told.items at.left (into_iter_items at.entry-iterator) _
    at.invariant.so_far c.in-Some.entry (into_iter_items c.next.new.self) c.in-Some.ensures.steps.0 c.size_with_node-size.result
    c.size_with_node-size.ensures c.if-size-left.true

pub loop-entry-preserved : goal.loop-entry-preserved
loop-entry-preserved c =
    let at = c.loop-entry in
    let steps = c.in-Some.ensures.steps.0 in
    rw c.in_ok-push.ensures.items
    record {
      so_far = one-told (entry_if c.args.is_bare c.args.volume.0 (logical_before c.args.held.now)) at.told.items at.left (into_iter_items at.entry-iterator) _
          at.invariant.so_far c.in-Some.entry (into_iter_items c.next.new.self) steps c.size_with_node-size.result c.size_with_node-size.ensures
          c.if-size-left.false c.with_node.result c.with_node.ensures;
      all = append_assoc at.yielded (c.in-Some.entry ∷ []) _ ∙ rw (← steps) at.invariant.all;
      count = let gone = c.in-Some.ensures.steps.1 in
          let short = ap length steps in
          let was = at.invariant.count in omega arith;
    }

pub returns-clause-ok : goal.returns-clause-ok
returns-clause-ok c =
    let at = c.loop-entry in
    all-told (entry_if c.args.is_bare c.args.volume.0 (logical_before c.args.held.now)) at.told.items at.left (into_iter_items at.entry-iterator) _
    at.invariant.so_far (no-more (into_iter_items at.entry-iterator) _ at.invariant.count c.in-None.ensures.steps.0)
