use Rattle.std.proofs.Common.{ap, sym, ◌∙◌, ◌++◌, ◌∷◌, [], map, zero-add, add-one, arith}
use Rattle.std.specs.FinSet.{FinSet}
use Rattle.std.specs.List.{range_with_len}
use Rattle.std.specs.Ordering.{nat_cmp}
use Rattle.vbn_ranges.specs.Marks.{no_marks}
use Rattle.vbn_ranges.proofs.DeadMarked.{none-more, none-dead, none-set}
use Rattle.vbn_ranges.proofs.dead.DeadBlocks.new.Goals as goal

pub loop-range-preserved : goal.loop-range-preserved
loop-range-preserved c =
    let size = c.args.range_blocks in
    c.in_ok-push.ensures.items
    ∙ (λ i. c.loop-range.invariant i ++ c.in_ok-none.ensures i ∷ [])
    ∙ ap (λ k. map (no_marks size) (range_with_len 0 c.loop-range.range) ++ no_marks size k ∷ []) (sym (zero-add c.loop-range.range))
    ∙ none-more size c.loop-range.range 0
    ∙ ap (λ k. map (no_marks size) (range_with_len 0 k)) (sym (add-one c.loop-range.range))

pub invariant_of-result : goal.invariant_of-result
invariant_of-result c =
    none-dead c.args.range_blocks c.loop-range.range c.loop-range.ranges.items c.requires c.loop-range.invariant (omega arith)

pub returns : goal.returns
returns c =
    ap (λ (s : FinSet nat_cmp). record { range_blocks = c.args.range_blocks; blocks = s })
    (none-set c.args.range_blocks c.loop-range.range c.loop-range.ranges.items c.loop-range.invariant)
