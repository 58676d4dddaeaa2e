use Rattle.std.proofs.Common.{◌≡◌, ◌∙◌, ◌/◌, ◌∷◌, [], ap, sym, subst, ℕ, List, take, get_or, add-one}
use Rattle.vbn_ranges.specs.Batch.{numbers}
use Rattle.vbn_ranges.specs.Marks.{MarksValue, marked}
use Rattle.vbn_ranges.proofs.Each.{all-at, numbers-more}
use Rattle.vbn_ranges.proofs.Marked.{marked-none, marked-more}
use Rattle.vbn_ranges.proofs.marks.Marks.insert_all.Goals as goal

pub loop-block-init : goal.loop-block-init
loop-block-init c = marked-none c.args.self.now

pub insert-requires : goal.insert-requires
insert-requires c =
    subst (λ (m : MarksValue). (get_or c.args.blocks.now c.loop-block.block-index (record { 0 = 0 })).0 / m.range_blocks ≡ m.range)
    (sym c.loop-block.invariant)
    (all-at (λ b. b / c.args.self.now.range_blocks ≡ c.args.self.now.range) c.args.blocks.now c.loop-block.block-index _ c.requires
    c.loop-block-test.true)

pub loop-block-preserved : goal.loop-block-preserved
loop-block-preserved c =
    let blocks = c.args.blocks.now in
    let k = c.loop-block.block-index in
    let b = (get_or blocks k (record { 0 = 0 })).0 in
    rw add-one
    (c.insert.ensures
    ∙ ap (marked (b ∷ [])) c.loop-block.invariant
    ∙ marked-more (numbers (take k blocks)) b c.args.self.now
    ∙ sym (ap (λ (ns : List ℕ). marked ns c.args.self.now) (numbers-more blocks k (record { 0 = 0 }) c.loop-block-test.true)))
