use Rattle.std.proofs.Common.{◌≡◌, ◌∙◌, ◌/◌, sym}
use Rattle.std.specs.FinSet.{contains}
use Rattle.vbn_ranges.proofs.Each.{all-at, any-at}
use Rattle.vbn_ranges.proofs.marks.Marks.has_any.Goals as goal

pub contains-requires : goal.contains-requires
contains-requires c =
    all-at (λ b. b / c.args.self.now.range_blocks ≡ c.args.self.now.range) c.args.blocks.now c.loop-block.block-index _ c.requires c.loop-block-test.true

pub returns-then-contains : goal.returns-then-contains
returns-then-contains c =
    sym (any-at (contains c.args.self.now.set) c.args.blocks.now c.loop-block.block-index _ c.loop-block-test.true
    (sym c.contains.ensures ∙ c.if-contains.true))
