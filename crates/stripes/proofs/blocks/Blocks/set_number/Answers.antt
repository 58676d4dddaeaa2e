use Rattle.std.proofs.Common.{ap, ◌∙◌}
use Rattle.stripes.specs.Spans.{block_renumbered}
use Rattle.stripes.proofs.Numbered.{numbered-spans, numbered-blocks}
use Rattle.stripes.proofs.Called.{long-blocks}
use Rattle.stripes.proofs.blocks.Blocks.set_number.Goals as goal

pub invariant_of-self : goal.invariant_of-self
invariant_of-self c =
    numbered-spans c.args.fileid c.args.block c.args.number.0 c.self.inside.spans.entries c.number_block.new.spans.entries
    c.self.invariant c.number_block.ensures

pub returns-clause-numbered : goal.returns-clause-numbered
returns-clause-numbered c =
    numbered-blocks c.args.fileid c.args.block c.args.number.0 c.self.inside.spans.entries c.number_block.new.spans.entries c.number_block.ensures
    ∙ ap (block_renumbered c.args.fileid c.args.block c.args.number.0) c.self.view_is

pub returns-clause-long : goal.returns-clause-long
returns-clause-long c =
    long-blocks c.number_block.new.spans.entries
    (numbered-spans c.args.fileid c.args.block c.args.number.0 c.self.inside.spans.entries c.number_block.new.spans.entries
    c.self.invariant c.number_block.ensures)
