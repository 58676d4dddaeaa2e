use Rattle.std.proofs.Common.{◌∙◌, ap, length}
use Rattle.vbn_ranges.specs.Marks.{all_marks}
use Rattle.vbn_ranges.specs.Store.{words_in}
use Rattle.vbn_ranges.proofs.Marked.{all-marked}
use Rattle.vbn_ranges.proofs.marks.Marks.fill.Goals as goal

pub returns : goal.returns
returns c =
    all-marked c.self.inside.range_blocks c.self.inside.range (length (words_in c.self.inside.store)) _ c.self.invariant.1.1.1 c.fill.ensures.words
    ∙ ap (λ m. all_marks m.range_blocks m.range) c.self.view_is
