use Rattle.std.proofs.Common.{◌∙◌, ap, sym, min, take, List, ℕ}
use Rattle.nfs_model.specs.Parts.{most_carried}
use Rattle.vbn_ranges.specs.Marks.{lowest_marked, unmarked, marks_of}
use Rattle.vbn_ranges.specs.Store.{words_in}
use Rattle.vbn_ranges.proofs.Marked.{in-range-is, lowest-taken}
use Rattle.vbn_ranges.proofs.marks.Marks.take_counted.Goals as goal

pub returns-clause-batch : goal.returns-clause-batch
returns-clause-batch c =
    let words = words_in c.self.inside.store in
    c.take_counted.ensures.batch
    ∙ sym (ap (take (min c.args.most most_carried)) (in-range-is c.self.inside.range_blocks c.self.inside.range words c.self.invariant.1.1.1))
    ∙ ap (lowest_marked c.args.most) c.self.view_is

pub returns-clause-left : goal.returns-clause-left
returns-clause-left c =
    let size = c.self.inside.range_blocks in
    let range = c.self.inside.range in
    let words = words_in c.self.inside.store in
    let long = c.self.invariant.1.1.1 in
    lowest-taken size range c.args.most words _ long c.take_counted.ensures.left
    ∙ ap (λ (bs : List ℕ). unmarked bs (marks_of size range words)) (sym (ap (take (min c.args.most most_carried)) (in-range-is size range words long)))
    ∙ ap (λ m. unmarked (lowest_marked c.args.most m) m) c.self.view_is
