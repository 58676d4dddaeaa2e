use Rattle.std.proofs.Common.{subst}
use Rattle.vbn_ranges.specs.Marks.{IsMarks}
use Rattle.vbn_ranges.specs.Store.{words_in}
use Rattle.vbn_ranges.proofs.Marked.{are-marks}
use Rattle.vbn_ranges.proofs.marks.Marks.range.Goals as goal

pub returns-clause-marks : goal.returns-clause-marks
returns-clause-marks c =
    subst IsMarks c.self.view_is
    (are-marks c.self.inside.range_blocks c.self.inside.range (words_in c.self.inside.store) c.self.invariant.1.1.1)
