use Rattle.std.proofs.Common.{ap, ◌∙◌, ◌*◌, sym, length}
use Rattle.nfs_model.specs.Moves.{in_range}
use Rattle.std.specs.FinSet.{len}
use Rattle.vbn_ranges.specs.Store.{words_in}
use Rattle.vbn_ranges.proofs.Marked.{in-range-is}
use Rattle.vbn_ranges.proofs.Stocked.{len-members}
use Rattle.vbn_ranges.proofs.marks.Marks.len.Goals as goal

pub returns-clause-listed : goal.returns-clause-listed
returns-clause-listed c =
    let size = c.self.inside.range_blocks in
    let range = c.self.inside.range in
    let words = words_in c.self.inside.store in
    c.count.ensures (size * range)
    ∙ sym (ap length (in-range-is size range words c.self.invariant.1.1.1))
    ∙ ap (λ m. length (in_range m.range_blocks m.range m.set)) c.self.view_is

pub returns-clause-counted : goal.returns-clause-counted
returns-clause-counted c =
    let first = c.self.inside.range_blocks * c.self.inside.range in
    c.count.ensures first
    ∙ len-members first (words_in c.self.inside.store)
    ∙ ap (λ m. len m.set) c.self.view_is
