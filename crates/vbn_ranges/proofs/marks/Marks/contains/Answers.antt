use Rattle.std.proofs.Common.{◌≡◌, ◌/◌, ap, ◌∙◌, sym, subst}
use Rattle.std.specs.FinSet.{contains}
use Rattle.vbn_ranges.specs.Marks.{MarksValue}
use Rattle.vbn_ranges.specs.Store.{words_in}
use Rattle.vbn_ranges.proofs.Marked.{is-marked}
use Rattle.vbn_ranges.proofs.Quotients.{size-some}
use Rattle.vbn_ranges.proofs.marks.Marks.contains.Goals as goal

pub returns : goal.returns
returns c =
    c.has.ensures
    ∙ is-marked c.self.inside.range_blocks c.self.inside.range (words_in c.self.inside.store) c.args.block.0
    (size-some c.self.inside.range_blocks c.self.invariant.0)
    (subst (λ (m : MarksValue). c.args.block.0 / m.range_blocks ≡ m.range) (sym c.self.view_is) c.requires)
    ∙ ap (λ m. contains m.set c.args.block.0) c.self.view_is
