use Rattle.std.proofs.Common.{◌≡◌, ◌/◌, ◌∷◌, [], ap, ◌∙◌, sym, subst}
use Rattle.vbn_ranges.specs.Marks.{MarksValue, marked}
use Rattle.vbn_ranges.specs.Store.{words_in}
use Rattle.vbn_ranges.proofs.Marked.{inserted}
use Rattle.vbn_ranges.proofs.Quotients.{size-some}
use Rattle.vbn_ranges.proofs.marks.Marks.insert.Goals as goal

pub returns : goal.returns
returns c =
    inserted c.self.inside.range_blocks c.self.inside.range (words_in c.self.inside.store) _ c.args.block.0
    (size-some c.self.inside.range_blocks c.self.invariant.0)
    (subst (λ (m : MarksValue). c.args.block.0 / m.range_blocks ≡ m.range) (sym c.self.view_is) c.requires) c.insert.ensures.bits
    ∙ ap (marked (c.args.block.0 ∷ [])) c.self.view_is
