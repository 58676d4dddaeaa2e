use Rattle.std.proofs.Common.{◌≡◌, ap, sym, ◌∙◌, length, take, arith, length-take}
use Rattle.std.proofs.lemmas.List.{length-map}
use Rattle.vbn_ranges.proofs.batch.Batch.len.Goals as goal

pub returns-clause-value : goal.returns-clause-value
returns-clause-value c =
    let few = c.self.invariant.0 in
    let taken = length-take c.self.inside.count c.self.inside.blocks in
    let size : length (take c.self.inside.count c.self.inside.blocks) ≡ c.self.inside.count = omega arith in
    sym (ap length (sym c.self.view_is) ∙ length-map (take c.self.inside.count c.self.inside.blocks) (λ b. b.0) ∙ size)
