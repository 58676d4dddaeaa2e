use Rattle.std.proofs.Common.{◌≡◌, ap, ◌∙◌, sym, length, vec_len, rules}
use Rattle.std.specs.FinSet.{len}
use Rattle.std.proofs.lemmas.List.{length-map}
use Rattle.vbn_ranges.specs.Batch.{numbers}
use Rattle.vbn_ranges.proofs.Stocked.{len-apart}
use Rattle.vbn_ranges.proofs.stock.Stock.len.Goals as goal

pub returns : goal.returns
returns c =
    let size : vec_len c.self.inside.blocks ≡ length c.self.inside.blocks.items = search rules in
    c.len.ensures ∙ size
    ∙ sym (length-map c.self.inside.blocks.items (λ b. b.0))
    ∙ len-apart (numbers c.self.inside.blocks.items) c.self.invariant
    ∙ ap len c.self.view_is
