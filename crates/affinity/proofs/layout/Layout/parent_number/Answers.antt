use Rattle.std.proofs.Common.{◌∙◌, sym, ap, slice_index}
use Rattle.affinity.specs.Affinity.{affinity_of}
use Rattle.affinity.specs.Layout.{layout_of}
use Rattle.affinity.specs.Numbers.{number_or_none, parents}
use Rattle.affinity.specs.lemmas.Parents.{parent_at}
use Rattle.affinity.proofs.layout.Layout.parent_number.Goals as goal

pub returns-in-Some-clause-parent : goal.returns-in-Some-clause-parent
returns-in-Some-clause-parent c =
    c.number_of.ensures.number
    ∙ ap (number_or_none (layout_of c.args.self.now)) c.in-Some.ensures.parent
    ∙ sym (parent_at (layout_of c.args.self.now) (affinity_of c.affinity_at.result) c.affinity_at.ensures.node)
    ∙ ap (slice_index (parents (layout_of c.args.self.now))) c.affinity_at.ensures.number
