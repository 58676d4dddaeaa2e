use Rattle.std.proofs.Common.{sym, ◌∙◌}
use Rattle.affinity.specs.Affinity.{affinity_of}
use Rattle.affinity.specs.Layout.{layout_of}
use Rattle.parcels.specs.Sets.{range_parcels}
use Rattle.parcels.specs.lemmas.Sorts.{range-kind}
use Rattle.turns.proofs.Looked.{looked-elsewhere}
use Rattle.turns.proofs.stock.LookWorkOnParcelFilesRangeNodeEnoughNoStock.work_on.Goals as goal

pub returns-clause-does : goal.returns-clause-does
returns-clause-does c =
    let L = layout_of c.args.arg2.now in
    let a = affinity_of c.args.arg3 in
    let held = c.args.arg4.now in
    let kind = range-kind L a held c.requires.node c.requires.exact in
    looked-elsewhere L a (λ e. let both = sym kind ∙ e in let no : ⊥ = cc in no) (range_parcels L a held)
