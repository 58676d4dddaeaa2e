use Rattle.affinity.specs.Affinity.{affinity_of}
use Rattle.affinity.specs.Layout.{layout_of}
use Rattle.parcels.specs.lemmas.Sorts.{logical-kind}
use Rattle.turns.proofs.Looked.{looked-logical}
use Rattle.turns.proofs.stock.LookWorkOnParcelFilesLogicalNodeEnoughNoStock.work_on.Goals as goal

pub returns-clause-does : goal.returns-clause-does
returns-clause-does c =
    let L = layout_of c.args.arg2.now in
    let a = affinity_of c.args.arg3 in
    let held = c.args.held.now in
    looked-logical L a (logical-kind L a held c.requires.node c.requires.exact) held c.has_enough.result c.has_enough.ensures
