use Rattle.affinity.specs.Affinity.{affinity_of}
use Rattle.affinity.specs.Layout.{layout_of}
use Rattle.parcels.specs.lemmas.Sorts.{serial-kind}
use Rattle.engine.proofs.counts.Tallied.{serial-tallied}
use Rattle.engine.proofs.counts.tally.TallyTaskParcelFilesParcelKinds.on_serial.Goals as goal

pub returns-clause-does : goal.returns-clause-does
returns-clause-does c =
    let L = layout_of c.args.layout.now in
    let a = affinity_of c.args.arg3 in
    let held = c.args.held.now in
    serial-tallied L c.args.layout.now.lawful a (serial-kind L a held c.requires.node c.requires.exact) held c.args.self.counts.items c.recount_all.new.counts
    c.recount_all.ensures c.requires.asks
