use Rattle.std.proofs.Common.{◌≡◌, length, subst, arith}
use Rattle.affinity.specs.Affinity.{affinity_of}
use Rattle.affinity.specs.Layout.{layout_of}
use Rattle.affinity.specs.Tree.{IsNode}
use Rattle.parcels.specs.lemmas.Sorts.{volume-kind}
use Rattle.engine.proofs.counts.Tallied.{volume-tallied}
use Rattle.engine.proofs.counts.tally.TallyTaskParcelFilesParcelKinds.on_volume.Goals as goal

pub volume_around-requires : goal.volume_around-requires
volume_around-requires c = volume-kind (layout_of c.args.arg2.now) (affinity_of c.args.affinity) c.args.held.now c.requires.node c.requires.exact

pub recount_volume-requires : goal.recount_volume-requires
recount_volume-requires c =
    let on = subst (IsNode (layout_of c.args.arg2.now)) c.volume_around.ensures c.requires.node in
    let long : length c.args.self.counts.items ≡ length (layout_of c.args.arg2.now).volumes = c.requires.asks in
    omega (arith, on, long)

pub returns-clause-does : goal.returns-clause-does
returns-clause-does c =
    volume-tallied (layout_of c.args.arg2.now) c.args.arg2.now.lawful c.volume_around.result (affinity_of c.args.affinity) c.volume_around.ensures
    c.requires.node c.args.held.now c.args.self.counts.items c.recount_volume.new.counts c.recount_volume.ensures
