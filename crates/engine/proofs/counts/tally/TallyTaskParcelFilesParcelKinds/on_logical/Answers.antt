use Rattle.std.proofs.Common.{◌≡◌, length, subst, arith}
use Rattle.affinity.specs.Affinity.{affinity_of}
use Rattle.affinity.specs.Layout.{layout_of}
use Rattle.affinity.specs.Tree.{IsNode}
use Rattle.parcels.specs.lemmas.Sorts.{logical-kind}
use Rattle.engine.proofs.counts.Tallied.{logical-tallied}
use Rattle.engine.proofs.counts.tally.TallyTaskParcelFilesParcelKinds.on_logical.Goals as goal

pub volume_of_logical-requires : goal.volume_of_logical-requires
volume_of_logical-requires c =
    logical-kind (layout_of c.args.arg2.now) (affinity_of c.args.affinity) c.args.held.now c.requires.node c.requires.exact

pub recount_logical-requires : goal.recount_logical-requires
recount_logical-requires c =
    let on = subst (IsNode (layout_of c.args.arg2.now)) c.volume_of_logical.ensures c.requires.node in
    let long : length c.args.self.counts.items ≡ length (layout_of c.args.arg2.now).volumes = c.requires.asks in
    omega (arith, on, long)

pub returns-clause-does : goal.returns-clause-does
returns-clause-does c =
    logical-tallied (layout_of c.args.arg2.now) c.args.arg2.now.lawful c.volume_of_logical.result (affinity_of c.args.affinity) c.volume_of_logical.ensures
    c.requires.node c.args.held.now c.args.self.counts.items c.recount_logical.new.counts c.recount_logical.ensures
