use Rattle.std.proofs.Common.{◌≡◌, ap, arith}
use Rattle.nfs_model.specs.Tree.{aggregate_of, aggregate_in}
use Rattle.affinity.specs.Layout.{layout_of}
use Rattle.affinity.specs.lemmas.Lawful.{aggregate_known}
use Rattle.affinity.proofs.layout.Layout.aggregate_of.Goals as goal

pub returns-in-Some-clause-known : goal.returns-in-Some-clause-known
returns-in-Some-clause-known c there =
    let known = aggregate_known (layout_of c.args.self.now) c.args.volume c.args.self.now.lawful there in
    let same : c.in-Some.specification.volume.aggregate ≡ aggregate_of (layout_of c.args.self.now) c.args.volume = ap aggregate_in c.in-Some.ensures in
    omega arith
