use Rattle.std.proofs.Common.{◌≡◌, ap, arith}
use Rattle.nfs_model.specs.Tree.{stripes_of, stripes_in}
use Rattle.affinity.specs.Layout.{layout_of}
use Rattle.affinity.specs.lemmas.Lawful.{stripes_some, stripes_most}
use Rattle.affinity.proofs.layout.Layout.stripes_of.Goals as goal

pub returns-in-Some-clause-some : goal.returns-in-Some-clause-some
returns-in-Some-clause-some c =
    let some = stripes_some (layout_of c.args.self.now) c.args.volume c.args.self.now.lawful in
    let same : c.in-Some.specification.volume.stripes ≡ stripes_of (layout_of c.args.self.now) c.args.volume = ap stripes_in c.in-Some.ensures in
    omega arith

pub returns-in-Some-clause-most : goal.returns-in-Some-clause-most
returns-in-Some-clause-most c =
    let most = stripes_most (layout_of c.args.self.now) c.args.volume c.args.self.now.lawful in
    let same : c.in-Some.specification.volume.stripes ≡ stripes_of (layout_of c.args.self.now) c.args.volume = ap stripes_in c.in-Some.ensures in
    omega arith
