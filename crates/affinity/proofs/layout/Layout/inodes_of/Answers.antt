use Rattle.std.proofs.Common.{◌≡◌, ap, arith}
use Rattle.affinity.specs.Largest.{inodes_in, inodes_of}
use Rattle.affinity.specs.Layout.{layout_of}
use Rattle.affinity.specs.lemmas.Lawful.{inodes_between}
use Rattle.affinity.proofs.layout.Layout.inodes_of.Goals as goal

pub returns-in-Some-clause-some : goal.returns-in-Some-clause-some
returns-in-Some-clause-some c =
    let some = (inodes_between (layout_of c.args.self.now) c.args.volume c.args.self.now.lawful).0 in
    let same : c.in-Some.specification.inodes ≡ inodes_of (layout_of c.args.self.now) c.args.volume = ap inodes_in c.in-Some.ensures in
    omega (arith, some, same)

pub returns-in-Some-clause-most : goal.returns-in-Some-clause-most
returns-in-Some-clause-most c =
    let most = (inodes_between (layout_of c.args.self.now) c.args.volume c.args.self.now.lawful).1 in
    let same : c.in-Some.specification.inodes ≡ inodes_of (layout_of c.args.self.now) c.args.volume = ap inodes_in c.in-Some.ensures in
    omega (arith, most, same)
