use Rattle.std.proofs.Common.{◌≡◌, ap, arith, slice_get}
use Rattle.affinity.specs.Largest.{mebibytes_in}
use Rattle.affinity.specs.Layout.{layout_of}
use Rattle.affinity.specs.lemmas.Lawful.{mebibytes_some, mebibytes_most}
use Rattle.affinity.proofs.layout.Layout.mebibytes_of.Goals as goal

pub returns-in-Some-clause-some : goal.returns-in-Some-clause-some
returns-in-Some-clause-some c =
    let some = mebibytes_some (layout_of c.args.self.now) c.args.volume c.args.self.now.lawful in
    let same : c.in-Some.specification.volume.mib ≡ mebibytes_in (slice_get (layout_of c.args.self.now).volumes c.args.volume) =
    ap mebibytes_in c.in-Some.ensures in
    omega arith

pub returns-in-Some-clause-most : goal.returns-in-Some-clause-most
returns-in-Some-clause-most c =
    let most = mebibytes_most (layout_of c.args.self.now) c.args.volume c.args.self.now.lawful in
    let same : c.in-Some.specification.volume.mib ≡ mebibytes_in (slice_get (layout_of c.args.self.now).volumes c.args.volume) =
    ap mebibytes_in c.in-Some.ensures in
    omega arith
