use Rattle.std.proofs.Common.{arith, ◌<◌, length}
use Rattle.std.proofs.lemmas.Bool.Decides.{nat_tests}
use Rattle.directories.specs.declared.slot.Slot.TheVariants.{Vacant}
use Rattle.directories.proofs.Slots.{slot-at}
use Rattle.directories.proofs.slot.after_vacant.Goals as goal

pub returns-in-Some-Vacant-clause-vacant : goal.returns-in-Some-Vacant-clause-vacant
returns-in-Some-Vacant-clause-vacant c =
    let read = rw c.in-Some-Vacant.field-0-is at c.in-Some-Vacant.ensures.lookup in
    let test = read.0 in
    let inside : c.args.slot < length c.args.slots.now = grind (arith, nat_tests, test) in
    λ _. slot-at c.args.slots.now c.args.slot (Vacant c.in-Some-Vacant.next) inside read.1
