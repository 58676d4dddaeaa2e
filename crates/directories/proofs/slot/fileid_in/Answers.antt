use Rattle.std.proofs.Common.{arith, ◌<◌, length}
use Rattle.std.proofs.lemmas.Bool.Decides.{nat_tests}
use Rattle.directories.specs.declared.slot.Slot.TheVariants.{Filled}
use Rattle.directories.proofs.Slots.{slot-at}
use Rattle.directories.proofs.slot.fileid_in.Goals as goal

pub returns-in-Some-Filled : goal.returns-in-Some-Filled
returns-in-Some-Filled c =
    let read = rw c.in-Some-Filled.field-0-is at c.in-Some-Filled.ensures.lookup in
    let test = read.0 in
    let inside : c.args.slot < length c.args.slots.now = grind (arith, nat_tests, test) in
    rw (slot-at c.args.slots.now c.args.slot (Filled c.in-Some-Filled.entry) inside read.1) c.fileid_of.ensures
