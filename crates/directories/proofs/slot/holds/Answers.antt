use Rattle.std.proofs.Common.{arith, refl, ◌<◌, ◌≤◌, length}
use Rattle.std.proofs.lemmas.Bool.Decides.{nat_tests}
use Rattle.directories.specs.declared.slot.Slot.TheVariants.{Filled, Vacant}
use Rattle.directories.proofs.Slots.{slot-at, none-past}
use Rattle.directories.proofs.slot.holds.Goals as goal

pub returns-in-Some-Filled : goal.returns-in-Some-Filled
returns-in-Some-Filled c =
    let read = rw c.in-Some-Filled.field-0-is at c.in-Some-Filled.ensures.lookup in
    let test = read.0 in
    let inside : c.args.slot < length c.args.slots.now = grind (arith, nat_tests, test) in
    rw (slot-at c.args.slots.now c.args.slot (Filled c.in-Some-Filled.entry) inside read.1) refl

pub returns-in-Some-Vacant : goal.returns-in-Some-Vacant
returns-in-Some-Vacant c =
    let read = rw c.in-Some-Vacant.field-0-is at c.in-Some-Vacant.ensures.lookup in
    let test = read.0 in
    let inside : c.args.slot < length c.args.slots.now = grind (arith, nat_tests, test) in
    rw (slot-at c.args.slots.now c.args.slot (Vacant c.in-Some-Vacant.field-0-0) inside read.1) refl

pub returns-in-None : goal.returns-in-None
returns-in-None c =
    let test = c.in-None.ensures.lookup in
    let past : length c.args.slots.now ≤ c.args.slot = grind (arith, nat_tests, test) in
    rw (none-past c.args.slots.now c.args.slot past) refl
