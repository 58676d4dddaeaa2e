use Rattle.std.proofs.Common.{arith}
use Rattle.directories.proofs.Slots.{slot-at, some-within}
use Rattle.directories.proofs.slot.entry_in.Goals as goal

pub bounds-slots-slot : goal.bounds-slots-slot
bounds-slots-slot c = some-within c.args.slots.now c.args.slot c.requires

pub unreachable-requires : goal.unreachable-requires
unreachable-requires c =
    let there = c.requires in
    let shows = slot-at c.args.slots.now c.args.slot c.index-slots-slot.result (some-within c.args.slots.now c.args.slot there) c.index-slots-slot.is in
    let vacant = rw c.in-Vacant.is at shows in absurd (grind (arith, there, vacant))

pub returns : goal.returns
returns c =
    let inside = some-within c.args.slots.now c.args.slot c.requires in
    let shows = slot-at c.args.slots.now c.args.slot c.index-slots-slot.result inside c.index-slots-slot.is in rw c.in-Filled.is at shows
