use Rattle.std.proofs.Common.{◌≡◌, true}
use Rattle.directories.specs.Entries.{has}
use Rattle.directories.specs.Slots.{in_order}
use Rattle.directories.proofs.Slots.{filled-at, some-within, ordered-less, entries-less, read-there}
use Rattle.directories.proofs.entries.Entries.remove.Goals as goal

pub vacate-requires : goal.vacate-requires
vacate-requires c =
    let inside = c.position_from_end-position.ensures.within in
    some-within c.self.inside.slots.items c.remove-slot.result
    (filled-at c.self.inside.slots.items c.self.inside.order c.position_from_end-position.result c.remove-slot.result (_, c.self.invariant.rising) inside
    (read-there c.self.inside.order c.position_from_end-position.result c.remove-slot.result c.remove-slot.ensures.item))

pub invariant_of-self : goal.invariant_of-self
invariant_of-self c =
    let slots = c.self.inside.slots.items in
    let order = c.self.inside.order in
    let there : has (in_order slots order) c.args.cookie.0 ≡ true = rw (← c.self.view_is) at c.requires in
    let position = rw c.deref.ensures.value at c.position_from_end-position.ensures.position in
    let inside = c.position_from_end-position.ensures.within in
    rw c.remove-slot.ensures.left
    (ordered-less slots c.vacate.new.slots.items order c.self.inside.next.0 c.args.cookie.0 c.position_from_end-position.result
    c.remove-slot.result c.self.invariant
    there position inside (read-there order c.position_from_end-position.result c.remove-slot.result c.remove-slot.ensures.item) c.vacate.ensures)

pub returns : goal.returns
returns c =
    let slots = c.self.inside.slots.items in
    let order = c.self.inside.order in
    let there : has (in_order slots order) c.args.cookie.0 ≡ true = rw (← c.self.view_is) at c.requires in
    let position = rw c.deref.ensures.value at c.position_from_end-position.ensures.position in
    let inside = c.position_from_end-position.ensures.within in
    rw (c.remove-slot.ensures.left, ← c.self.view_is)
    (entries-less slots c.vacate.new.slots.items order c.self.inside.next.0 c.args.cookie.0 c.position_from_end-position.result
    c.remove-slot.result c.self.invariant
    there position inside (read-there order c.position_from_end-position.result c.remove-slot.result c.remove-slot.ensures.item) c.vacate.ensures)
