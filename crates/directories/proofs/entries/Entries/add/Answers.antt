use Rattle.std.proofs.Common.{refl}
use Rattle.directories.proofs.Slots.{ordered-put, entries-put}
use Rattle.directories.proofs.entries.Entries.add.Goals as goal

pub invariant_of-self-2 : goal.invariant_of-self-2
invariant_of-self-2 c =
    rw (c.push.ensures, c.in_ok-room.ensures.same)
    (ordered-put c.self.inside.slots.items c.put.new.slots.items c.self.inside.order c.self.inside.next.0 c.in_ok-slot.slot _ c.self.invariant
    c.in_ok-slot.ensures.ok refl)

pub returns-clause-ok : goal.returns-clause-ok
returns-clause-ok c =
    rw (c.push.ensures, c.in_ok-room.ensures.same, ← c.self.view_is)
    (entries-put c.self.inside.slots.items c.put.new.slots.items c.self.inside.order c.self.inside.next.0 c.in_ok-slot.slot _ c.self.invariant
    c.in_ok-slot.ensures.ok)
