use Rattle.directories.proofs.Slots.{order-filled}
use Rattle.directories.proofs.entries.Entries.append_page.Goals as goal

pub append_fitting-requires : goal.append_fitting-requires
append_fitting-requires c =
    rw c.deref-3.ensures.value (order-filled c.self.inside.slots.items c.self.inside.order c.self.inside.next.0 c.self.invariant)

pub make_room-requires : goal.make_room-requires
make_room-requires c =
    rw (c.deref-2.ensures.value) (order-filled c.self.inside.slots.items c.self.inside.order c.self.inside.next.0 c.self.invariant)
