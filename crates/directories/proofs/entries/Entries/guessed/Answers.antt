use Rattle.nfs_model.specs.volume.Directories.{NamesDiffer}
use Rattle.directories.specs.Slots.{in_order}
use Rattle.directories.proofs.Guessed.{guess-found}
use Rattle.directories.proofs.entries.Entries.guessed.Goals as goal

pub returns : goal.returns
returns c =
    let differ : NamesDiffer (in_order c.self.inside.slots.items c.self.inside.order) = rw (← c.self.view_is) at c.requires in
    let named = rw c.deref.ensures.value at c.fileid_in.ensures in
    rw (← c.self.view_is)
    (guess-found c.self.inside.slots.items c.self.inside.order c.self.inside.next.0 c.args.slot c.args.name.now c.fileid_in.result c.self.invariant
    differ named)
