use Rattle.directories.specs.declared.slot.Slot.TheVariants.{Vacant}
use Rattle.directories.proofs.Slots.{becomes-set}
use Rattle.directories.proofs.slot.vacate.Goals as goal

pub returns : goal.returns
returns c = becomes-set c.args.slots.now.items c.args.slot (Vacant c.args.next) c.requires
