use Rattle.std.proofs.Common.{ap}
use Rattle.affinity.specs.Affinity.{affinity_of}
use Rattle.affinity.specs.Layout.{layout_of}
use Rattle.depot.specs.Words.{layout_in, view}
use Rattle.desk.specs.laws.lemmas.Taken.{said-taken}
use Rattle.desk.specs.Slots.{all_granted, shown}
use Rattle.desk.proofs.desk.Desk.is_taken.Goals as goal

pub returns : goal.returns
returns g c =
    let self = c.args.self.now in
    said-taken shown (layout_in self.depot) (view self.seat) (all_granted self.slots.items) (affinity_of c.args.affinity) (layout_of c.layout.result.now)
    (all_granted c.deref.result.now) c.is_taken.result c.layout.ensures (ap all_granted c.deref.ensures.value) c.is_taken.ensures
