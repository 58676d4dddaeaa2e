use Rattle.depot.specs.Words.{layout_in, view, all_parcels}
use Rattle.desk.specs.laws.lemmas.Opened.{none-open, closed-so}
use Rattle.desk.specs.Slots.{all_granted, shown}
use Rattle.desk.specs.Words.{machine_in}
use Rattle.desk.proofs.desk.Desk.close.Goals as goal

pub close-requires-clause-none_open : goal.close-requires-clause-none_open
close-requires-clause-none_open g c =
    let self = c.args.self in
    none-open shown g.M.Parcel.HasKind.kind (machine_in self) (layout_in self.depot) (view self.seat) (all_granted self.slots.items) c.requires.kept
    c.requires.idle

pub returns-clause-settled : goal.returns-clause-settled
returns-clause-settled g c =
    let self = c.args.self in
    closed-so shown g.M.Parcel.HasKind.kind (machine_in self) (layout_in self.depot) (view self.seat) (all_granted self.slots.items) c.requires.kept
    (all_parcels g.K.Serial.Node.parcels (layout_in self.depot) c.close.result) c.close.ensures.history
