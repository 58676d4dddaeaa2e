use Rattle.affinity.specs.Layout.{layout_of}
use Rattle.depot.specs.Words.{layout_in, view, all_parcels}
use Rattle.desk.specs.laws.lemmas.Opened.{opened-kept, opened-books}
use Rattle.desk.specs.Slots.{all_granted, shown}
use Rattle.desk.proofs.desk.Desk.new.Goals as goal

pub returns-in-Ok-clause-kept : goal.returns-in-Ok-clause-kept
returns-in-Ok-clause-kept g c =
    opened-kept shown g.M.Parcel.HasKind.kind (layout_in c.in-Ok.depot) (layout_of c.args.layout)
    (all_parcels g.K.Serial.Node.parcels (layout_of c.args.layout) c.args.parcels) (view c.in-Ok.seat) c.args.workers
    (all_granted c.in_ok-slots.slots.items) c.in-Ok.ensures.made.0 c.in-Ok.ensures.made.1 c.in_ok-slots.ensures c.in-Ok.ensures.seat.1

pub returns-in-Ok-clause-opened : goal.returns-in-Ok-clause-opened
returns-in-Ok-clause-opened g c =
    opened-books shown g.M.Parcel.HasKind.kind (layout_in c.in-Ok.depot) (layout_of c.args.layout)
    (all_parcels g.K.Serial.Node.parcels (layout_of c.args.layout) c.args.parcels) (view c.in-Ok.seat) c.args.workers
    (all_granted c.in_ok-slots.slots.items) c.in-Ok.ensures.made.0 c.in-Ok.ensures.made.1 c.in_ok-slots.ensures
