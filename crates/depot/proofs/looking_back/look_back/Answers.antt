use Rattle.depot_rule.specs.LookingBack.{LooksBack}
use Rattle.depot_rule.specs.Seats.{view_of}
use Rattle.depot_rule.proofs.LookingBack.{looks-back}
use Rattle.depot_rule.proofs.Places.{one-view, of-one}
use Rattle.depot.specs.Words.{served_by}
use Rattle.depot.proofs.looking_back.look_back.Goals as goal

pub load-requires : goal.load-requires
load-requires g c = (
  c.requires.table.0,
  c.requires.table.1,
  looks-back g.row.M-Parcel.Denot g.row.M-Call.Denot g.row.M-Reply.Denot g.row.M-Batch.Denot g.M.Parcel.HasKind.kind (served_by g.M.Machine)
      c.args.board.now.key.value.parents.items c.args.board.now.key.value.parcels.items
      _ _ c.args.place.now.me (view_of c.args.place.now.me.0) (one-view c.args.place.now.me.0 c.requires.one),
)

pub returns-clause-back : goal.returns-clause-back
returns-clause-back g c =
    of-one (LooksBack (served_by g.M.Machine)) _ _ (one-view c.args.place.now.me.0 c.requires.one) c.load.ensures.2.1
