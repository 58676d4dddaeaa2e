use Rattle.depot_rule.specs.Seats.{view_of}
use Rattle.depot.specs.Words.{served_by}
use Rattle.depot_rule.proofs.Places.{one-view, of-one}
use Rattle.depot_rule.proofs.Renewing.{renews}
use Rattle.depot.proofs.stamps.renew.Goals as goal

pub load-requires : goal.load-requires
load-requires g c = (
  c.requires.table.0,
  c.requires.table.1,
  renews g.row.M-Parcel.Denot g.row.M-Call.Denot g.row.M-Reply.Denot g.row.M-Batch.Denot g.M.Parcel.HasKind.kind (served_by g.M.Machine)
      c.args.board.now.key.value.parents.items c.args.board.now.key.value.parcels.items
      _ _ c.args.place.now.me (view_of c.args.place.now.me.0) (one-view c.args.place.now.me.0 c.requires.one.0) c.requires.one.1,
)

pub returns-clause-renewed : goal.returns-clause-renewed
returns-clause-renewed g c =
    let did = of-one _ _ _ (one-view c.args.place.now.me.0 c.requires.one.0) c.load.ensures.2.0 in
    (did.0, did.1, λ b h has. (did.2.0, did.2.1, did.2.2, did.2.3, λ k pos lt cover. did.2.4 b k h has pos lt cover))
