use Rattle.std.proofs.Common.{rules, arith, ◌<◌, length, drop, ap}
use Rattle.depot_rule.specs.Seats.{view_of}
use Rattle.depot_rule.proofs.Places.{one-view, of-one}
use Rattle.depot_rule.proofs.Entering.{leaves}
use Rattle.depot.specs.Words.{served_by}
use Rattle.depot.proofs.Moves.{with-path}
use Rattle.depot.proofs.steps.leave.Goals as goal

pub fetch_sub-requires : goal.fetch_sub-requires
fetch_sub-requires g c =
    let lt : c.args.node < length c.args.board.now.key.value.parents.items = omega arith in (
      search rules,
      search rules,
      leaves g.row.M-Parcel.Denot g.row.M-Call.Denot g.row.M-Reply.Denot g.row.M-Batch.Denot g.M.Parcel.HasKind.kind (served_by g.M.Machine)
          c.args.board.now.key.value.parents.items c.args.board.now.key.value.parcels.items
          _ _ c.args.place.now.me (view_of c.args.place.now.me.0) c.args.node c.requires.ready.2.0
          (one-view c.args.place.now.me.0 c.requires.ready.0) c.requires.ready.1 lt c.requires.ready.2.1,
    )

pub returns-clause-left : goal.returns-clause-left
returns-clause-left g c =
    let did = of-one _ _ _ (one-view c.args.place.now.me.0 c.requires.ready.0) c.fetch_sub.ensures.2.0 in
    λ rest e. (_, with-path (view_of c.args.place.now.me.0) (ap (drop 1) e) did)
