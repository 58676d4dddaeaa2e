use Rattle.std.proofs.Common.{rules, arith, ◌<◌, length, ap}
use Rattle.affinity.specs.Ancestors.{tally}
use Rattle.depot_rule.specs.Seats.{view_of}
use Rattle.depot_rule.proofs.Places.{one-view, of-one}
use Rattle.depot_rule.proofs.Claiming.{claims-it}
use Rattle.depot.specs.Words.{served_by}
use Rattle.depot.proofs.Moves.{granted-now, not-excluded}
use Rattle.depot.proofs.steps.claim.Goals as goal

pub compare_exchange-requires : goal.compare_exchange-requires
compare_exchange-requires g c =
    let lt : c.args.node < length c.args.board.now.key.value.parents.items = omega arith in (
      search rules,
      search rules,
      claims-it g.row.M-Parcel.Denot g.row.M-Call.Denot g.row.M-Reply.Denot g.row.M-Batch.Denot g.M.Parcel.HasKind.kind (served_by g.M.Machine)
          c.args.board.now.key.value.parents.items c.args.board.now.key.value.parcels.items
          _ _ c.args.place.now.me (view_of c.args.place.now.me.0) c.args.node (one-view c.args.place.now.me.0 c.requires.ready.0) c.requires.ready.1
          lt c.requires.ready.2 c.requires.ready.4 (λ a. ap (tally a) c.requires.ready.3),
    )

pub returns-clause-granted : goal.returns-clause-granted
returns-clause-granted g c =
    let did = of-one _ _ _ (one-view c.args.place.now.me.0 c.requires.ready.0) c.compare_exchange.ensures.2.0 in
    λ free. let q = did.0 free in (
      (q.0, (granted-now (view_of c.args.place.now.me.0) c.args.node q.0 free q.1, q.2, q.4, q.5), q.6),
      not-excluded (view_of c.args.place.now.me.0) c.args.node q.3,
    )

pub returns-clause-refused : goal.returns-clause-refused
returns-clause-refused g c =
    let did = of-one _ _ _ (one-view c.args.place.now.me.0 c.requires.ready.0) c.compare_exchange.ensures.2.0 in did.1
