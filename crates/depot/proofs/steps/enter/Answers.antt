use Rattle.std.proofs.Common.{rules, arith, ◌<◌, length, refl}
use Rattle.depot_rule.specs.Seats.{view_of}
use Rattle.depot_rule.proofs.Places.{one-view, of-one}
use Rattle.depot_rule.proofs.Entering.{enters, backs-out}
use Rattle.depot.specs.Words.{served_by}
use Rattle.depot.proofs.Moves.{calm-again}
use Rattle.depot.proofs.steps.enter.Goals as goal

pub fetch_add-found-requires : goal.fetch_add-found-requires
fetch_add-found-requires g c =
    let lt : c.args.node < length c.args.board.now.key.value.parents.items = omega arith in (
      search rules,
      search rules,
      enters g.row.M-Parcel.Denot g.row.M-Call.Denot g.row.M-Reply.Denot g.row.M-Batch.Denot g.M.Parcel.HasKind.kind (served_by g.M.Machine)
          c.args.board.now.key.value.parents.items c.args.board.now.key.value.parcels.items
          _ _ c.args.place.now.me (view_of c.args.place.now.me.0) c.args.node (one-view c.args.place.now.me.0 c.requires.ready.0) c.requires.ready.1
          lt c.requires.ready.2 c.requires.ready.3,
    )

pub fetch_sub-requires : goal.fetch_sub-requires
fetch_sub-requires g c =
    let lt : c.args.node < length c.args.board.now.key.value.parents.items = omega arith in
    let did = of-one _ _ _ (one-view c.args.place.now.me.0 c.requires.ready.0) c.fetch_add-found.ensures.2.0 in
    let vain = did.1 c.if-found-lt-EXCLUSIVE.false in (
      search rules,
      search rules,
      backs-out g.row.M-Parcel.Denot g.row.M-Call.Denot g.row.M-Reply.Denot g.row.M-Batch.Denot g.M.Parcel.HasKind.kind (served_by g.M.Machine)
          c.args.board.now.key.value.parents.items c.args.board.now.key.value.parcels.items
          _ _ c.fetch_add-found.new.seat.me _ c.args.node vain.0 c.requires.ready.1 lt refl,
    )

pub returns-then-found-lt-EXCLUSIVE-clause-entered : goal.returns-then-found-lt-EXCLUSIVE-clause-entered
returns-then-found-lt-EXCLUSIVE-clause-entered g c =
    let did = of-one _ _ _ (one-view c.args.place.now.me.0 c.requires.ready.0) c.fetch_add-found.ensures.2.0 in (_, did.0 c.if-found-lt-EXCLUSIVE.true)

pub returns-clause-claimed : goal.returns-clause-claimed
returns-clause-claimed g c =
    let did = of-one _ _ _ (one-view c.args.place.now.me.0 c.requires.ready.0) c.fetch_add-found.ensures.2.0 in
    let vain = did.1 c.if-found-lt-EXCLUSIVE.false in
    let back = of-one _ _ _ vain.0 c.fetch_sub.ensures.2.0 in
    (c.if-found-lt-EXCLUSIVE.false, (_, calm-again (view_of c.args.place.now.me.0) c.requires.ready.2 back), vain.1)
