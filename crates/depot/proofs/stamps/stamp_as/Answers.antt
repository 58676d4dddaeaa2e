use Rattle.std.proofs.Common.{◌+◌, ◌%◌, ◌^◌, Option, sym, subst}
use mathlib.Core.Option.{none}
use Rattle.atomic_table.specs.Table.{step, Allows}
use Rattle.depot_rule.specs.declared.view.Entry.{Entry}
use Rattle.depot_rule.specs.Rule.{Rule}
use Rattle.depot_rule.specs.Seats.{view_of}
use Rattle.depot_rule.specs.Plays.{StampSays}
use Rattle.depot_rule.proofs.Places.{one-view}
use Rattle.depot_rule.proofs.Stamping.{stamps}
use Rattle.depot.specs.Words.{served_by}
use Rattle.depot.proofs.Moves.{stamped-so}
use Rattle.depot.proofs.stamps.stamp_as.Goals as goal

pub fetch_add-requires : goal.fetch_add-requires
fetch_add-requires g c =
    let q = c.requires.granted in
    let of = c.requires.step q.0 q.2 in
    let hand = c.requires.hand q.0 q.2 in (
      c.requires.table.0,
      c.requires.table.1,
      subst (λ (j : Option (Entry g.row.M-Parcel.Denot g.row.M-Call.Denot g.row.M-Reply.Denot)).
          Allows (Rule g.M.Parcel.HasKind.kind (served_by g.M.Machine) c.args.board.now.key.value.parents.items
          c.args.board.now.key.value.parcels.items) c.args.board.now.table_id.slots c.args.place.now.id c.args.place.now.me 0 (λ x. (x + 1) % 2 ^ 64)
          (StampSays (served_by g.M.Machine) j (step c.args.board.now.table_id.slots 0 1 0 none) c.args.place.now.me))
          (sym q.2)
          (stamps g.row.M-Parcel.Denot g.row.M-Call.Denot g.row.M-Reply.Denot g.row.M-Batch.Denot g.M.Parcel.HasKind.kind (served_by g.M.Machine)
          g.M.Machine.local g.M.Machine.keeps c.args.board.now.key.value.parents.items c.args.board.now.key.value.parcels.items
          _ _ c.args.place.now.me (view_of c.args.place.now.me.0) q.0 of.1.1.0 (one-view c.args.place.now.me.0 c.requires.one.0) of.1.1.1
          c.requires.one.1 q.4 q.5 of.1.0 of.0 of.1.2 of.1.1.2 of.2 hand.0 hand.1 hand.2 hand.3),
    )

pub returns-clause-stamped : goal.returns-clause-stamped
returns-clause-stamped g c = λ e is. stamped-so _ is (one-view c.args.place.now.me.0 c.requires.one.0) c.fetch_add.ensures.2.0
