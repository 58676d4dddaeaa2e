use Rattle.std.proofs.Common.{rules, arith, ◌<◌, ◌∷◌, ℕ, List, length, get_or, Option, None, sym, ap, refl, ◌∙◌, subst}
use Rattle.atomic_table.specs.Table.{rest}
use Rattle.affinity.specs.Ancestors.{Covers}
use Rattle.depot_rule.specs.Seats.{view_of}
use Rattle.depot_rule.proofs.Places.{one-view, of-one}
use Rattle.depot_rule.proofs.Slots.{fetches, empties}
use Rattle.depot.specs.Words.{served_by}
use Rattle.depot.proofs.Moves.{hand-free}
use Rattle.depot.proofs.slots.take_parcel.Goals as goal

pub load-requires : goal.load-requires
load-requires g c =
    let ps : List ℕ = c.args.board.now.key.value.parents.items in
    let lt : c.args.node < length ps = omega arith in
    let q = c.requires.granted in (
      search rules,
      search rules,
      fetches g.row.M-Parcel.Denot g.row.M-Call.Denot g.row.M-Reply.Denot g.row.M-Batch.Denot g.M.Parcel.HasKind.kind (served_by g.M.Machine) ps
          c.args.board.now.key.value.parcels.items
          _ _ c.args.place.now.me (view_of c.args.place.now.me.0) c.args.node q.0 q.1 (one-view c.args.place.now.me.0 c.requires.ready.0)
          c.requires.ready.2 lt c.requires.ready.3 c.requires.ready.4
          q.3 (subst (λ (t : List ℕ). Covers t q.0 c.args.node) c.requires.ready.5 q.4),
    )

pub exchange-found-requires : goal.exchange-found-requires
exchange-found-requires g c =
    let q = c.requires.granted in
    let did = of-one _ _ _ (one-view c.args.place.now.me.0 c.requires.ready.0) c.load.ensures.2.1 in
    let is = did q.0 q.1 q.3 q.4 in
    let y : Option g.row.M-Parcel.Denot = get_or q.1 c.args.node None in
    (search rules, (y, is ∙ ap (λ (cs : List (ℕ × Option g.row.M-Parcel.Denot)). (c.args.node, y) ∷ rest cs) (sym is)))

pub load-requires-2 : goal.load-requires-2
load-requires-2 g c =
    let ps : List ℕ = c.args.board.now.key.value.parents.items in
    let lt : c.args.node < length ps = omega arith in
    let did = of-one _ _ _ (one-view c.args.place.now.me.0 c.requires.ready.0) c.load.ensures.2.0 in
    let now = c.exchange-found.ensures.3 in (
      search rules,
      search rules,
      empties g.row.M-Parcel.Denot g.row.M-Call.Denot g.row.M-Reply.Denot g.row.M-Batch.Denot g.M.Parcel.HasKind.kind (served_by g.M.Machine) ps
          c.args.board.now.key.value.parcels.items
          _ _ c.exchange-found.new.seat.me _ c.args.node _ (ap (λ m. m.0) now ∙ did) (ap (λ m. m.1) now) c.requires.ready.2 lt refl,
    )

pub returns-clause-taken : goal.returns-clause-taken
returns-clause-taken g c =
    let did = of-one _ _ _ (one-view c.args.place.now.me.0 c.requires.ready.0) c.load.ensures.2.0 in
    let back = of-one _ _ _ (ap (λ m. m.0) c.exchange-found.ensures.3 ∙ did) c.load-2.ensures.2.0 in
    hand-free (view_of c.args.place.now.me.0) c.requires.ready.3 back
