use Rattle.std.proofs.Common.{rules, arith, ◌≡◌, ◌<◌, ◌∷◌, ℕ, List, length, get_or, Option, None, sym, ap, refl, ◌∙◌, subst}
use Rattle.atomic_table.specs.Table.{rest}
use Rattle.affinity.specs.Ancestors.{Covers}
use Rattle.depot_rule.specs.Seats.{view_of}
use Rattle.depot_rule.proofs.Places.{one-view, of-one}
use Rattle.depot_rule.proofs.Slots.{reaches, fills}
use Rattle.depot.specs.Words.{served_by}
use Rattle.depot.proofs.Moves.{hand-free}
use Rattle.depot.proofs.slots.give_parcel.Goals as goal

pub load-requires : goal.load-requires
load-requires g c =
    let ps : List ℕ = c.args.board.now.key.value.parents.items in
    let lt : c.args.node < length ps = omega arith in (
      search rules,
      search rules,
      reaches g.row.M-Parcel.Denot g.row.M-Call.Denot g.row.M-Reply.Denot g.row.M-Batch.Denot g.M.Parcel.HasKind.kind (served_by g.M.Machine) ps
          c.args.board.now.key.value.parcels.items
          _ _ c.args.place.now.me (view_of c.args.place.now.me.0) c.args.node (one-view c.args.place.now.me.0 c.requires.ready.0) c.requires.ready.2
          lt c.requires.ready.3 c.requires.ready.4,
    )

pub load-requires-in-None : goal.load-requires-in-None
load-requires-in-None g c =
    let ps : List ℕ = c.args.board.now.key.value.parents.items in
    let lt : c.args.node < length ps = omega arith in
    let q = c.requires.granted in
    let did = (of-one _ _ _ (one-view c.args.place.now.me.0 c.requires.ready.0) c.load.ensures.2.0).0 in
    let now = c.exchange.ensures.3 in
    let held : c.exchange.new.seat.me.1 ≡ (c.args.node, get_or q.1 c.args.node None) ∷ rest c.load.new.seat.me.1
    = ap (λ m. m.1) now ∙ ap (λ (y : Option g.row.M-Parcel.Denot). (c.args.node, y) ∷ rest c.load.new.seat.me.1) (sym q.4) in (
      search rules,
      search rules,
      fills g.row.M-Parcel.Denot g.row.M-Call.Denot g.row.M-Reply.Denot g.row.M-Batch.Denot g.M.Parcel.HasKind.kind (served_by g.M.Machine) ps
          c.args.board.now.key.value.parcels.items
          _ _ c.exchange.new.seat.me _ c.args.node q.0 q.1 _ (ap (λ m. m.0) now ∙ did) held c.requires.ready.2 lt refl q.2
          (subst (λ (t : List ℕ). Covers t q.0 c.args.node) c.requires.ready.5 q.3),
    )

pub returns-clause-given : goal.returns-clause-given
returns-clause-given g c =
    let did = (of-one _ _ _ (one-view c.args.place.now.me.0 c.requires.ready.0) c.load.ensures.2.0).0 in
    let back = of-one _ _ _ (ap (λ m. m.0) c.exchange.ensures.3 ∙ did) c.load-in-None.ensures.2.0 in
    hand-free (view_of c.args.place.now.me.0) c.requires.ready.3 back

pub returns-clause-once : goal.returns-clause-once
returns-clause-once g c = (of-one _ _ _ (one-view c.args.place.now.me.0 c.requires.ready.0) c.load.ensures.2.0).1
