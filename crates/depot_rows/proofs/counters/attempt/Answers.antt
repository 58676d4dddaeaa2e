use Rattle.std.proofs.Common.{refl, sym, subst}
use Rattle.affinity.specs.Affinity.{affinity_of}
use Rattle.parcels.specs.Exact.{HasExactly, kind_in}
use Rattle.depot.specs.declared.trial.adding.Change.TheVariants.{Add}
use Rattle.depot.specs.Words.{machine_of, view, layout_in, node_of}
use Rattle.depot.specs.lemmas.Seats.{begun-with, begun-hand}
use Rattle.depot_rows.specs.Counting.{AddsOne}
use Rattle.depot_rows.proofs.counters.attempt.Goals as goal

pub finish-requires-clause-step : goal.finish-requires-clause-step
finish-requires-clause-step g c =
    let L = layout_in c.args.depot.now in
    let a = affinity_of (node_of c.in-Ok.grant) in (
      _,
      begun-with (view c.args.seat.now) (view c.begin.new.seat) _ _ c.in-Ok.ensures.granted,
      subst (λ h. AddsOne L a (g.N.Node.parcels L a h) c.add_one-sum.result (g.N.Node.parcels L a c.add_one-sum.new.held)) c.held.ensures.value
          (c.add_one-sum.ensures.added L a),
    )

pub finish-requires-clause-exact : goal.finish-requires-clause-exact
finish-requires-clause-exact g c =
    let L = layout_in c.args.depot.now in
    let a = affinity_of (node_of c.in-Ok.grant) in
    c.add_one-sum.ensures.exact L a (subst (λ h. HasExactly kind_in L a (g.N.Node.parcels L a h)) (sym c.held.ensures.value) c.in-Ok.ensures.exact)

pub finish-requires-clause-hand : goal.finish-requires-clause-hand
finish-requires-clause-hand g c =
    begun-hand (machine_of c.args.seat.now) (view c.args.seat.now) (view c.begin.new.seat) _ _ (Add 1) 0 refl refl c.in-Ok.ensures.granted
    c.in-Ok.ensures.after
