use Rattle.std.proofs.Common.{◌+◌, ◌%◌, refl, sym, ap}
use Rattle.affinity.specs.Affinity.{affinity_of}
use Rattle.depot.specs.Words.{view, layout_in, node_of, held_in}
use Rattle.depot.specs.lemmas.Seats.{begun-with, begun-hand}
use Rattle.depot.specs.declared.trial.adding.Change.TheVariants.{Add}
use Rattle.depot.specs.trial.lemmas.Stripes.{stripe-changed, stripe-added}
use Rattle.depot.proofs.trial.adding.add.Goals as goal

pub finish-requires-clause-step : goal.finish-requires-clause-step
finish-requires-clause-step c =
    let L = layout_in c.args.depot.now in let grant = c.in-Ok.grant in let v = view c.begin.new.seat in
    let sum = (c.held-held.result.now.own + c.args.number) % 18446744073709551616 in (
      _,
      begun-with (view c.args.seat.now) v _ _ c.in-Ok.ensures.granted,
      stripe-added L (affinity_of (node_of grant)) (held_in grant) (record { own = sum }) v.tree c.args.number sum refl
          (ap (λ h. (h.own + c.args.number) % 18446744073709551616) (sym c.held-held.ensures.value)),
    )

pub finish-requires-clause-hand : goal.finish-requires-clause-hand
finish-requires-clause-hand c =
    begun-hand _ (view c.args.seat.now) (view c.begin.new.seat) _ _ (Add c.args.number) 0 refl refl c.in-Ok.ensures.granted c.in-Ok.ensures.after

pub finish-requires-clause-exact : goal.finish-requires-clause-exact
finish-requires-clause-exact c = stripe-changed (layout_in c.args.depot.now) (affinity_of (node_of c.in-Ok.grant)) (held_in c.in-Ok.grant) _
    c.in-Ok.ensures.exact
