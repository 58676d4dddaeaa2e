use Rattle.std.proofs.Common.{refl, sym, subst}
use Rattle.depot.specs.Grants.{HasWith, HasInHand}
use Rattle.depot.specs.declared.trial.adding.Change.TheVariants.{Touch}
use Rattle.depot.specs.Words.{machine_of, view, layout_in, number_in, parcels_in}
use Rattle.depot.specs.lemmas.Seats.{gone-with, begun-hand}
use Rattle.depot.proofs.trial.adding.touch_again.Goals as goal

pub go_on-requires-clause-step : goal.go_on-requires-clause-step
go_on-requires-clause-step g c = (_, c.requires.granted, (refl, λ k. refl))

pub returns-in-Ok-clause-granted : goal.returns-in-Ok-clause-granted
returns-in-Ok-clause-granted g c =
    gone-with (machine_of c.args.seat.now) (view c.args.seat.now) (view c.go_on.new.seat) _ _ _ c.in-Ok.ensures.gone_on

pub returns-in-Ok-clause-hand : goal.returns-in-Ok-clause-hand
returns-in-Ok-clause-hand g c =
    let gone = c.in-Ok.ensures.gone_on in
    begun-hand (machine_of c.args.seat.now) gone.0 (view c.go_on.new.seat) _ _ Touch 0 refl refl gone.2 gone.3

pub returns-in-Err-clause-granted : goal.returns-in-Err-clause-granted
returns-in-Err-clause-granted g c =
    let L = layout_in c.args.depot.now in
    subst (λ v. HasWith v (number_in L c.args.grant.now) (parcels_in g.N.Node.parcels L c.args.grant.now)) (sym c.in-Err.ensures.refused.1.2)
    c.requires.granted

pub returns-in-Err-clause-hand : goal.returns-in-Err-clause-hand
returns-in-Err-clause-hand g c =
    subst (λ v. HasInHand (machine_of c.args.seat.now) v Touch 0) (sym c.in-Err.ensures.refused.1.2) c.requires.hand
