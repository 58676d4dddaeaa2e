use Rattle.std.proofs.Common.{refl}
use Rattle.depot.specs.declared.trial.adding.Change.TheVariants.{Touch}
use Rattle.depot.specs.Words.{machine_of, view}
use Rattle.depot.specs.lemmas.Seats.{begun-with, begun-hand}
use Rattle.depot.proofs.trial.adding.touch.Goals as goal

pub finish-requires-clause-step : goal.finish-requires-clause-step
finish-requires-clause-step g c = (_, begun-with (view c.args.seat.now) (view c.begin.new.seat) _ _ c.in-Ok.ensures.granted, (refl, λ k. refl))

pub finish-requires-clause-hand : goal.finish-requires-clause-hand
finish-requires-clause-hand g c =
    begun-hand (machine_of c.args.seat.now) (view c.args.seat.now) (view c.begin.new.seat) _ _ Touch 0 refl refl c.in-Ok.ensures.granted
    c.in-Ok.ensures.after
