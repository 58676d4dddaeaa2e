use Rattle.std.proofs.Common.{refl, arith}
use Rattle.depot.specs.declared.trial.adding.Change.TheVariants.{Touch}
use Rattle.depot.specs.Words.{machine_of, view}
use Rattle.depot.specs.lemmas.Seats.{begun-with, begun-hand}
use Rattle.depot.proofs.trial.adding.touch_on.Goals as goal

pub loop-call-init : goal.loop-call-init
loop-call-init g c =
    let v = view c.args.seat.now in let w = view c.begin.new.seat in (
      omega arith,
      c.begin.ensures.seat,
      begun-with v w _ _ c.in-Ok.ensures.granted,
      begun-hand (machine_of c.args.seat.now) v w _ _ Touch 0 refl refl c.in-Ok.ensures.granted c.in-Ok.ensures.after,
    )

pub finish-requires-clause-step : goal.finish-requires-clause-step
finish-requires-clause-step g c = (_, c.loop-call.invariant.2, (refl, λ k. refl))

pub finish-requires-clause-hand : goal.finish-requires-clause-hand
finish-requires-clause-hand g c = c.loop-call.invariant.3
