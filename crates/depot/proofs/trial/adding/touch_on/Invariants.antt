use Rattle.std.proofs.Common.{◌≤◌}
use Rattle.depot.specs.Grants.{HasWith, HasInHand}
use Rattle.depot.specs.declared.trial.adding.Change.TheVariants.{Touch}
use Rattle.depot.specs.Words.{machine_of, view, layout_in, number_in, parcels_in, IsSeatHere}
use Rattle.depot.proofs.trial.adding.touch_on.Given as goal

abbrev pub invariant-loop-call : goal.invariant-loop-call
invariant-loop-call g l = (l.refused ≤ l._call) × IsSeatHere l.depot l.seat
    × HasWith (view l.seat) (number_in (layout_in l.depot) l.grant) (parcels_in g.N.Node.parcels (layout_in l.depot) l.grant)
    × HasInHand (machine_of l.seat) (view l.seat) Touch 0
