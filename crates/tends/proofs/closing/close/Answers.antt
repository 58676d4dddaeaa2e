use Rattle.std.proofs.Common.{refl, sym, subst}
use Rattle.nfs_model.specs.Tree.{Serial}
use Rattle.depot.specs.Grants.{IsClosed}
use Rattle.depot.specs.Words as depots
use Rattle.depot.specs.Words.{view, IsSeatHere}
use Rattle.parcels.specs.Sets.{serial_parcels}
use Rattle.granted_calls.specs.Served.{filer_behaviour}
use Rattle.granted_calls.specs.Filers.{layout_in, verifier_in}
use Rattle.tends.proofs.Closes.{ends-set}
use Rattle.tends.proofs.closing.close.Goals as goal

pub close-requires-clause-seat : goal.close-requires-clause-seat
close-requires-clause-seat c = subst (λ d. IsSeatHere d c.args.left.seat) (sym c.into_depot.ensures) c.requires.left.seat

pub returns-clause-all : goal.returns-clause-all
returns-clause-all c = record { seen = refl; places = c.close.ensures.history.3; entries = c.close.ensures.entries }

pub returns-clause-ended : goal.returns-clause-ended
returns-clause-ended c =
    let v = view c.args.left.seat in
    ends-set (layout_in c.args.filer) c.args.filer.depot.layout.lawful (verifier_in c.args.filer) v c.requires.left.seat.1.0 c.requires.left.opened
    (record { seen = refl; places = c.close.ensures.history.3; entries = c.close.ensures.entries })
    c.close.result
    (subst (λ d. IsClosed filer_behaviour v (serial_parcels (depots.layout_in d) Serial c.close.result)) c.into_depot.ensures
    c.close.ensures.history)
    c.args.left.hands.items c.requires.left.hands
