use Rattle.std.proofs.Common.{sym, subst}
use Rattle.nfs_model.specs.Tree.{Layout, Serial}
use Rattle.affinity.specs.Layout.{layout_of}
use Rattle.parcels.specs.Sets.{serial_parcels}
use Rattle.depot.specs.Words.{view}
use Rattle.granted_calls.specs.Filers.{IsReady}
use Rattle.granted_calls.proofs.Started.{started-ready}
use Rattle.granted_calls.proofs.opening.open.Goals as goal

pub returns-clause-ready : goal.returns-clause-ready
returns-clause-ready c =
    let L = layout_of c.args.layout in
    subst (λ (x : Layout). IsReady x c.args.verifier.0 (view c.in-Ok.seat)) (sym c.in-Ok.ensures.made.0)
    (started-ready L c.args.verifier.0 (serial_parcels L Serial c.in_ok-parcels.parcels) (view c.in-Ok.seat) c.in-Ok.ensures.made.1
    c.in_ok-parcels.ensures.opening)
