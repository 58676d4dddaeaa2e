use Rattle.affinity.specs.Affinity.{affinity_of}
use Rattle.affinity.specs.Layout.{layout_of}
use Rattle.depot_rule.specs.Seats.{view_of}
use Rattle.depot.specs.Words.{served_by}
use Rattle.depot.proofs.Ended.{stamp-step, stamp-hand}
use Rattle.depot.proofs.homing.stamp_call.Goals as goal

pub stamp_as-requires-clause-step : goal.stamp_as-requires-clause-step
stamp_as-requires-clause-step g c =
    stamp-step (served_by g.M.Machine) (layout_of c.args.layout.now) (affinity_of c.args.grant.now.affinity) (view_of c.args.place.now.me.0)
    (g.C.Entered.entered c.args.call.now) (g.A.Entered.entered c.args.reply.now)
    (g.N.Node.parcels (layout_of c.args.layout.now) (affinity_of c.args.grant.now.affinity) c.args.grant.now.held) _ c.requires.tree c.requires.said
    c.requires.step

pub stamp_as-requires-clause-hand : goal.stamp_as-requires-clause-hand
stamp_as-requires-clause-hand g c =
    stamp-hand (served_by g.M.Machine) (layout_of c.args.layout.now) (affinity_of c.args.grant.now.affinity) (view_of c.args.place.now.me.0)
    (g.C.Entered.entered c.args.call.now) (g.A.Entered.entered c.args.reply.now)
    (g.N.Node.parcels (layout_of c.args.layout.now) (affinity_of c.args.grant.now.affinity) c.args.grant.now.held) _ c.requires.said c.requires.hand
