use Rattle.std.specs.Arc.{arc_value}
use Rattle.granted_calls.specs.Filers.{layout_in}
use Rattle.turns.specs.Words.{entries_in}
use Rattle.granted_calls.specs.shared_waiting.Passes.{known}
use Rattle.lanes.proofs.Owed.{opens-owed}
use Rattle.lanes.proofs.Steps.{opens-told}
use Rattle.lanes.proofs.lane.Lane.open.Goals as goal

pub invariant_of-self-2 : goal.invariant_of-self-2
invariant_of-self-2 g c =
    let l = c.args.self.now in
    let o = c.open_in in
    record {
      filer_is = l.filer_is;
      inside = l.inside;
      picked = l.picked;
      share = l.share;
      story = opens-told _ _ (layout_in (arc_value l.filer)) l.offer l.index l.count (entries_in l.intake.worker) l.closed.items l.connections o.new.connections
          c.args.device c.args.peer o.result (known l.intake.pass).put l.intake.outboxes o.new.outboxes o.ensures.opens o.ensures.vacant o.ensures.begins l.story;
      owes = opens-owed _ _ (layout_in (arc_value l.filer)) l.offer l.index l.count (entries_in l.intake.worker) l.closed.items l.connections o.new.connections
          c.args.device c.args.peer o.result (known l.intake.pass).put l.intake.outboxes o.new.outboxes o.ensures.opens o.ensures.begins l.story l.owes;
    }
