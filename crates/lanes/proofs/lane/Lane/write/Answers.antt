use Rattle.std.specs.Arc.{arc_value}
use Rattle.granted_calls.specs.Filers.{layout_in}
use Rattle.turns.specs.Words.{entries_in}
use Rattle.granted_calls.specs.shared_waiting.Passes.{known}
use Rattle.lanes.proofs.Owed.{writes-owed}
use Rattle.lanes.proofs.Steps.{writes-told}
use Rattle.lanes.proofs.lane.Lane.write.Goals as goal

pub invariant_of-self-2 : goal.invariant_of-self-2
invariant_of-self-2 g c =
    let l = c.args.self.now in
    record {
      filer_is = l.filer_is;
      inside = l.inside;
      picked = l.picked;
      share = l.share;
      story = writes-told _ _ (layout_in (arc_value l.filer)) l.offer l.index l.count (entries_in l.intake.worker) l.closed.items l.connections c.write_in.new.connections
          c.args.key
          (known l.intake.pass).put l.intake.outboxes c.write_in.new.outboxes c.write_in.result c.write_in.ensures l.story;
      owes = writes-owed _ _ (layout_in (arc_value l.filer)) l.offer l.index l.count (entries_in l.intake.worker) l.closed.items l.connections c.write_in.new.connections c.args.key
          (known l.intake.pass).put l.intake.outboxes c.write_in.new.outboxes c.write_in.result c.write_in.ensures l.story l.owes;
    }
