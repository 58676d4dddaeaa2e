use Rattle.std.specs.Arc.{arc_value}
use Rattle.granted_calls.specs.Filers.{layout_in}
use Rattle.turns.specs.Words.{entries_in}
use Rattle.granted_calls.specs.shared_waiting.Passes.{known}
use Rattle.lanes.proofs.Owed.{flags-owed}
use Rattle.lanes.proofs.Steps.{flags-told}
use Rattle.lanes.proofs.lane.Lane.set_flags.Goals as goal

pub invariant_of-self : goal.invariant_of-self
invariant_of-self g c =
    let l = c.args.self.now in
    record {
      filer_is = l.filer_is;
      inside = l.inside;
      picked = l.picked;
      share = l.share;
      story =
          flags-told _ _ (layout_in (arc_value l.filer)) l.offer l.index l.count (entries_in l.intake.worker) l.closed.items l.connections c.flag_under.new.connections
          c.args.key
          (known l.intake.pass).put l.intake.outboxes c.args.flags c.flag_under.ensures l.story;
      owes = flags-owed _ _ (layout_in (arc_value l.filer)) l.offer l.index l.count (entries_in l.intake.worker) l.closed.items l.connections c.flag_under.new.connections c.args.key
          (known l.intake.pass).put l.intake.outboxes c.args.flags c.flag_under.ensures l.story l.owes;
    }
