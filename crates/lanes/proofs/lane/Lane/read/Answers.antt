use Rattle.std.proofs.Common.{sym, ap, subst, ◌∙◌, List, rules}
use Rattle.std.proofs.Math.Logic.{∥∥₁_map}
use Rattle.std.specs.Arc.{arc_value}
use Rattle.affinity.specs.declared.layout.Layout.{Layout}
use Rattle.slab.specs.Slab.{get}
use Rattle.granted_calls.specs.Balance.{FilerEntry}
use Rattle.granted_calls.specs.Filers.{layout_in}
use Rattle.turns.specs.Words.{entries_in}
use Rattle.granted_calls.specs.shared_waiting.Passes.{known}
use Rattle.granted_calls.specs.Messages.{Message}
use Rattle.granted_calls.specs.declared.shared_waiting.pass.SharedWaiting.{SharedWaiting}
use Rattle.lanes.specs.Owed.{AreOwed}
use Rattle.lanes.specs.Story.{Story}
use Rattle.lanes.proofs.Same.{same-entries, same-inside, same-seats}
use Rattle.lanes.proofs.Owed.{reads-owed}
use Rattle.lanes.proofs.Steps.{reads-keep, reads-told}
use Rattle.lanes.proofs.lane.Lane.read.Goals as goal

pub invariant_of-self : goal.invariant_of-self
invariant_of-self g c =
    let l = c.args.self.now in
    let k = reads-keep _ _ _ _ l.connections c.read_under.new.connections c.args.key l.intake c.read_under.new.intake _
    c.read_under.result c.read_under.ensures in
    let i = c.read_under.new.intake in
    record {
      filer_is = k.0 ∙ l.filer_is;
      inside = ∥∥₁_map l.inside (same-inside (arc_value l.filer) l.intake.queue i.queue l.intake.worker i.worker k.4 i.takes);
      picked = k.2 ∙ l.picked;
      share = k.5 ∙ l.share;
      story = subst (λ (es : List FilerEntry). ∥ Story g.D.Device.unread g.D.Device.written (layout_in (arc_value l.filer)) l.offer l.index l.count es
          (known i.pass).put i.outboxes (get c.read_under.new.connections) l.closed.items ∥₁) (sym (same-entries l.intake.worker i.worker k.4))
          (reads-told _ _ (layout_in (arc_value l.filer)) l.offer l.index l.count (entries_in l.intake.worker) l.closed.items _ l.connections
          c.read_under.new.connections c.args.key l.intake i _ c.read_under.result (search rules) c.read_under.ensures l.story);
      owes = subst (λ (es : List FilerEntry). ∥ AreOwed es (known i.pass).put i.outboxes (get c.read_under.new.connections) ∥₁)
          (sym (same-entries l.intake.worker i.worker k.4))
          (reads-owed _ _ (layout_in (arc_value l.filer)) l.offer l.index l.count (entries_in l.intake.worker) l.closed.items _ l.connections
          c.read_under.new.connections c.args.key l.intake i _ c.read_under.result (search rules) c.read_under.ensures l.story l.owes);
    }

pub returns-clause-identity : goal.returns-clause-identity
returns-clause-identity g c =
    let l = c.args.self.now in
    let k = reads-keep _ _ _ _ l.connections c.read_under.new.connections c.args.key l.intake c.read_under.new.intake _
    c.read_under.result c.read_under.ensures in
    ap (λ (q : SharedWaiting Message Layout). ((l.index, l.count), l.offer, q)) k.1

pub returns-clause-worker : goal.returns-clause-worker
returns-clause-worker g c =
    let l = c.args.self.now in
    (reads-keep _ _ _ _ l.connections c.read_under.new.connections c.args.key l.intake c.read_under.new.intake _
    c.read_under.result c.read_under.ensures).4

pub returns-clause-seats : goal.returns-clause-seats
returns-clause-seats g c =
    let l = c.args.self.now in
    let k = reads-keep _ _ _ _ l.connections c.read_under.new.connections c.args.key l.intake c.read_under.new.intake _
    c.read_under.result c.read_under.ensures in
    same-seats l.intake.worker c.read_under.new.intake.worker k.4
