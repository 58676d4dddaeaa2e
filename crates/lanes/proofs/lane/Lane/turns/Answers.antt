use Rattle.std.proofs.Common.{◌≡◌, sym, ap, subst, ◌∙◌, rules}
use Rattle.std.proofs.Math.Logic.{∥∥₁_map}
use Rattle.std.specs.Arc.{arc_value}
use Rattle.slab.specs.Slab.{get}
use Rattle.granted_calls.specs.Balance.{Passed}
use Rattle.lanes.specs.Owed.{AreOwed}
use Rattle.affinity.specs.declared.layout.Layout.{Layout}
use Rattle.granted_calls.specs.Chains.{HasPutAll, HasTurnedOn}
use Rattle.rpc_msg.specs.Offer.{form_of}
use Rattle.granted_calls.specs.Telling.{TookTold}
use Rattle.turns.specs.Turns.{standing_of}
use Rattle.granted_calls.specs.Filers.{layout_in}
use Rattle.turns.specs.Words.{entries_in, IsAt}
use Rattle.granted_calls.specs.shared_waiting.Passes.{known}
use Rattle.granted_calls.specs.Messages.{Message}
use Rattle.granted_calls.specs.declared.shared.Filer.{Filer}
use Rattle.granted_calls.specs.declared.shared_waiting.pass.SharedWaiting.{SharedWaiting}
use Rattle.lanes.proofs.Inside.{at-inside}
use Rattle.lanes.proofs.Owed.{owed-turns}
use Rattle.lanes.proofs.Steps.{put-kept, turns-told}
use Rattle.lanes.proofs.lane.Lane.turns.Goals as goal

pub turns-requires-clause-inside : goal.turns-requires-clause-inside
turns-requires-clause-inside g c =
    let l = c.args.self.now in
    let same : c.deref.result.now ≡ arc_value l.filer = search rules in
    subst (λ (f : Filer). IsAt f l.intake.queue l.intake.worker) (sym same)
    (at-inside (arc_value l.filer) l.intake.queue l.intake.worker l.inside)

pub invariant_of-self : goal.invariant_of-self
invariant_of-self g c =
    let l = c.args.self.now in
    let i = c.turns.new.self in
    let same : c.deref.result.now ≡ arc_value l.filer = search rules in
    record {
      filer_is = c.turns.ensures.filer ∙ l.filer_is;
      inside = ∣ subst (λ (f : Filer). IsAt f i.queue i.worker) same c.turns.ensures.inside ∣₁;
      picked = ap (λ v. v.picked) c.turns.ensures.pass ∙ l.picked;
      share = c.turns.ensures.most ∙ l.share;
      story = put-kept _ _ (layout_in (arc_value l.filer)) l.offer l.index l.count (entries_in i.worker) i.outboxes _ l.closed.items l.intake.pass i.pass
          c.turns.ensures.pass
          (turns-told _ _ (layout_in (arc_value l.filer)) l.offer l.index l.count (known l.intake.pass).put _ l.closed.items c.args.moment
          (standing_of l.intake.worker) l.intake.outboxes i.outboxes c.turns.result (standing_of i.worker)
          (subst (λ (f : Filer). HasTurnedOn (TookTold (form_of l.offer) HasPutAll) (layout_in f) (standing_of l.intake.worker) c.args.moment l.intake.outboxes
          c.turns.result i.outboxes (standing_of i.worker)) same
          (subst (λ form. HasTurnedOn (TookTold form HasPutAll) (layout_in c.deref.result.now) (standing_of l.intake.worker) c.args.moment
          l.intake.outboxes c.turns.result i.outboxes (standing_of i.worker)) c.handles-handles.ensures c.turns.ensures.turned)) c.turns.ensures.once l.story);
      owes = subst (λ (v : Passed). ∥ AreOwed (entries_in i.worker) v.put i.outboxes (get l.connections) ∥₁) (sym c.turns.ensures.pass)
          (∥∥₁_map l.owes (owed-turns (known l.intake.pass).put (get l.connections) (form_of l.offer) c.args.moment (layout_in (arc_value l.filer))
          (standing_of l.intake.worker) l.intake.outboxes i.outboxes c.turns.result (standing_of i.worker)
          (subst (λ (f : Filer). HasTurnedOn (TookTold (form_of l.offer) HasPutAll) (layout_in f) (standing_of l.intake.worker) c.args.moment l.intake.outboxes
          c.turns.result i.outboxes (standing_of i.worker)) same
          (subst (λ form. HasTurnedOn (TookTold form HasPutAll) (layout_in c.deref.result.now) (standing_of l.intake.worker) c.args.moment
          l.intake.outboxes c.turns.result i.outboxes (standing_of i.worker)) c.handles-handles.ensures c.turns.ensures.turned))));
    }

pub returns-clause-turned : goal.returns-clause-turned
returns-clause-turned g c =
    let l = c.args.self.now in
    let i = c.turns.new.self in
    let same : c.deref.result.now ≡ arc_value l.filer = search rules in
    subst (λ (f : Filer). HasTurnedOn (TookTold (form_of l.offer) HasPutAll) (layout_in f) (standing_of l.intake.worker) c.args.moment l.intake.outboxes
    c.turns.result i.outboxes (standing_of i.worker)) same
    (subst (λ form. HasTurnedOn (TookTold form HasPutAll) (layout_in c.deref.result.now) (standing_of l.intake.worker) c.args.moment
    l.intake.outboxes c.turns.result i.outboxes (standing_of i.worker)) c.handles-handles.ensures c.turns.ensures.turned)

pub returns-clause-identity : goal.returns-clause-identity
returns-clause-identity g c =
    let l = c.args.self.now in
    ap (λ (q : SharedWaiting Message Layout). ((l.index, l.count), l.offer, q)) c.turns.ensures.queue
