use Rattle.std.proofs.Common.{◌≡◌, ℕ, List, Option, None, sym, ap, subst}
use Rattle.std.specs.Arc.{arc_value}
use Rattle.nfs_model.specs.Tree.{Layout}
use Rattle.rpc_msg.specs.declared.offer.Offer.{Offer}
use Rattle.slab.specs.Slab.{Slab, get}
use Rattle.outboxes.specs.Boxes.{Boxes}
use Rattle.granted_calls.specs.Balance.{FilerEntry}
use Rattle.granted_calls.specs.Messages.{Message}
use Rattle.connections.specs.declared.connection.Connection.{Connection}
use Rattle.connections.specs.Incoming.{Incoming}
use Rattle.connections.specs.Keyed.{Closes}
use Rattle.lanes.specs.Story.{with_closed, Story}
use Rattle.granted_calls.specs.Filers.{layout_in}
use Rattle.turns.specs.Words.{entries_in}
use Rattle.granted_calls.specs.shared_waiting.Passes.{known}
use Rattle.lanes.specs.Written.{WasWritten}
use Rattle.lanes.proofs.Owed.{closes-owed}
use Rattle.lanes.proofs.Steps.{closed-one, closed-told}
use Rattle.lanes.proofs.Written.{written-told}
use Rattle.lanes.proofs.lane.Lane.close.Goals as goal

pub invariant_of-self-in-Some : goal.invariant_of-self-in-Some
invariant_of-self-in-Some g c =
    let l = c.args.self.now in
    let shut = c.close_in.new in
    record {
      filer_is = l.filer_is;
      inside = l.inside;
      picked = l.picked;
      share = l.share;
      story = closed-one _ _ (layout_in (arc_value l.filer)) l.offer l.index l.count (entries_in l.intake.worker) l.connections shut.connections
          c.args.key (known l.intake.pass).put l.intake.outboxes shut.outboxes l.closed.items c.and-self.result.items _ c.in-Some.connection
          c.in-Some.ensures.closes c.in-Some.ensures.connection c.and-self.ensures l.story;
      owes = closes-owed _ _ (layout_in (arc_value l.filer)) l.offer l.index l.count (entries_in l.intake.worker) l.closed.items l.connections
          shut.connections c.args.key (known l.intake.pass).put l.intake.outboxes shut.outboxes _ c.in-Some.ensures.closes l.story l.owes;
    }

pub returns-in-Some-clause-written : goal.returns-in-Some-clause-written
returns-in-Some-clause-written g c =
    let l = c.args.self.now in
    subst (λ device. ∥ WasWritten g.D.Device.written l c.args.key device ∥₁) (sym c.into_device.ensures)
    (written-told l c.args.key _ _ _ c.in-Some.ensures.closes)

-- no connection was open, and nothing changed
closed-none : {D : Type 0} (unread : D → Incoming) (written : D → Option (List ℕ)) (layout : Layout) (offer : Offer) (lane lanes : ℕ)
    (entries : List FilerEntry) (slab slab' : Slab (Connection D)) (key : ℕ) (messages : List Message) (boxes boxes' : Boxes)
    (closed : List (Connection D)) (device : Option D) → Closes slab key boxes (get slab key) device slab' boxes' → None ≡ get slab key
    → ∥ Story unread written layout offer lane lanes entries messages boxes (get slab) closed ∥₁
    → ∥ Story unread written layout offer lane lanes entries messages boxes' (get slab') closed ∥₁
closed-none {D} unread written layout offer lane lanes entries slab slab' key messages boxes boxes' closed device h none t =
    subst (λ (l : List (Connection D)). ∥ Story unread written layout offer lane lanes entries messages boxes' (get slab') l ∥₁)
    (ap (λ (o : Option (Connection D)). with_closed o closed) (sym none))
    (closed-told unread written layout offer lane lanes entries slab slab' key messages boxes boxes' closed device h t)

pub invariant_of-self-in-None : goal.invariant_of-self-in-None
invariant_of-self-in-None g c =
    let l = c.args.self.now in
    let shut = c.close_in.new in
    record {
      filer_is = l.filer_is;
      inside = l.inside;
      picked = l.picked;
      share = l.share;
      story = closed-none _ _ (layout_in (arc_value l.filer)) l.offer l.index l.count (entries_in l.intake.worker) l.connections shut.connections
          c.args.key (known l.intake.pass).put l.intake.outboxes shut.outboxes l.closed.items _ c.in-None.ensures.closes
          c.in-None.ensures.connection l.story;
      owes = closes-owed _ _ (layout_in (arc_value l.filer)) l.offer l.index l.count (entries_in l.intake.worker) l.closed.items l.connections
          shut.connections c.args.key (known l.intake.pass).put l.intake.outboxes shut.outboxes _ c.in-None.ensures.closes l.story l.owes;
    }
