-- A message that was worked: what it was lent, and what it came to.
use Rattle.std.proofs.Common.{◌≡◌, ℕ, ◌≤◌, Bool, true, false, length, Option, Some, None, refl, sym, ap, ◌∙◌, subst, ◌⊎◌, ⊎_elim}
use Rattle.std.specs.Prelude.{slice_get}
use mathlib.Core.Option.{some}
use Rattle.nfs_model.specs.Types as types
use Rattle.nfs_model.specs.World as worlds
use Rattle.nfs_model.specs.World.{Setup, World, changed_at, finish}
use Rattle.nfs_model.specs.Replay as replays
use Rattle.nfs_model.specs.Tree.{Layout}
use Rattle.nfs_model.specs.Server.{Server}
use Rattle.nfs_model.specs.Replay.{step_of}
use Rattle.nfs_model.specs.Headline.{worked_by}
use Rattle.nfs_model.specs.Events.Refusals.{Written, is_open}
use Rattle.nfs_model.specs.Events.Step.{finished_call, finished_by, stamp_added, without_call, told_of, bytes_of_reply}
use Rattle.nfs_values.specs.declared.call.Call.{Call}
use Rattle.nfs_values.specs.declared.reply.Reply.{Reply}
use Rattle.nfs_values.specs.declared.reply.Reply.TheVariants.{Refused}
use Rattle.nfs_values.specs.declared.reply.Refusal.TheVariants.{SystemError}
use Rattle.nfs_values.specs.Reply.{reply_of}
use Rattle.scheduler.specs.declared.message.Message.{Message}
use Rattle.filer_state.specs.state.Contents.{filer_contents}
use Rattle.filer_state.specs.state.Tree.{server_of}
use Rattle.filer_state.specs.state.Partition.{all_parts}
use Rattle.filer_state.specs.state.Parcels.{FilerParcel}
use Rattle.filer_state.specs.state.Jobs.{Job, JobReply}
use Rattle.desk.specs.laws.Books.{Lent, HasLent, IsSame, now}
use Rattle.engine.specs.laws.lemmas.Beginning.{same-now}
use Rattle.engine.specs.laws.Store.{FilerBooks, IsServed, HasOutcome, RunsOn, StandsFor}
use Rattle.engine.specs.laws.lemmas.Changing.{lent-at}
use Rattle.service.specs.declared.outcome.Outcome.{Outcome}
use Rattle.service.specs.declared.outcome.Outcome.TheVariants.{Replied, Starved}
use Rattle.service.specs.Running.{outcome_of}
use Rattle.engine_feed.specs.Codec.{reply_record}
use Rattle.engine_feed.specs.declared.state.CallsState.{CallsState}
use Rattle.engine_feed.specs.declared.state.ConnectionState.{ConnectionState}
use Rattle.engine_feed.specs.Within.{Shows, with_calls}
use Rattle.engine_feed.specs.Words.{FinishesUnseen}
use Rattle.engine_feed.specs.lemmas.Lists.{put-same}
use Rattle.engine.specs.Connections.{Open, Closed}
use Rattle.engine.specs.declared.connection.ClosedConnection.{ClosedConnection}
use Rattle.rpc_msg.specs.declared.handle_form.HandleForm.{HandleForm}
use Rattle.rpc_msg.specs.Handles.{reply_told}
use Rattle.engine.specs.Sound.{MayEnd}
use Rattle.engine.specs.Seen.{connection_seen}

-- an open connection is one
pub same-open : (x y : ConnectionState) → Open x ≡ Open y → x ≡ y
same-open x y e = cc

-- and a closed one is none
pub closed-open : (k : ClosedConnection) (x : ConnectionState) → Closed k ≡ Open x → ⊥
closed-open k x e = absurd cc

-- a message of a closed connection is finished
pub closed-ends : (calls calls' : CallsState) (e : replays.FinishedCall) (k : ClosedConnection) → FinishesUnseen calls e calls'
    → (setup : Setup) (w : World) (reply : types.Reply) → Shows calls w → slice_get w.connections e.connection ≡ Some (connection_seen (Closed k))
    → record (with_calls calls' w) { connections = changed_at (λ (x : worlds.Connection). connection_seen (Closed k)) w.connections e.connection }
    ≡ finish setup w e reply
closed-ends calls calls' e k unseen setup w reply shows there =
    ap (λ cs. record (with_calls calls' w) { connections = cs }) (put-same (connection_seen (Closed k)) w.connections e.connection there)
    ∙ unseen setup w reply shows (ap is_open there)

-- ---- what a worked message was lent

module _ {P C R : Type 0} (job : C → Job) (told : R → JobReply) (setup : Setup) (w : World) (b : FilerBooks P C R) (s : StandsFor job told setup w b)
    (i : ℕ) (k : worlds.Worker) (there : slice_get w.workers i ≡ Some k) (r : worlds.Running) (runs : k.running ≡ Some r) where
  lent-of : (x : Option (Lent (FilerParcel P))) → RunsOn setup b (Some r) x → (l : Lent (FilerParcel P)) × (x ≡ Some l)
  lent-of None run = absurd run
  lent-of (Some l) run = (l, refl)

  -- it was lent something
  pub lent-here : (l : Lent (FilerParcel P)) × HasLent b i l
  lent-here =
      let at = lent-at setup b w.workers b.lent i k s.workers there in
      let l = lent-of at.0 (subst (λ q. RunsOn setup b q at.0) runs at.2) in
      (l.0, at.1 ∙ ap some l.1)

-- what a message came to, as a reply: one of its own, or SYSTEM_ERR where it was starved
abbrev pub ToldAs : Outcome → Reply → Bool → Type 0
ToldAs outcome reply starved = ((outcome ≡ Replied reply) × (starved ≡ false)) ⊎ ((outcome ≡ Starved) × (reply ≡ Refused SystemError) × (starved ≡ true))

module _ {P C R : Type 0} (setup : Setup) (b : FilerBooks P C R) (r : worlds.Running) (l : Lent (FilerParcel P)) where
  -- what it was lent was left so by its entry
  pub served-as : (outcome : Outcome) (reply : Reply) (starved : Bool) → ToldAs outcome reply starved → HasOutcome setup b r l (Some (outcome_of outcome))
      → IsServed b l (finished_call r starved) (reply_of reply)
  served-as outcome reply starved is did = ⊎_elim
      (λ (t : (outcome ≡ Replied reply) × (starved ≡ false)).
      subst (λ x. IsServed b l (finished_call r x) (reply_of reply)) (sym t.1)
      (subst (λ x. HasOutcome setup b r l (Some (outcome_of x))) t.0 did))
      (λ (t : (outcome ≡ Starved) × (reply ≡ Refused SystemError) × (starved ≡ true)).
      subst (λ x. IsServed b l (finished_call r x) (reply_of reply)) (sym t.2)
      (subst (λ x. IsServed b l (finished_call r true) (reply_of x)) (sym t.1)
      (subst (λ x. HasOutcome setup b r l (Some (outcome_of x))) t.0 did)))
      is

-- the reply fits its room
pub fits-as : (layout : Layout) (m : Message Call) (outcome : Outcome) (reply : Reply) (starved : Bool) → ToldAs outcome reply starved
    → MayEnd layout m outcome → (form : HandleForm) → length (reply_record m.origin.xid (reply_told form (reply_of reply))) ≤ m.room
fits-as layout m outcome reply starved is may form = ⊎_elim
    (λ (t : (outcome ≡ Replied reply) × (starved ≡ false)). subst (MayEnd layout m) t.0 may form)
    (λ (t : (outcome ≡ Starved) × (reply ≡ Refused SystemError) × (starved ≡ true)).
    subst (λ (x : Reply). length (reply_record m.origin.xid (reply_told form (reply_of x))) ≤ m.room) (sym t.1) (subst (MayEnd layout m) t.0 may form))
    is

-- the model finishes it so
pub finished-as : (setup : Setup) (w : World) (i : ℕ) (r : worlds.Running) (outcome : Outcome) (reply : Reply) (starved : Bool) → ToldAs outcome reply starved
    → finished_by setup w i r (outcome_of outcome) ≡ finish setup (stamp_added (without_call w i)) (finished_call r starved) (reply_of reply)
finished-as setup w i r outcome reply starved is = ⊎_elim
    (λ (t : (outcome ≡ Replied reply) × (starved ≡ false)).
    ap (λ x. finished_by setup w i r (outcome_of x)) t.0
    ∙ ap (λ x. finish setup (stamp_added (without_call w i)) (finished_call r x) (reply_of reply)) (sym t.1))
    (λ (t : (outcome ≡ Starved) × (reply ≡ Refused SystemError) × (starved ≡ true)).
    ap (λ x. finished_by setup w i r (outcome_of x)) t.0
    ∙ (λ j. finish setup (stamp_added (without_call w i)) (finished_call r (sym t.2 j)) (reply_of (sym t.1 j))))
    is

-- and tells this many bytes
pub told-as : (setup : Setup) (w : World) (r : worlds.Running) (outcome : Outcome) (reply : Reply) (starved : Bool) → ToldAs outcome reply starved
    → told_of setup w r (outcome_of outcome) ≡ Written r.message.connection (length (bytes_of_reply setup w r.message (reply_of reply)))
told-as setup w r outcome reply starved is = ⊎_elim
    (λ (t : (outcome ≡ Replied reply) × (starved ≡ false)). ap (λ x. told_of setup w r (outcome_of x)) t.0)
    (λ (t : (outcome ≡ Starved) × (reply ≡ Refused SystemError) × (starved ≡ true)).
    ap (λ x. told_of setup w r (outcome_of x)) t.0
    ∙ ap (λ (x : Reply). Written r.message.connection (length (bytes_of_reply setup w r.message (reply_of x)))) (sym t.1))
    is

-- the server leaves it so
pub left-as : (r : worlds.Running) (outcome : Outcome) (reply : Reply) (starved : Bool) → ToldAs outcome reply starved
    → (server : Server) → worked_by server r (Some (outcome_of outcome)) ≡ (step_of server (finished_call r starved)).server
left-as r outcome reply starved is server = ⊎_elim
    (λ (t : (outcome ≡ Replied reply) × (starved ≡ false)).
    ap (λ x. worked_by server r (Some (outcome_of x))) t.0 ∙ ap (λ x. (step_of server (finished_call r x)).server) (sym t.1))
    (λ (t : (outcome ≡ Starved) × (reply ≡ Refused SystemError) × (starved ≡ true)).
    ap (λ x. worked_by server r (Some (outcome_of x))) t.0 ∙ ap (λ x. (step_of server (finished_call r x)).server) (sym t.2))
    is

-- ---- what calls run on

module _ {P C R : Type 0} (b c : FilerBooks P C R) (layout : c.layout ≡ b.layout) (same : IsSame b c) where
  pub server-kept : server_of (filer_contents c.layout (now c)) ≡ server_of (filer_contents b.layout (now b))
  server-kept = λ j. server_of (filer_contents (layout j) (same-now b c same j))

  pub parts-kept : all_parts (filer_contents c.layout (now c)) ≡ all_parts (filer_contents b.layout (now b))
  parts-kept = λ j. all_parts (filer_contents (layout j) (same-now b c same j))
