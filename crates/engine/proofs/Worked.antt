-- A message that is worked: what it runs on, what it comes to, and the workers after it.
use Rattle.std.proofs.Common.{◌≡◌, ℕ, zero, suc, ◌+◌, ◌<◌, ◌≤◌, Bool, true, false, List, [], ◌∷◌, ◌++◌, length, map, Option, Some, None, refl, sym}
use Rattle.std.proofs.Common.{ap, ◌∙◌, subst, arith}
use Rattle.std.specs.Prelude.{◌^◌, slice_get, slice_set}
use mathlib.Core.Option.{some, some-injective}
use Rattle.nfs_model.specs.Types as types
use Rattle.nfs_model.specs.Types.{Moment, Asked, Ask, Caller}
use Rattle.nfs_model.specs.Tree.{Layout, Affinity}
use Rattle.nfs_model.specs.Server.{Server, opening}
use Rattle.nfs_model.specs.Parts.{Hand}
use Rattle.nfs_model.specs.Serial.Step.{serial}
use Rattle.nfs_model.specs.Replay.{FinishedCall, server_after}
use Rattle.nfs_model.specs.Work as tasks
use Rattle.nfs_model.specs.Work.{Store, Works}
use Rattle.nfs_model.specs.World.{Setup, World, all_running, changed_at, with_running}
use Rattle.nfs_model.specs.World as worlds
use Rattle.nfs_model.specs.Headline.{start, worked_by, server_worked}
use Rattle.nfs_model.specs.Events.Step as steps
use Rattle.nfs_model.specs.Events.Step.{worked}
use Rattle.nfs_values.specs.declared.call.Call.{Call}
use Rattle.nfs_values.specs.Call.{call_of}
use Rattle.nfs_values.specs.Caller.{caller_of}
use Rattle.nfs_values.specs.Reply.{reply_of}
use Rattle.affinity.specs.Affinity.{call_node}
use Rattle.scheduler.specs.declared.message.Message.{Message}
use Rattle.depot_rule.specs.Shares.{too_many}
use Rattle.filer_state.specs.state.Parcels.{FilerParcel}
use Rattle.filer_state.specs.state.Contents.{filer_contents}
use Rattle.filer_state.specs.state.Tree.{server_of}
use Rattle.filer_state.specs.state.Partition.{all_parts}
use Rattle.filer_state.specs.state.Deeds.{stored_all}
use Rattle.filer_state.specs.state.Running.{HasFiler, Runs}
use Rattle.filer_state.specs.state.Jobs as jobs
use Rattle.desk.specs.laws.Books.{Lent, settled, now, stamps, HasLent, IsUnchanged}
use Rattle.desk.specs.laws.Calls.{MayWork, HasWorked}
use Rattle.engine.specs.laws.Store.{FilerBooks, HasOutcome, RunsOn, StandsFor, batches_carried}
use Rattle.engine.specs.laws.Serving.{Serving}
use Rattle.engine.specs.laws.lemmas.Served.{covered-node}
use Rattle.engine.specs.laws.lemmas.Agreeing.{sound-settled}
use Rattle.engine.specs.laws.lemmas.Changing.{lent-at}
use Rattle.service.specs.declared.job.Job.{Job}
use Rattle.service.specs.declared.job.JobReply.{JobReply}
use Rattle.service.specs.declared.outcome.Outcome.{Outcome}
use Rattle.service.specs.declared.outcome.Outcome.TheVariants.{Replied, Starved, Moved}
use Rattle.service.specs.Running.{outcome_of, IsRunAt, MovesOn, AsksFor, HasRunCall}
use Rattle.rpc_msg.specs.Room.{IsRoomy, reply_room}
use Rattle.rpc_msg.specs.Replies as replies
use Rattle.engine_feed.specs.lemmas.Codec.{reply_record_is}
use Rattle.engine_feed.specs.Sound.{IsAdmitted}
use Rattle.engine.specs.declared.worker.Running.{Running}
use Rattle.engine.specs.declared.worker.Worker.{Worker}
use Rattle.engine.specs.declared.worker.WorkerRun.TheVariants.{Begun, Worked}
use Rattle.engine.specs.Seen.{running_as, running_seen, worker_seen, done_of, told_of}
use Rattle.engine.specs.Workers.{worker_with}
use Rattle.rpc_msg.specs.declared.handle_form.HandleForm.{HandleForm}
use Rattle.rpc_msg.specs.Handles.{reply_told}
use Rattle.engine.specs.Sound.{messages_in, running_messages, MayEnd}
use Rattle.engine.proofs.Workers.{seen-ran}

-- ---- the reply fits its room

abbrev pub RoomyBegins : Type 0
RoomyBegins = (layout : Layout) (verifier : List ℕ) → length verifier ≡ 8 → IsRoomy (length layout.volumes) (opening layout verifier)

abbrev pub RoomyStays : Type 0
RoomyStays = (volumes : ℕ) (server : Server) (asked : Asked) (moment : Moment) (starved : Bool)
    → IsRoomy volumes server → IsRoomy volumes (serial server asked moment starved).server

abbrev pub RepliesFit : Type 0
RepliesFit = (form : HandleForm) (volumes : ℕ) (server : Server) (call : types.Call) (caller : Caller) (moment : Moment) (starved : Bool) (xid : ℕ)
    → IsRoomy volumes server
    → length (replies.reply_record xid (reply_told form (serial server (Ask call caller) moment starved).reply)) ≤ reply_room volumes call

module _ (stays : RoomyStays) (volumes : ℕ) where
  roomy-after : (es : List FinishedCall) (server : Server) → IsRoomy volumes server → IsRoomy volumes (server_after server es)
  roomy-after [] server roomy = roomy
  roomy-after (e ∷ es) server roomy =
      roomy-after es (serial server e.asked e.moment e.starved).server (stays volumes server e.asked e.moment e.starved roomy)

  roomy-by : (server : Server) (r : worlds.Running) (o : Option tasks.Outcome) → IsRoomy volumes server → IsRoomy volumes (worked_by server r o)
  roomy-by server r None roomy = roomy
  roomy-by server r (Some (tasks.Replied reply)) roomy = stays volumes server r.message.asked r.moment false roomy
  roomy-by server r (Some tasks.Starved) roomy = roomy
  roomy-by server r (Some (tasks.Moved a)) roomy = roomy

  roomy-worked : (rs : List worlds.Running) (server : Server) → IsRoomy volumes server → IsRoomy volumes (server_worked server rs)
  roomy-worked [] server roomy = roomy
  roomy-worked (r ∷ rs) server roomy = roomy-worked rs (worked_by server r r.outcome) (roomy-by server r r.outcome roomy)

-- each server of a run is roomy
pub roomy-now : RoomyBegins → RoomyStays → (setup : Setup) (w : World) → length setup.verifier ≡ 8
    → w.server ≡ server_worked (server_after (start setup) w.finished) (all_running w.workers) → IsRoomy (length setup.layout.volumes) w.server
roomy-now begins stays setup w eight is =
    let volumes = length setup.layout.volumes in
    subst (λ server. IsRoomy volumes server) (sym is)
    (roomy-worked stays volumes (all_running w.workers) (server_after (start setup) w.finished)
    (roomy-after stays volumes w.finished (start setup) (begins setup.layout setup.verifier eight)))

-- what a message came to may be told
pub may-end : RepliesFit → (layout : Layout) (m : Message Call) → IsAdmitted layout m → (moment : Moment) (store after : Store)
    → IsRoomy (length layout.volumes) store.server → (o : Outcome)
    → Works (record { asked = Ask (call_of m.call) (caller_of m.caller); affinity = call_node m.affinity; moment = moment }) store (outcome_of o)
    after
    → MovesOn layout m.call (outcome_of o) → MayEnd layout m o
may-end fit layout m admitted moment store after roomy (Replied reply) works moves = λ form.
    let call = call_of m.call in
    let xid = m.origin.xid in
    let same : reply_of reply ≡ (serial store.server (Ask call (caller_of m.caller)) moment false).reply = works.1 in
    let spelled = ap (λ bs. length bs) (reply_record_is xid (reply_told form (reply_of reply))) in
    let told = ap (λ x. length (replies.reply_record xid (reply_told form x))) same in
    let fits = fit form (length layout.volumes) store.server call (caller_of m.caller) moment false xid roomy in
    let room = admitted.room in
    omega (arith, spelled, told, fits, room)
may-end fit layout m admitted moment store after roomy Starved works moves = λ form.
    let xid = m.origin.xid in
    let spelled = ap (λ bs. length bs) (reply_record_is xid (reply_told form types.SystemError)) in
    let fits = fit form (length layout.volumes) store.server (call_of m.call) (caller_of m.caller) moment true xid roomy in
    let room = admitted.room in
    omega (arith, spelled, fits, room)
may-end fit layout m admitted moment store after roomy (Moved a) works moves = moves

-- ---- what it runs on

module _ {P : Type 0} (layout : Layout) (r : worlds.Running) (f f' : ℕ → Option (FilerParcel P)) where
  -- a running message that was run under its affinity was served
  runs-serving : (outcome : tasks.Outcome) → Runs layout r.message.affinity r.message.asked r.moment f outcome f'
      → Serving r layout r.message.affinity f outcome f'
  runs-serving (tasks.Replied reply) ran = ran r.message.connection r.message.number r.message.xid
  runs-serving tasks.Starved ran = ran.0 r.message.connection r.message.number r.message.xid
  runs-serving (tasks.Moved other) ran = ((λ k cover. ran.1 k), (λ g hands made under sound. (ran.0 g hands made under sound).0))

  -- the same, where it is told by equations
  serves : (node : Affinity) (asked : Asked) (moment : Moment) (outcome : tasks.Outcome)
      → r.message.affinity ≡ node → r.message.asked ≡ asked → r.moment ≡ moment
      → Runs layout node asked moment f outcome f' → Serving r layout node f outcome f'
  serves node asked moment outcome at asks on ran =
      subst (λ a. Serving r layout a f outcome f') at
      (runs-serving outcome
      (subst (λ a. Runs layout a r.message.asked r.moment f outcome f') (sym at)
      (subst (λ x. Runs layout node x r.moment f outcome f') (sym asks)
      (subst (λ m. Runs layout node asked m f outcome f') (sym on) ran))))

module _ {P C R : Type 0} (setup : Setup) (b : FilerBooks P C R) where
  begun-lent : (o : Option worlds.Running) (r : worlds.Running) (x : Option (Lent (FilerParcel P))) (l : Lent (FilerParcel P)) → o ≡ Some r → r.outcome ≡ None
      → x ≡ Some l → RunsOn setup b o x → (l.affinity ≡ r.message.affinity) × IsUnchanged b l
  begun-lent o r x l runs fresh is run =
      let both : RunsOn setup b (Some r) (Some l) = subst (λ y. RunsOn setup b (Some r) y) is (subst (λ q. RunsOn setup b q x) runs run) in
      (both.0, subst (λ q. HasOutcome setup b r l q) fresh both.1)

  some-lent : (o : Option worlds.Running) (r : worlds.Running) (x : Option (Lent (FilerParcel P))) → o ≡ Some r → RunsOn setup b o x
      → (l : Lent (FilerParcel P)) × (x ≡ Some l)
  some-lent o r None runs run = let no : RunsOn setup b (Some r) None = subst (λ q. RunsOn setup b q None) runs run in absurd no
  some-lent o r (Some l) runs run = (l, refl)

module _ {P C R : Type 0} (job : C → jobs.Job) (told : R → jobs.JobReply) (setup : Setup) (w : World) (b : FilerBooks P C R)
    (s : StandsFor job told setup w b) (i : ℕ) (k : worlds.Worker) (there : slice_get w.workers i ≡ Some k) (r : worlds.Running)
    (runs : k.running ≡ Some r) (fresh : r.outcome ≡ None) where
  -- what a worker was lent for a message that isn't worked
  lent-is : (l : Lent (FilerParcel P)) → HasLent b i l → (l.affinity ≡ r.message.affinity) × IsUnchanged b l
  lent-is l at =
      let found = lent-at setup b w.workers b.lent i k s.workers there in
      begun-lent setup b k.running r found.0 l runs fresh (some-injective found.0 (Some l) (sym found.1 ∙ at)) found.2

  lent-there : (l : Lent (FilerParcel P)) × HasLent b i l
  lent-there =
      let found = lent-at setup b w.workers b.lent i k s.workers there in
      let lent = some-lent setup b k.running r found.0 runs found.2 in
      (lent.0, found.1 ∙ ap some lent.1)

  -- it is some sound filer's
  has-filer : stamps b < too_many → (l : Lent (FilerParcel P)) → HasLent b i l → HasFiler b.layout l.affinity [] l.parcels
  has-filer low l at = (
    settled b,
    batches_carried w.workers,
    batches_carried w.workers,
    stamps b,
    (λ n c.
        let inside = covered-node b.layout s.lawful l.affinity (s.lent.node i l at) n c in
        sym ((lent-is l at).1 n inside.0 inside.1 c)),
    low,
    (λ weigh. refl),
    sound-settled job told setup w b s,
  )

  -- so its call may be served there
  pub may-work : stamps b < too_many → (call : Call) → IsRunAt b.layout call r.message.affinity → MayWork (AsksFor call) b i
  may-work low call at =
      let l = lent-there in record {
        lent = l.0;
        is_lent = l.1;
        fits = (subst (IsRunAt b.layout call) (sym (lent-is l.0 l.1).0) at, has-filer low l.0 l.1);
      }

  -- and what it comes to is what the message's serving does
  pub has-worked : (call : Call) (caller : Caller) (moment : Moment) → r.message.asked ≡ Ask (call_of call) caller → r.moment ≡ moment
      → (o : Outcome) (c : FilerBooks P C R)
      → HasWorked (λ layout node before (x : Outcome) after. HasRunCall call caller moment layout node before x after) b i o c
      → HasWorked (Serving r) b i (outcome_of o) c
  has-worked call caller moment asks on o c h = record {
    lent = h.lent;
    is_lent = h.is_lent;
    parcels = h.parcels;
    did = serves b.layout r h.lent.parcels h.parcels h.lent.affinity (Ask (call_of call) caller) moment (outcome_of o)
        (sym (lent-is h.lent h.is_lent).0) asks on h.did.0;
    books = h.books;
    now_is = h.now_is;
  }

-- ---- the workers

-- a worker that runs the same message
pub running-set : (ks : List Worker) (i : ℕ) (j k : Worker) → slice_get ks i ≡ Some j → messages_in k.run ≡ messages_in j.run
    → running_messages (slice_set ks i k) ≡ running_messages ks
running-set [] i j k there same = refl
running-set (x ∷ ks) zero j k there same =
    let at : x ≡ j = cc in ap (λ ms. ms ++ running_messages ks) (same ∙ ap (λ (x : Worker). messages_in x.run) (sym at))
running-set (x ∷ ks) (suc i) j k there same = ap (λ ms. messages_in x.run ++ ms) (running-set ks i j k there same)

pub few-stamps : (stamps running : ℕ) → stamps + running ≤ 2 ^ 62 + 64 → stamps < too_many
few-stamps stamps running few = omega (arith, few)

-- ---- the world after it

-- what is told is what the model says
pub told-done : (o : Outcome) → done_of (told_of o) ≡ steps.done_of (outcome_of o)
told-done (Replied reply) = refl
told-done Starved = refl
told-done (Moved a) = refl

-- a world with these workers, and what these books stand for
abbrev pub world_with : {P : Type 0} → World → FilerBooks P Job JobReply → List Worker → World
world_with w c ks = record w {
  workers = map worker_seen ks;
  server = server_of (filer_contents c.layout (now c));
  parts = all_parts (filer_contents c.layout (now c));
  stamps = stamps c;
}

pub worked-world : {P : Type 0} (w : World) (c : FilerBooks P Job JobReply) (ks ls : List Worker) (i : ℕ) (r : Running) (o : Outcome) (hand : Hand)
    → w.workers ≡ map worker_seen ks → slice_get ks i ≡ Some (worker_with (Begun r) hand) → ls ≡ slice_set ks i (worker_with (Worked r o) hand)
    → stamps c ≡ w.stamps
    → world_with w c ls ≡ worked w i (running_as r None) (outcome_of o) (stored_all (filer_contents c.layout (now c)))
worked-world w c ks ls i r o hand seen there are same = λ j. record w {
  workers = (ap (λ xs. map worker_seen xs) are ∙ seen-ran ks i (Begun r) (Worked r o) hand there
      ∙ ap (λ xs. changed_at (with_running (running_seen (Worked r o))) xs i) (sym seen)) j;
  server = server_of (filer_contents c.layout (now c));
  parts = all_parts (filer_contents c.layout (now c));
  stamps = same j;
}
