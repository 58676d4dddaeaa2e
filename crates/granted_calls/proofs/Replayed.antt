-- Each reply of a history of a filer's depot fits its room.
use Rattle.std.proofs.Common.{◌≡◌, ℕ, ◌≤◌, Bool, true, false, List, [], ◌∷◌, length, Option, None, refl, sym, ap, subst, arith}
use Rattle.nfs_model.specs.Types as types
use Rattle.nfs_model.specs.Types.{Asked, Ask, Moment, Caller, SystemError}
use Rattle.nfs_model.specs.Tree.{Layout, Affinity}
use Rattle.nfs_model.specs.Server.{Server, opening}
use Rattle.nfs_model.specs.Serial.Step.{serial}
use Rattle.nfs_model.specs.Replay.{FinishedCall, server_after}
use Rattle.affinity.specs.Ancestors.{Covers}
use Rattle.affinity.specs.Fault.{fault_of}
use Rattle.affinity.specs.Numbers.{number_of, parents}
use Rattle.affinity.specs.Tree.{IsNode}
use Rattle.affinity.specs.lemmas.Alike.{alike}
use Rattle.depot_rule.specs.declared.view.Entry.{Entry}
use Rattle.depot_rule.specs.History.{behaviour, after, listed, patched, Legal, SoundThroughout, SoundHistory}
use Rattle.filer_state.specs.state.Parcels.{FilerParcel}
use Rattle.filer_state.specs.state.Tree.{tree}
use Rattle.filer_state.specs.state.Opening.{AreOpening}
use Rattle.filer_state.specs.state.Sound.{AreSound, AllSound, IsFiler}
use Rattle.filer_state.specs.state.Jobs as jobs
use Rattle.filer_state.specs.state.Jobs.{Serve}
use Rattle.filer_state.specs.state.Running.{Enters, finished_at}
use Rattle.filer_state.specs.laws.lemmas.Alike.{filer-same}
use Rattle.filer_state.specs.laws.lemmas.Lawful.{steps-local, entry-does}
use Rattle.filer_state.specs.laws.lemmas.Opening.{opening-tree}
use Rattle.outboxes.specs.Messages as replies
use Rattle.outboxes.specs.Messages.{record_of}
use Rattle.outboxes.specs.lemmas.Messages.{record_is}
use Rattle.rpc_msg.specs.declared.handle_form.HandleForm.{HandleForm}
use Rattle.rpc_msg.specs.Handles.{reply_told}
use Rattle.rpc_msg.specs.Replies.{reply_record}
use Rattle.rpc_msg.specs.Room.{IsRoomy, reply_room}
use Rattle.service.specs.Jobs.{job_steps, job_takes, job_gives}
use Rattle.service.specs.declared.job.Job.{Job}
use Rattle.service.specs.declared.job.JobReply.{JobReply}
use Rattle.granted_calls.specs.Logs.{calls_in}
use Rattle.granted_calls.specs.lemmas.Logs.{log-replays}

-- ---- rooms

abbrev pub RoomyBegins : Type 0
RoomyBegins = (layout : Layout) (verifier : List ℕ) → length verifier ≡ 8 → IsRoomy (length layout.volumes) (opening layout verifier)

abbrev pub RoomyStays : Type 0
RoomyStays = (volumes : ℕ) (server : Server) (asked : Asked) (moment : Moment) (starved : Bool)
    → IsRoomy volumes server → IsRoomy volumes (serial server asked moment starved).server

abbrev pub RepliesFit : Type 0
RepliesFit = (form : HandleForm) (volumes : ℕ) (server : Server) (call : types.Call) (caller : Caller) (moment : Moment) (starved : Bool) (xid : ℕ)
    → IsRoomy volumes server → length (reply_record xid (reply_told form (serial server (Ask call caller) moment starved).reply)) ≤ reply_room volumes call

roomy-after : RoomyStays → (volumes : ℕ) (es : List FinishedCall) (server : Server) → IsRoomy volumes server → IsRoomy volumes (server_after server es)
roomy-after stays volumes [] server roomy = roomy
roomy-after stays volumes (e ∷ es) server roomy =
    roomy-after stays volumes es (serial server e.asked e.moment e.starved).server (stays volumes server e.asked e.moment e.starved roomy)

module _ {P : Type 0} (layout : Layout) (lawful : fault_of layout ≡ None) (verifier : List ℕ) (eight : length verifier ≡ 8)
    (begins : RoomyBegins) (stays : RoomyStays) (fit : RepliesFit) where
  log-roomy : (f : ℕ → Option (FilerParcel P)) → AreOpening layout verifier f → (es : List (Entry (FilerParcel P) Job JobReply))
      → Legal job_steps (parents layout) f es → SoundThroughout (behaviour job_steps job_takes job_gives IsFiler) (parents layout) f es
      → IsRoomy (length layout.volumes) (tree layout (after (parents layout) f es))
  log-roomy f opened es legal sound =
      subst (λ (s : Server). IsRoomy (length layout.volumes) s) (sym (log-replays layout lawful f es legal sound).server)
      (roomy-after stays (length layout.volumes) (calls_in es) (tree layout f)
      (subst (λ (s : Server). IsRoomy (length layout.volumes) s) (sym (opening-tree layout lawful verifier f opened)) (begins layout verifier eight)))

  -- the reply to a call that ran on parcels that a history left fits the room of the call
  pub reply-fits : (first : List (Option (FilerParcel P))) → AreOpening layout verifier (listed first)
      → (seen : List (Entry (FilerParcel P) Job JobReply)) (mine : List ℕ) (log : List (Entry (FilerParcel P) Job JobReply))
      → SoundHistory (behaviour job_steps job_takes job_gives IsFiler) (parents layout) first seen mine log
      → (node : Affinity) → IsNode layout node → (f f' : ℕ → Option (FilerParcel P))
      → ((k : ℕ) → Covers (parents layout) (number_of layout node) k → after (parents layout) (listed first) log k ≡ f k)
      → (call : types.Call) (caller : Caller) (moment : Moment) (xid : ℕ) (reply : types.Reply)
      → Enters layout node (Ask call caller) moment false f (jobs.Replied reply) f'
      → (form : HandleForm) → length (record_of (replies.message xid (reply_told form reply))) ≤ reply_room (length layout.volumes) call
  reply-fits first opened seen mine log history node there f f' under call caller moment xid reply enters form =
      let ps : List ℕ = parents layout in
      let g : ℕ → Option (FilerParcel P) = after ps (listed first) log in
      let job = Serve (finished_at node (Ask call caller) moment 0 0 xid false) in
      let step = (steps-local ps (number_of layout node) job f g (jobs.Replied reply) f' (enters 0 0 xid)).1 under in
      let sound : AllSound layout g history.hands (length log) =
      subst (λ c. AreSound c history.hands (length log)) (filer-same history.sound.0 layout (alike history.sound.0 layout history.sound.1.1) g)
      history.sound.2 in
      let did = entry-does layout lawful node there job (jobs.Replied reply) g (patched ps (number_of layout node) f' g) history.hands history.hands
      (length log) step sound (λ weigh. refl) in
      let same : reply ≡ (serial (tree layout g) (Ask call caller) moment false).reply = did.0.works.1 in
      let roomy = log-roomy (listed first) opened log history.legal history.throughout in
      let spelled = ap (λ bs. length bs) (record_is xid (reply_told form reply)) in
      let told = ap (λ x. length (reply_record xid (reply_told form x))) same in
      let fits = fit form (length layout.volumes) (tree layout g) call caller moment false xid roomy in
      omega (arith, spelled, told, fits)

-- and so does the reply that says that memory ran out
pub starved-fits : (layout : Layout) (verifier : List ℕ) → length verifier ≡ 8 → RoomyBegins → RepliesFit → (call : types.Call) (caller : Caller) (xid : ℕ)
    → (form : HandleForm) → length (record_of (replies.message xid (reply_told form SystemError))) ≤ reply_room (length layout.volumes) call
starved-fits layout verifier eight begins fit call caller xid form =
    let spelled = ap (λ bs. length bs) (record_is xid (reply_told form SystemError)) in
    let fits = fit form (length layout.volumes) (opening layout verifier) call caller (record { seconds = 0; nanoseconds = 0 }) true xid
    (begins layout verifier eight) in
    omega (arith, spelled, fits)
