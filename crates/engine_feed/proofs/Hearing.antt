-- A record's call, admitted.
use Rattle.std.proofs.Common.{◌≡◌, ◌≤◌, ℕ, false, List, [], ◌∷◌, ◌++◌, length, Option, Some, None, refl, sym, ap, ◌∙◌, arith}
use Rattle.std.specs.Prelude.{slice_get}
use Rattle.std.proofs.lemmas.List.{map_push}
use Rattle.nfs_model.specs.Types as types
use Rattle.nfs_model.specs.Tree as trees
use Rattle.nfs_model.specs.Server as servers
use Rattle.nfs_model.specs.Server.{start_of_times}
use Rattle.nfs_model.specs.Home.{home, home_of_asked}
use Rattle.nfs_model.specs.World as worlds
use Rattle.nfs_model.specs.Serial.Step.{Step, serve, serial, stay}
use Rattle.nfs_model.specs.Serial.AtOnce.{answer_without_home}
use Rattle.nfs_model.specs.Events.Feed.{admit}
use Rattle.nfs_values.specs.declared.call.Call.{Call}
use Rattle.nfs_values.specs.Call.{call_of}
use Rattle.nfs_values.specs.Caller.{caller_of}
use Rattle.nfs_values.specs.Reply.{refusal_of}
use Rattle.rpc_msg.specs.declared.handle_form.HandleForm.{HandleForm}
use Rattle.rpc_msg.specs.declared.offer.Offer.{Offer}
use Rattle.rpc_msg.specs.Offer.{form_of}
use Rattle.rpc_msg.specs.Handles.{reply_told}
use Rattle.rpc_msg.specs.Replies as replies
use Rattle.rpc_msg.specs.Room.{reply_room}
use Rattle.scheduler.specs.declared.message.Message.{Message}
use Rattle.scheduler.specs.declared.message.Origin.{Origin}
use Rattle.affinity.specs.Affinity.{call_node}
use Rattle.engine_feed.specs.declared.state.ConnectionState.{ConnectionState}
use Rattle.engine_feed.specs.declared.state.CallsState.{CallsState}
use Rattle.rpc_msg.specs.declared.record.Request.{Request}
use Rattle.rpc_msg.specs.declared.record.Request.TheVariants as requests
use Rattle.engine_feed.specs.Admission.{reply_at_once}
use Rattle.engine_feed.specs.Codec.{reply_record}
use Rattle.engine_feed.specs.lemmas.Codec.{reply_record_is}
use Rattle.engine_feed.specs.Limit.{reply_limit}
use Rattle.engine_feed.specs.Seen.{asked_of, connection_of, layout_in, waiting_of, finished_of, message_of, entry_at}
use Rattle.engine_feed.specs.Words.{Finishes, Waits, HasHeard}
use Rattle.engine_feed.specs.lemmas.Lists.{put-same}
use Rattle.engine_feed.proofs.Parts.{lists-same}

-- ---- a call that waits

pub waits : (offer : Offer) (calls calls' : CallsState) (c c' : ConnectionState) (m : Message Call) (asked : types.Asked) → Waits calls c m calls' c'
    → types.Ask (call_of m.call) (caller_of m.caller) ≡ asked
    → home_of_asked (layout_in calls) asked ≡ Some (call_node m.affinity)
    → HasHeard offer calls c m.origin asked false calls' c'
waits offer calls calls' c c' m asked w a h setup v k p =
    let n = m.origin.connection.0 in
    let more : waiting_of calls' ≡ v.waiting ++ message_of m ∷ [] = ap waiting_of w.waits ∙ map_push message_of calls.waiting m
    ∙ ap (λ (ms : List worlds.Message). ms ++ message_of m ∷ []) (sym p.shows.waiting) in
    let home_is : home_of_asked setup.layout asked ≡ Some (call_node m.affinity) = ap (λ (l : trees.Layout). home_of_asked l asked) k.layout ∙ h in
    let there : slice_get v.connections n ≡ Some (connection_of c') = p.connection ∙ ap (λ (x : ConnectionState). Some (connection_of x)) (sym w.owes) in
    lists-same v _ v.connections _ (v.waiting ++ message_of m ∷ []) _ v.finished (put-same (connection_of c') v.connections n there) more
    (ap finished_of w.waits ∙ sym p.shows.finished)
    ∙ ap (λ (x : types.Asked). record v {
      waiting = v.waiting
          ++ (record { connection = n; number = m.origin.number; xid = m.origin.xid; asked = x; affinity = call_node m.affinity }) ∷ [];
    }) a
    ∙ ap (λ (o : Option trees.Affinity). admit setup v n m.origin.number (record { xid = m.origin.xid; asked = asked }) o) (sym home_is)

-- ---- a call that is answered at once

-- a call without a home affinity reads no state, as the law has it
abbrev pub StaysWithoutHome : Type 0
StaysWithoutHome = (layout : trees.Layout) (server : servers.Server) (caller : types.Caller) (moment : types.Moment) (call : types.Call)
    → length layout.volumes ≡ length server.volumes → home layout call ≡ None
    → serve server call caller moment ≡ stay server (answer_without_home layout call)

at-once : (offer : Offer) (calls calls' : CallsState) (c c' : ConnectionState) (origin : Origin) (call : types.Call)
    (caller : types.Caller) (answer : types.Answer) (told : types.Reply) → StaysWithoutHome
    → home (layout_in calls) call ≡ None → answer ≡ answer_without_home (layout_in calls) call
    → told ≡ reply_told (form_of offer) (types.Success answer)
    → Finishes calls c (entry_at origin (types.Ask call caller) None start_of_times false) told calls' c'
    → HasHeard offer calls c origin (types.Ask call caller) false calls' c'
at-once offer calls calls' c c' origin call caller answer told law h a is f setup v k p =
    let n = origin.connection.0 in
    let asked : types.Asked = types.Ask call caller in
    let stays : serve v.server call caller start_of_times ≡ stay v.server (answer_without_home (layout_in calls) call) =
    law (layout_in calls) v.server caller start_of_times call (sym p.volumes) h in
    let reply : types.Success answer ≡ (serial v.server asked start_of_times false).reply = ap (λ (x : types.Answer). types.Success x) a
    ∙ sym (ap (λ (t : Step). t.reply) stays) in
    let nowhere : home_of_asked setup.layout asked ≡ None = ap (λ (l : trees.Layout). home l call) k.layout ∙ h in
    f setup v (types.Success answer)
    (ap (λ (q : worlds.Codec). q.reply_record origin.xid (types.Success answer)) k.codec ∙ ap (λ (x : types.Reply). reply_record origin.xid x) (sym is))
    p.shows p.connection
    ∙ ap (worlds.finish setup v (entry_at origin asked None start_of_times false)) reply
    ∙ ap (λ (o : Option trees.Affinity). admit setup v n origin.number (record { xid = origin.xid; asked = asked }) o) (sym nowhere)

-- and so is a record that is refused, or that wasn't decoded
pub answered : (offer : Offer) (calls calls' : CallsState) (c c' : ConnectionState) (origin : Origin) (request : Request)
    (reply told : types.Reply) → StaysWithoutHome
    → home_of_asked (layout_in calls) (asked_of request) ≡ None → reply ≡ reply_at_once (layout_in calls) (asked_of request)
    → told ≡ reply_told (form_of offer) reply
    → Finishes calls c (entry_at origin (asked_of request) None start_of_times false) told calls' c'
    → HasHeard offer calls c origin (asked_of request) false calls' c'
answered offer calls calls' c c' origin (requests.Call call caller) reply told law h e is f setup v k p =
    let answer : types.Answer = answer_without_home (layout_in calls) (call_of call) in
    at-once offer calls calls' c c' origin (call_of call) (caller_of caller) answer told law h refl
    (is ∙ ap (λ (r : types.Reply). reply_told (form_of offer) r) e) f setup v k p
answered offer calls calls' c c' origin (requests.Refused refusal) reply told law h e is f setup v k p =
    let refused : types.Reply = refusal_of refusal in
    let same : told ≡ reply_told (form_of offer) refused = is ∙ ap (λ (r : types.Reply). reply_told (form_of offer) r) e in
    f setup v refused
    (ap (λ (q : worlds.Codec). q.reply_record origin.xid refused) k.codec ∙ ap (λ (x : types.Reply). reply_record origin.xid x) (sym same))
    p.shows p.connection
answered offer calls calls' c c' origin requests.Undecoded reply told law h e is f setup v k p =
    let same : told ≡ reply_told (form_of offer) types.SystemError = is ∙ ap (λ (r : types.Reply). reply_told (form_of offer) r) e in
    f setup v types.SystemError
    (ap (λ (q : worlds.Codec). q.reply_record origin.xid types.SystemError) k.codec ∙ ap (λ (x : types.Reply). reply_record origin.xid x) (sym same))
    p.shows p.connection

-- ---- the room of a reply

-- of a reply that tells of no volume
room-bare : (call : types.Call) → reply_room 0 call ≤ reply_limit
room-bare types.Null = omega arith
room-bare call = omega arith

pub at-once-fits : (form : HandleForm) (layout : trees.Layout) (xid : ℕ) (call : types.Call) (reply : types.Reply)
    → reply ≡ types.Success (answer_without_home layout call)
    → length (replies.reply_record xid (reply_told form (types.Success (answer_without_home layout call)))) ≤ reply_room 0 call
    → length (reply_record xid (reply_told form reply)) ≤ reply_limit
at-once-fits form layout xid call reply e h =
    let at : types.Reply = reply_told form (types.Success (answer_without_home layout call)) in
    let same : length (reply_record xid (reply_told form reply)) ≡ length (replies.reply_record xid at) =
    ap (λ (x : types.Reply). length (reply_record xid (reply_told form x))) e ∙ ap (λ bs. length bs) (reply_record_is xid at) in
    let room = room-bare call in
    omega (arith, same, room, h)
