-- A message on a seat: what its run may end in, and what comes of it.
use Rattle.std.proofs.Common.{◌≡◌, ℕ, ◌≤◌, Bool, true, false, List, [], ◌∷◌, ◌++◌, length, Option, None, refl, sym, ap, ◌∙◌, subst, arith}
use Rattle.nfs_model.specs.Types as types
use Rattle.nfs_model.specs.Types.{Asked, Ask, SystemError}
use Rattle.nfs_model.specs.Tree.{Layout, Affinity}
use Rattle.nfs_values.specs.Call.{call_of}
use Rattle.nfs_values.specs.Caller.{caller_of}
use Rattle.nfs_values.specs.Moment.{moment_of}
use Rattle.nfs_values.specs.Reply.{reply_of}
use Rattle.nfs_values.specs.declared.moment.Moment.{Moment}
use Rattle.nfs_values.specs.declared.reply.Reply.{Reply}
use Rattle.affinity.specs.declared.affinity.Affinity as codes
use Rattle.affinity.specs.declared.affinity.CallNode.{CallNode}
use Rattle.affinity.specs.Ancestors.{Covers}
use Rattle.affinity.specs.Affinity.{call_node}
use Rattle.affinity.specs.Fault.{fault_of}
use Rattle.affinity.specs.Numbers.{number_of, parents}
use Rattle.affinity.specs.Tree.{IsNode}
use Rattle.parcels.specs.Exact.{kind_in}
use Rattle.depot_rule.specs.Shares.{Has}
use Rattle.depot_rule.specs.History.{after, listed, entries_of, SoundHistory}
use Rattle.depot_rule.specs.Plays.{HasAdded}
use Rattle.depot.specs.Grants.{entry_of, HasWith, IsBegun, IsAfter, IsStep, IsEnded, IsFinished, IsRefused}
use Rattle.depot.specs.declared.grants.GrantRefusal.{GrantRefusal}
use Rattle.depot.specs.declared.grants.GrantRefusal.TheVariants as refusals
use Rattle.depot.specs.lemmas.Seats.{begun-with, begun-entries, begun-hand, ended-entries, ended-none, finished-entries, finished-none}
use Rattle.desk.specs.laws.Backing.{CanFinish, CanPutBack}
use Rattle.filer_state.specs.state.Jobs as jobs
use Rattle.filer_state.specs.state.Parcels.{FilerParcel}
use Rattle.filer_state.specs.state.Deeds.{FilerSteps}
use Rattle.filer_state.specs.state.Running.{Enters, finished_at}
use Rattle.filer_state.specs.declared.files.Files.{Files}
use Rattle.outboxes.specs.Boxes.{Addressed, addressed}
use Rattle.outboxes.specs.Messages as replies
use Rattle.outboxes.specs.Messages.{record_of}
use Rattle.service.specs.Running.{HasRunCall}
use Rattle.service.specs.declared.job.JobReply.TheVariants.{Replied}
use Rattle.service.specs.declared.outcome.Outcome.{Outcome}
use Rattle.service.specs.declared.outcome.Outcome.TheVariants as outcomes
use Rattle.rpc_msg.specs.declared.handle_form.HandleForm.{HandleForm}
use Rattle.rpc_msg.specs.Handles.{reply_told}
use Rattle.granted_calls.specs.Balance.{FilerView, FilerEntry}
use Rattle.granted_calls.specs.Messages.{IsPlaced, Message}
use Rattle.granted_calls.specs.Moments.{RunsAt}
use Rattle.granted_calls.specs.Runs.{FilerLent, HasRunOn}
use Rattle.granted_calls.specs.Served.{filer_behaviour, job_of_message, HasFinished, HasMoved}
use Rattle.granted_calls.specs.Filers.{HasOpened, IsReady}
use Rattle.granted_calls.proofs.Grants.{as-left}
use Rattle.granted_calls.proofs.Replayed.{RoomyBegins, RoomyStays, RepliesFit, reply-fits, starved-fits}

abbrev Parcels : Type 0
Parcels = ℕ → Option (FilerParcel Files)

-- what a message asks
abbrev asked_by : Message → Asked
asked_by m = Ask (call_of m.call) (caller_of m.caller)

module _ (layout : Layout) (lawful : fault_of layout ≡ None) (m : Message) (placed : IsPlaced layout m) (moment : Moment)
    (v w : FilerView) (of_v : v.tree ≡ parents layout) (of_w : w.tree ≡ parents layout)
    (outcome : Outcome) (l : FilerLent) (r : HasRunOn layout v m moment outcome l w) where
  abbrev node : Affinity
  node = call_node m.affinity

  abbrev before : Parcels
  before = r.before.parcels

  here : l.affinity ≡ node
  here = r.done.affinity ∙ r.granted.affinity

  told : HasRunCall m.call (caller_of m.caller) (moment_of moment) layout node before outcome l.parcels
  told = subst (λ a. HasRunCall m.call (caller_of m.caller) (moment_of moment) layout a before outcome l.parcels) r.granted.affinity r.done.did

  begun : IsBegun v (number_of layout node) before w
  begun = subst (λ a. IsBegun v (number_of layout a) before w) r.granted.affinity r.granted.begun

  left : IsAfter filer_behaviour v (number_of layout node) before
  left = subst (λ a. IsAfter filer_behaviour v (number_of layout a) before) r.granted.affinity r.granted.after

  has : HasWith w (number_of layout node) before
  has = begun-with v w (number_of layout node) before begun

  -- ---- it is entered

  may-enter : (reply : Reply) (starved : Bool)
      → Enters layout node (asked_by m) (moment_of moment) starved before (jobs.Replied (reply_of reply)) l.parcels
      → CanFinish kind_in filer_behaviour layout w l (job_of_message m moment starved) (Replied reply)
  may-enter reply starved enters =
      let o = m.origin in
      let steps = enters o.connection.0 o.number o.xid in
      let step : IsStep filer_behaviour w (number_of layout node) (job_of_message m moment starved) (Replied reply) l.parcels = (
        before,
        has,
        subst (λ ps. FilerSteps ps (number_of layout node)
            (jobs.Serve (finished_at node (asked_by m) (moment_of moment) o.connection.0 o.number o.xid starved)) before
            (jobs.Replied (reply_of reply)) l.parcels) (sym of_w) steps,
      ) in
      record {
        node = subst (λ a. IsNode layout a) (sym here) placed.node;
        exact = r.whole.exact;
        step = subst (λ a. IsStep filer_behaviour w (number_of layout a) (job_of_message m moment starved) (Replied reply) l.parcels) (sym here) step;
        hand = begun-hand filer_behaviour v w (number_of layout node) before (job_of_message m moment starved) (Replied reply) refl refl begun left;
      }

  pub may-finish : (reply : Reply) → outcome ≡ outcomes.Replied reply
      → CanFinish kind_in filer_behaviour layout w l (job_of_message m moment false) (Replied reply)
  may-finish reply is =
      may-enter reply false
      (subst (λ (o : Outcome). HasRunCall m.call (caller_of m.caller) (moment_of moment) layout node before o l.parcels) is told).0

  pub may-starve : (reply : Reply) → reply_of reply ≡ SystemError → outcome ≡ outcomes.Starved
      → CanFinish kind_in filer_behaviour layout w l (job_of_message m moment true) (Replied reply)
  may-starve reply says is =
      let ran = subst (λ (o : Outcome). HasRunCall m.call (caller_of m.caller) (moment_of moment) layout node before o l.parcels) is told in
      may-enter reply true
      (subst (λ (x : types.Reply). Enters layout node (asked_by m) (moment_of moment) true before (jobs.Replied x) l.parcels) (sym says) ran.0.0)

  -- after it, the seat has an entry more, and no grant
  module _ (u : FilerView) (reply : Reply) (starved : Bool)
      (finished : IsFinished filer_behaviour w (number_of layout l.affinity)
      (entry_of layout l.affinity l.parcels (job_of_message m moment starved) (Replied reply)) u) where
    abbrev entry : FilerEntry
    entry = entry_of layout l.affinity l.parcels (job_of_message m moment starved) (Replied reply)

    ends : IsFinished filer_behaviour w (number_of layout node) entry u
    ends = subst (λ a. IsFinished filer_behaviour w (number_of layout a) entry u) here finished

    pub entered-ready : (verifier : List ℕ) → IsReady layout verifier v → IsReady layout verifier u
    entered-ready verifier ready = record {
      opened = subst (λ (x : FilerView). HasOpened layout verifier x) (sym ends.3)
          (subst (λ (x : FilerView). HasOpened layout verifier x) (sym begun.3) ready.opened);
      none_open = finished-none filer_behaviour v w u (number_of layout node) before entry ready.none_open begun ends;
    }

    pub entered : (least : Moment) → RunsAt m.call least moment → (a : Addressed)
        → a ≡ addressed m.origin.connection.0 (replies.message m.origin.xid (reply_of reply)) → HasFinished v m least a u
    entered least at a same = record {
      moment = moment;
      at = at;
      entry = entry;
      is = record {
        starved = starved;
        call = refl;
        reply = ap (λ (x : Addressed). jobs.Replied x.message.reply) (sym same);
        connection = ap (λ (x : Addressed). x.connection) same;
        xid = ap (λ (x : Addressed). x.message.xid) same;
      };
      entries = finished-entries filer_behaviour w u (number_of layout node) entry ends
          ∙ ap (λ es. es ++ entry ∷ []) (begun-entries v w (number_of layout node) before begun);
      between = ends.2;
      added = subst (λ (x : FilerView). HasAdded filer_behaviour x ends.2 entry) begun.3 ends.4;
      tree = ap (λ (x : FilerView). x.tree) ends.3 ∙ ap (λ (x : FilerView). x.tree) begun.3;
      first = ap (λ (x : FilerView). x.first) ends.3 ∙ ap (λ (x : FilerView). x.first) begun.3;
      seen = ap (λ (x : FilerView). x.seen) ends.3 ∙ ap (λ (x : FilerView). (x.seen ++ ends.2) ++ entry ∷ []) begun.3;
    }

  -- ---- its reply fits

  module _ (verifier : List ℕ) (eight : length verifier ≡ 8) (opened : HasOpened layout verifier v)
      (begins : RoomyBegins) (stays : RoomyStays) (fit : RepliesFit) where
    pub fits : (reply : Reply) → outcome ≡ outcomes.Replied reply → (form : HandleForm)
        → length (record_of (replies.message m.origin.xid (reply_told form (reply_of reply)))) ≤ m.room
    fits reply is form =
        let ran = subst (λ (o : Outcome). HasRunCall m.call (caller_of m.caller) (moment_of moment) layout node before o l.parcels) is told in
        let history : SoundHistory filer_behaviour (parents layout) v.first v.seen v.mine left.0 =
        subst (λ ps. SoundHistory filer_behaviour ps v.first v.seen v.mine left.0) of_v left.1 in
        let under : (k : ℕ) → Covers (parents layout) (number_of layout node) k → after (parents layout) (listed v.first) left.0 k ≡ before k =
        as-left layout node placed.node v of_v before left in
        let most = reply-fits layout lawful verifier eight begins stays fit v.first opened v.seen v.mine left.0 history node placed.node before l.parcels under
        (call_of m.call) (caller_of m.caller) (moment_of moment) m.origin.xid (reply_of reply) ran.0 form in
        let room = placed.room in
        omega (arith, most, room)

    pub starved-room : (reply : Reply) → reply_of reply ≡ SystemError → (form : HandleForm)
        → length (record_of (replies.message m.origin.xid (reply_told form (reply_of reply)))) ≤ m.room
    starved-room reply says form =
        let most = starved-fits layout verifier eight begins fit (call_of m.call) (caller_of m.caller) m.origin.xid form in
        let same = ap (λ x. length (record_of (replies.message m.origin.xid (reply_told form x)))) says in
        let room = placed.room in
        omega (arith, most, room, same)

  -- ---- it moves

  module _ (to : CallNode) (is : outcome ≡ outcomes.Moved to) where
    moved : HasRunCall m.call (caller_of m.caller) (moment_of moment) layout node before (outcomes.Moved to) l.parcels
    moved = subst (λ (o : Outcome). HasRunCall m.call (caller_of m.caller) (moment_of moment) layout node before o l.parcels) is told

    pub may-go-back : CanPutBack layout w l
    may-go-back =
        let same = moved.0.1 in
        let back : HasWith w (number_of layout node) l.parcels = (has.0, has.1, λ k some below cover. has.2 k some below cover ∙ sym (same k)) in
        record {
          node = subst (λ a. IsNode layout a) (sym here) placed.node;
          as_granted = subst (λ a. HasWith w (number_of layout a) l.parcels) (sym here) back;
        }

    module _ (u : FilerView) (ended : IsEnded w (number_of layout l.affinity) u) where
      ends-so : IsEnded w (number_of layout node) u
      ends-so = subst (λ a. IsEnded w (number_of layout a) u) here ended

      pub moves-on : (least : Moment) → RunsAt m.call least moment → (m' : Message) → m' ≡ record m { affinity = to } → HasMoved layout v m least m' u
      moves-on least at m' same = record {
        moment = moment;
        at = at;
        to = to;
        message = same;
        placed = subst (λ (x : Message). IsPlaced layout x) (sym same) (record { node = moved.1.0; run = moved.1.1; room = placed.room });
        parcels = before;
        holding = w;
        begun = begun;
        granted = left;
        moves = moved.0.0;
        ended = ends-so;
      }

      pub back-entries : entries_of u ≡ entries_of v
      back-entries = ended-entries w u (number_of layout node) ends-so ∙ begun-entries v w (number_of layout node) before begun

      pub back-ready : (verifier : List ℕ) → IsReady layout verifier v → IsReady layout verifier u
      back-ready verifier ready = record {
        opened = subst (λ (x : FilerView). HasOpened layout verifier x) (sym ended.2)
            (subst (λ (x : FilerView). HasOpened layout verifier x) (sym begun.3) ready.opened);
        none_open = ended-none v w u (number_of layout node) before ready.none_open begun ends-so;
      }

-- ---- it is refused

module _ (layout : Layout) (v w : FilerView) (a : codes.Affinity) where
  pub refused-entries : (refusal : GrantRefusal) → IsRefused layout v a refusal w → entries_of w ≡ entries_of v
  refused-entries (refusals.Busy at word) refused = ap (λ (x : FilerView). entries_of x) refused.1.1
  refused-entries refusals.Worn refused = ap (λ (x : FilerView). entries_of x) refused.1

  pub refused-ready : (verifier : List ℕ) (refusal : GrantRefusal) → IsRefused layout v a refusal w → IsReady layout verifier v → IsReady layout verifier w
  refused-ready verifier (refusals.Busy at word) refused ready = record {
    opened = subst (λ (x : FilerView). HasOpened layout verifier x) (sym refused.1.1) ready.opened;
    none_open = λ b g has. ready.none_open b g (subst (λ (x : FilerView). Has x b g) refused.1.1 has);
  }
  refused-ready verifier refusals.Worn refused ready = record {
    opened = subst (λ (x : FilerView). HasOpened layout verifier x) (sym refused.1) ready.opened;
    none_open = λ b g has. ready.none_open b g (subst (λ (x : FilerView). Has x b g) refused.1 has);
  }
