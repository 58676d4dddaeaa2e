-- A worker that has worked its message: how it may end, and what it leaves.
use Rattle.std.proofs.Common.{◌≡◌, ℕ, ◌+◌, ◌<◌, ◌≤◌, Bool, List, [], ◌∷◌, ◌++◌, Some, Ok, refl, sym, ap, ◌∙◌, subst, arith}
use Rattle.std.specs.Prelude.{length, map, slice_get, slice_set}
use Rattle.std.proofs.lemmas.List.{length-append}
use Rattle.nfs_model.specs.Parts.{Hand}
use Rattle.nfs_model.specs.World as worlds
use Rattle.nfs_model.specs.World.{finish}
use Rattle.nfs_model.specs.Work as tasks
use Rattle.nfs_model.specs.Events.Refusals as events
use Rattle.nfs_model.specs.Events.Refusals.{Written, open_count}
use Rattle.nfs_model.specs.Events.Step.{Events, finished_by, finished_call, told_of, stamp_added, without_call, bytes_of_reply, bytes_if_open}
use Rattle.nfs_values.specs.declared.call.Call.{Call}
use Rattle.nfs_values.specs.declared.reply.Reply.{Reply}
use Rattle.nfs_values.specs.Moment.{moment_of}
use Rattle.nfs_values.specs.Reply.{reply_of}
use Rattle.affinity.specs.declared.affinity.CallNode.{CallNode}
use Rattle.affinity.specs.Affinity.{call_node}
use Rattle.scheduler.specs.declared.message.Message.{Message}
use Rattle.depot_rule.specs.Sums.{total}
use Rattle.depot_rule.specs.lemmas.Sums.{total-append}
use Rattle.filer_state.specs.state.Parcels.{FilerParcel}
use Rattle.filer_state.specs.state.Contents.{filer_contents}
use Rattle.filer_state.specs.state.Tree.{server_of}
use Rattle.filer_state.specs.state.Partition.{all_parts}
use Rattle.filer_state.specs.declared.files.Files.{Files}
use Rattle.desk.specs.laws.Books.{Lent, HasLent, now, stamps}
use Rattle.desk.specs.laws.Calls.{MayPutBack, MayFinish, HasPutBack, HasFinished}
use Rattle.engine.specs.laws.Store.{FilerBooks, HasOutcome, StandsFor}
use Rattle.engine.specs.laws.lemmas.Finishing.{run-on, moved-unchanged, may-finish, back-stands, finished-stands}
use Rattle.engine.specs.laws.lemmas.Feeding.{all-append}
use Rattle.engine.specs.laws.lemmas.Happening.{book-apart, finish-happens}
use Rattle.desk.specs.Words.{books, machine_in, IsKept}
use Rattle.service.specs.Jobs.{job_of, job_reply_of}
use Rattle.service.specs.Running.{outcome_of}
use Rattle.service.specs.declared.job.Job.{Job}
use Rattle.service.specs.declared.job.JobReply.{JobReply}
use Rattle.service.specs.declared.outcome.Outcome.{Outcome}
use Rattle.service.specs.declared.outcome.Outcome.TheVariants.{Moved}
use Rattle.engine_feed.specs.Codec.{reply_record}
use Rattle.engine_feed.specs.Seen.{layout_in, messages_of, running_count, finished_message}
use Rattle.engine_feed.specs.Sound.{IsAdmitted}
use Rattle.engine_feed.specs.Words as calls
use Rattle.slab.specs.Slab.{slab_len}
use Rattle.engine.specs.Connections.{Held, AreKeyed}
use Rattle.engine.specs.declared.event.Done.TheVariants as dones
use Rattle.engine.specs.declared.worker.Running.{Running}
use Rattle.engine.specs.declared.worker.Worker.{Worker}
use Rattle.engine.specs.declared.worker.WorkerRun.TheVariants.{Idle, Worked}
use Rattle.engine.specs.declared.state.State.{State}
use Rattle.engine.specs.Seen.{connection_seen, held_in, worker_seen, running_as, setup_in, world}
use Rattle.engine.specs.Ending.{job_made, answer_made, EndsIn, OwesLess}
use Rattle.nfs_model.specs.Types as types
use Rattle.rpc_msg.specs.declared.handle_form.HandleForm.{HandleForm}
use Rattle.rpc_msg.specs.Offer.{form_of}
use Rattle.rpc_msg.specs.Handles.{reply_told}
use Rattle.engine.specs.Sound.{IsPlaced, IsReady, IsSoundEngine, MayEnd, running_messages, room_on, rooms_on}
use Rattle.engine.specs.Words.{DoesEvent}
use Rattle.engine.specs.Workers.{worker_with}
use Rattle.engine.proofs.Lists.{all-at}
use Rattle.engine.proofs.Workers.{seen-at, seen-ran, count-changed}
use Rattle.engine.proofs.Closing.{seen-at as connection-at}
use Rattle.engine.proofs.Ends.{lent-here, ToldAs, served-as, fits-as, finished-as, told-as, left-as, server-kept, parts-kept}
use Rattle.engine.proofs.Ended.{back-world, ended-world, count-ended, owes-after}
use Rattle.engine.proofs.Changed.{IsChanged, same_setup, run_count, run_weight, still_few, all_ready, all_placed}

-- what a worker ran, and what that came to
abbrev came : Running → Outcome → worlds.Running
came r o = running_as r (Some (outcome_of o))

-- the message that waits again, at the affinity that it moved to
abbrev pub again : Running → CallNode → Message Call
again r a = record r.message { affinity = a }

-- the books of a state's desk
abbrev held : State → FilerBooks Files Job JobReply
held s = books s.desk

module _ (s : State) (sound : IsSoundEngine s) (i : ℕ) (r : Running) (o : Outcome) (hand : Hand)
    (there : slice_get s.workers.items i ≡ Some (worker_with (Worked r o) hand)) where
  -- the worker, before and after
  abbrev ran : Worker
  ran = worker_with (Worked r o) hand

  abbrev done_with : Worker
  done_with = worker_with Idle hand

  seen : slice_get (world s).workers i ≡ Some (worker_seen ran)
  seen = seen-at s.workers.items i ran there

  lent : (l : Lent (FilerParcel Files)) × HasLent (held s) i l
  lent = lent-here job_of job_reply_of (setup_in s) (world s) (held s) sound.stands i (worker_seen ran) seen (came r o) refl

  did : HasOutcome (setup_in s) (held s) (came r o) lent.0 (Some (outcome_of o))
  did = run-on job_of job_reply_of (setup_in s) (world s) (held s) sound.stands i (worker_seen ran) seen (came r o) refl (outcome_of o) refl
      lent.0 lent.1

  -- its message is of a connection, and what it came to may be told
  pub ready : IsPlaced (layout_in s.calls) (length (held_in s)) r.message × MayEnd (layout_in s.calls) r.message o
  ready = (all-at _ s.workers.items i ran sound.workers there).0

  -- and what it carries is a batch
  still_ready : IsReady (layout_in s.calls) (length (held_in s)) done_with
  still_ready = (tt, (all-at _ s.workers.items i ran sound.workers there).1)

  -- a message runs
  pub some_run : 0 < running_count s.calls
  some_run =
      let counted = count-changed s.workers.items i ran done_with there in
      let are = sound.running in
      omega (arith, counted, are)

  happens : Events (setup_in s) (world s) (events.Finish i) (Ok (told_of (setup_in s) (world s) (came r o) (outcome_of o)))
      (finished_by (setup_in s) (world s) i (came r o) (outcome_of o))
  happens = finish-happens (setup_in s) (world s) i (worker_seen ran) (came r o) (outcome_of o) seen refl refl

  -- ---- it moves

  module _ (a : CallNode) (is : o ≡ Moved a) where
    -- what it was lent may go home
    pub may_go_back : MayPutBack (held s) i
    may_go_back = record {
      lent = lent.0;
      is_lent = lent.1;
      unchanged = moved-unchanged job_of job_reply_of (setup_in s) (world s) (held s) sound.stands i (worker_seen ran) seen (came r o) refl
          (outcome_of o) refl lent.0 lent.1 (call_node a) (ap outcome_of is);
    }

    moves : MayEnd (layout_in s.calls) r.message (Moved a)
    moves = subst (MayEnd (layout_in s.calls) r.message) is ready.1

    -- its message may wait again
    pub again_admitted : IsAdmitted (layout_in s.calls) (again r a)
    again_admitted = record { node = moves.0; room = ready.0.admitted.room }

    module _ (new : State) (h : IsChanged s new i ran done_with) (connections : held_in new ≡ held_in s)
        (keyed : AreKeyed new.connections.items new.slab) (opened : slab_len new.slab ≡ slab_len s.slab) (kept : IsKept new.desk)
        (back : HasPutBack (held s) i (held new))
        (waits : calls.HasPutBack s.calls (again r a) new.calls) where
      back_layout : (held new).layout ≡ (held s).layout
      back_layout = ap (λ (x : FilerBooks Files Job JobReply). x.layout) back.books

      back_stamps : stamps (held new) ≡ stamps (held s)
      back_stamps = ap (λ (x : FilerBooks Files Job JobReply). stamps x) back.books

      back_is : world new ≡ finished_by (setup_in s) (world s) i (came r o) (tasks.Moved (call_node a))
      back_is = back-world (world s) s.calls new.calls (again r a) (record { waiting = refl; finished = refl }) waits (setup_in s) (held_in new)
          (ap (λ (cs : List Held). map connection_seen cs) connections) s.workers.items new.workers.items i (Worked r o) hand refl there h.set
          (came r o) (call_node a) refl
          (server_of (filer_contents (held new).layout (now (held new)))) (all_parts (filer_contents (held new).layout (now (held new)))) (stamps (held new))
          (server-kept (held s) (held new) back_layout back.same) (parts-kept (held s) (held new) back_layout back.same) back_stamps

      pub back_events : DoesEvent s (events.Finish i) (Ok dones.PutBack) new
      back_events = (
        happens.0,
        (
          worker_seen ran,
          came r o,
          outcome_of o,
          seen,
          refl,
          refl,
          sym (ap (λ (x : Outcome). told_of (setup_in s) (world s) (came r o) (outcome_of x)) is),
          back_is ∙ sym (ap (λ (x : Outcome). finished_by (setup_in s) (world s) i (came r o) (outcome_of x)) is),
        ),
      )

      back_stand : StandsFor job_of job_reply_of (setup_in s) (world new) (held new)
      back_stand = back-stands job_of job_reply_of (setup_in s) (world s) (held s) sound.stands i (worker_seen ran) seen (came r o) refl
          (outcome_of o) refl (held new) back (book-apart _ (held new) _ kept) (world new) (server-kept (held s) (held new) back_layout back.same)
          (parts-kept (held s) (held new) back_layout back.same) waits.finished back_stamps
          (ap (λ (ks : List Worker). map worker_seen ks) h.set ∙ seen-ran s.workers.items i (Worked r o) Idle hand there)

      pub back_sound : IsSoundEngine new
      back_sound = record {
        layout = back_layout ∙ sound.layout ∙ sym h.layout;
        kept = kept;
        stands = subst (λ x. StandsFor job_of job_reply_of x (world new) (held new)) (sym (same_setup h)) back_stand;
        running = (
            let counted = run_count h in
            let were = sound.running in
            let left = waits.running in
            let are : length (running_messages new.workers.items) ≡ running_count new.calls = omega (arith, counted, were, left) in are);
        waiting = all_placed h (messages_of s.calls ++ again r a ∷ []) waits.back
            (all-append (IsPlaced (layout_in s.calls) (length (held_in s))) (messages_of s.calls) (again r a ∷ []) sound.waiting
            (record { admitted = again_admitted; known = ready.0.known; run = moves.1 }, tt));
        workers = all_ready h sound still_ready;
        few = still_few h sound;
        stamps = (let same = back_stamps in let most = sound.stamps in let left = waits.running in omega (arith, same, most, left));
        keyed = keyed;
        opened = opened ∙ sound.opened ∙ ap (λ (cs : List Held). open_count (map connection_seen cs)) (sym connections);
        owed = λ q x at.
            (let old = sound.owed q x (ap (λ (cs : List Held). slice_get cs q) (sym connections) ∙ at) in
            let left = run_weight h (room_on q) in
            let more = ap (λ (ms : List (Message Call)). total (room_on q) ms) waits.back ∙ total-append (room_on q) (messages_of s.calls) (again r a ∷ []) in
            omega (arith, old, left, more));
      }

  -- ---- it is finished

  module _ (reply : Reply) (starved : Bool) (is : ToldAs o reply starved) where
    -- it may be entered
    pub may_be_entered : MayFinish (machine_in s.desk) (held s) i (job_made r starved) (answer_made reply)
    may_be_entered = may-finish job_of job_reply_of (setup_in s) (world s) (held s) sound.stands i (worker_seen ran) seen (came r o) refl
        (outcome_of o) refl lent.0 lent.1 starved (reply_of reply) (job_made r starved) (answer_made reply) refl refl
        (served-as (setup_in s) (held s) (came r o) lent.0 o reply starved is did)

    -- its reply has room
    pub reply_fits : (form : HandleForm) → length (reply_record r.message.origin.xid (reply_told form (reply_of reply))) ≤ r.message.room
    reply_fits = fits-as (layout_in s.calls) r.message o reply starved is ready.1

    module _ (told : types.Reply) (is_told : told ≡ reply_told (form_of s.offer) (reply_of reply)) (new : State) (h : IsChanged s new i ran done_with)
        (place place' : Held) (count : ℕ)
        (at : slice_get (held_in s) r.message.origin.connection.0 ≡ Some place)
        (put : (held_in new) ≡ slice_set (held_in s) r.message.origin.connection.0 place')
        (keyed : AreKeyed new.connections.items new.slab) (opened : slab_len new.slab ≡ slab_len s.slab) (kept : IsKept new.desk)
        (done : HasFinished (machine_in s.desk) (held s) i (job_made r starved) (answer_made reply) (held new))
        (ends : EndsIn s.calls place r told starved count new.calls place')
        (leaves : calls.HasLeft s.calls (finished_message r.message (moment_of r.moment) starved) new.calls)
        (owes : OwesLess r.message place place') where
      done_layout : (held new).layout ≡ (held s).layout
      done_layout = ap (λ (x : FilerBooks Files Job JobReply). x.layout) done.books

      more_stamps : stamps (held new) ≡ stamps (held s) + 1
      more_stamps = ap (λ (x : FilerBooks Files Job JobReply). stamps x) done.books ∙ length-append (held s).entries _

      spelled : (setup_in s).codec.reply_record r.message.origin.xid (reply_of reply) ≡ reply_record r.message.origin.xid told
      spelled = ap (λ (x : types.Reply). reply_record r.message.origin.xid x) (sym is_told)

      ended_is : world new ≡ finish (setup_in s) (stamp_added (without_call (world s) i)) (finished_call (came r o) starved) (reply_of reply)
      ended_is = ended-world (world s) s.calls new.calls place place' r (reply_of reply) told starved count ends (setup_in s) spelled
          (record { waiting = refl; finished = refl }) (held_in s) (held_in new) refl at put s.workers.items new.workers.items i (Worked r o)
          hand refl there h.set
          (server_of (filer_contents (held new).layout (now (held new)))) (all_parts (filer_contents (held new).layout (now (held new)))) (stamps (held new))
          (server-kept (held s) (held new) done_layout done.same) (parts-kept (held s) (held new) done_layout done.same) more_stamps

      written : count ≡ length (bytes_of_reply (setup_in s) (world s) (came r o).message (reply_of reply))
      written =
          let at_world = connection-at (held_in s) r.message.origin.connection.0 place at in
          (ends (setup_in s) (world s) (reply_of reply) spelled (record { waiting = refl; finished = refl }) at_world).1
          ∙ ap (λ bs. length (bytes_if_open (Some (connection_seen place)) bs)) (sym spelled)
          ∙ ap (λ p. length (bytes_if_open p ((setup_in s).codec.reply_record r.message.origin.xid (reply_of reply)))) (sym at_world)

      pub ended_events : DoesEvent s (events.Finish i) (Ok (dones.Written r.message.origin.connection count)) new
      ended_events = (
        happens.0,
        (
          worker_seen ran,
          came r o,
          outcome_of o,
          seen,
          refl,
          refl,
          ap (λ n. Written r.message.origin.connection.0 n) written ∙ sym (told-as (setup_in s) (world s) (came r o) o reply starved is),
          ended_is ∙ sym (finished-as (setup_in s) (world s) i (came r o) o reply starved is),
        ),
      )

      ended_stand : StandsFor job_of job_reply_of (setup_in s) (world new) (held new)
      ended_stand = finished-stands job_of job_reply_of (setup_in s) (world s) (held s) sound.stands i (worker_seen ran) seen (came r o) refl
          (outcome_of o) refl starved (reply_of reply) (job_made r starved) (answer_made reply) refl refl (held new) done
          (served-as (setup_in s) (held s) (came r o) done.lent o reply starved is
          (run-on job_of job_reply_of (setup_in s) (world s) (held s) sound.stands i (worker_seen ran) seen (came r o) refl (outcome_of o) refl
          done.lent done.is_lent))
          (book-apart _ (held new) _ kept) (world new) (left-as (came r o) o reply starved is) (server-kept (held s) (held new) done_layout done.same)
          (parts-kept (held s) (held new) done_layout done.same) leaves.finished more_stamps
          (ap (λ (ks : List Worker). map worker_seen ks) h.set ∙ seen-ran s.workers.items i (Worked r o) Idle hand there)

      -- the room that messages keep is less by that of the message
      rooms_left : (q : ℕ) → rooms_on q new + room_on q r.message ≡ rooms_on q s
      rooms_left q =
          let left = run_weight h (room_on q) in
          let wait = ap (λ (ms : List (Message Call)). total (room_on q) ms) leaves.waiting in
          omega (arith, left, wait)

      pub ended_sound : IsSoundEngine new
      ended_sound = record {
        layout = done_layout ∙ sound.layout ∙ sym h.layout;
        kept = kept;
        stands = subst (λ x. StandsFor job_of job_reply_of x (world new) (held new)) (sym (same_setup h)) ended_stand;
        running = (
            let counted = run_count h in
            let were = sound.running in
            let left = leaves.running in
            let are : length (running_messages new.workers.items) ≡ running_count new.calls = omega (arith, counted, were, left) in are);
        waiting = all_placed h (messages_of s.calls) leaves.waiting sound.waiting;
        workers = all_ready h sound still_ready;
        few = still_few h sound;
        stamps = (let more = more_stamps in let most = sound.stamps in let left = leaves.running in omega (arith, more, most, left));
        keyed = keyed;
        opened = opened ∙ sound.opened
            ∙ sym (count-ended (world s) s.calls new.calls place place' r (reply_of reply) told starved count ends (setup_in s) spelled
            (record { waiting = refl; finished = refl }) (held_in s) (held_in new) refl at put);
        owed = owes-after (held_in s) (held_in new) r.message place place' at put owes (λ q. rooms_on q s) (λ q. rooms_on q new)
            rooms_left sound.owed;
      }
