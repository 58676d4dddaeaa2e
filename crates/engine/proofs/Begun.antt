-- A message that begins: the worker is idle, the message waits, and what begins leaves.
use Rattle.std.proofs.Common.{◌≡◌, ℕ, ◌<◌, ◌≤◌, true, List, Some, Ok, refl, sym, ap, ◌∙◌, subst, arith}
use Rattle.std.specs.Prelude.{length, map, option_map, slice_get}
use Rattle.std.specs.List.{remove}
use Rattle.nfs_model.specs.Parts.{Hand}
use Rattle.nfs_model.specs.Events.Refusals as events
use Rattle.nfs_model.specs.Events.Refusals.{is_idle, open_count, refusal}
use Rattle.nfs_model.specs.Events.Step.{begun}
use Rattle.nfs_values.specs.declared.call.Call.{Call}
use Rattle.nfs_values.specs.declared.moment.Moment.{Moment}
use Rattle.nfs_values.specs.Moment.{moment_of}
use Rattle.affinity.specs.declared.affinity.CallNode.{CallNode}
use Rattle.affinity.specs.Affinity.{call_node}
use Rattle.scheduler.specs.declared.message.Message.{Message}
use Rattle.depot_rule.specs.Sums.{total}
use Rattle.filer_state.specs.state.Contents.{filer_contents}
use Rattle.filer_state.specs.state.Tree.{server_of}
use Rattle.filer_state.specs.state.Partition.{all_parts}
use Rattle.desk.specs.laws.Books.{IsTaken, now, stamps}
use Rattle.desk.specs.laws.Calls as desks
use Rattle.engine.specs.laws.Store.{StandsFor}
use Rattle.engine.specs.laws.lemmas.Beginning.{begun-stands}
use Rattle.engine.specs.laws.lemmas.Happening.{book-apart, begin-happens, begin-taken, begin-worn}
use Rattle.desk.specs.Words.{books, IsKept}
use Rattle.service.specs.Jobs.{job_of, job_reply_of}
use Rattle.engine_feed.specs.Seen.{message_of, messages_of, running_count}
use Rattle.engine_feed.specs.Words.{HasBegun}
use Rattle.slab.specs.Slab.{slab_len}
use Rattle.engine.specs.Connections.{Held, AreKeyed}
use Rattle.engine.specs.declared.event.Done.TheVariants as dones
use Rattle.engine.specs.declared.worker.Running.{Running}
use Rattle.engine.specs.declared.worker.WorkerRun.TheVariants.{Idle, Begun}
use Rattle.engine.specs.declared.state.State.{State}
use Rattle.engine.specs.Seen.{connection_seen, held_in, setup_in, world}
use Rattle.engine.specs.Sound.{IsSoundEngine, running_messages, room_on}
use Rattle.engine.specs.Words.{DoesEvent}
use Rattle.engine.specs.Workers.{worker_with}
use Rattle.engine.proofs.Workers.{seen-at}
use Rattle.engine.proofs.Lists.{all-at, all-removed, total-removed}
use Rattle.engine.proofs.Begins.{bad-moment, begun-layout, begun-parts, begun-server, begun-stamps, begun-world, few-run, found-message, good-moment}
use Rattle.engine.proofs.Begins.{waits-at}
use Rattle.engine.proofs.Changed.{IsChanged, same_setup, run_count, run_weight, still_few, all_ready, all_placed}

-- ---- it is refused

module _ (s : State) (sound : IsSoundEngine s) (i place : ℕ) (moment : Moment) (a : CallNode) (free : is_idle (slice_get (world s).workers i) ≡ true)
    (told : Some a ≡ option_map (λ (m : Message Call). m.affinity) (slice_get s.calls.waiting place)) where
  message : (m : Message Call) × (slice_get s.calls.waiting place ≡ Some m) × (a ≡ m.affinity)
  message = found-message a (slice_get s.calls.waiting place) told

  at_place : slice_get (world s).waiting place ≡ Some (message_of message.0)
  at_place = waits-at s.calls place message.0 message.1

  pub late_refused : 1000000000 ≤ moment.nanoseconds → refusal (setup_in s) (world s) (events.Begin i place (moment_of moment)) ≡ Some 37
  late_refused late = bad-moment (setup_in s) (world s) i place (moment_of moment) (message_of message.0) free at_place late

  module _ (early : moment.nanoseconds < 1000000000) where
    pub taken_refused : IsTaken (books s.desk) (call_node a) → refusal (setup_in s) (world s) (events.Begin i place (moment_of moment)) ≡ Some 21
    taken_refused taken = begin-taken job_of job_reply_of (setup_in s) (world s) (books s.desk) sound.stands i place (moment_of moment) (message_of message.0)
        free at_place (good-moment (moment_of moment) early) (subst (λ (x : CallNode). IsTaken (books s.desk) (call_node x)) message.2 taken)

    pub worn_refused : desks.IsWorn (books s.desk) (call_node a) → refusal (setup_in s) (world s) (events.Begin i place (moment_of moment)) ≡ Some 22
    worn_refused worn = begin-worn job_of job_reply_of (setup_in s) (world s) (books s.desk) sound.stands i place (moment_of moment) (message_of message.0)
        free at_place (good-moment (moment_of moment) early) (subst (λ (x : CallNode). desks.IsWorn (books s.desk) (call_node x)) message.2 worn)

-- ---- it begins

module _ (s new : State) (sound : IsSoundEngine s) (i place : ℕ) (r : Running) (hand : Hand)
    (h : IsChanged s new i (worker_with Idle hand) (worker_with (Begun r) hand))
    (connections : held_in new ≡ held_in s) (keyed : AreKeyed new.connections.items new.slab)
    (opened : slab_len new.slab ≡ slab_len s.slab) (kept : IsKept new.desk)
    (begins : desks.HasBegun (books s.desk) i (call_node r.message.affinity) (books new.desk)) (takes : HasBegun s.calls place r.message new.calls) where
  waits : slice_get (world s).waiting place ≡ Some (message_of r.message)
  waits = waits-at s.calls place r.message takes.there

  same_stamps : stamps (books new.desk) ≡ stamps (books s.desk)
  same_stamps = begun-stamps (books s.desk) (books new.desk) i _ begins

  begun_is : world new ≡ begun (world s) i place (message_of r.message) (moment_of r.moment)
  begun_is =
      let b = books s.desk in
      let c = books new.desk in
      begun-world (world s) s.calls new.calls place r.message takes (record { waiting = refl; finished = refl }) (held_in new)
      (ap (λ (cs : List Held). map connection_seen cs) connections) s.workers.items new.workers.items i r hand refl refl h.there h.set
      (server_of (filer_contents c.layout (now c))) (all_parts (filer_contents c.layout (now c))) (stamps c)
      (begun-server b c i _ begins) (begun-parts b c i _ begins) same_stamps

  pub begun_events : r.moment.nanoseconds < 1000000000 → DoesEvent s (events.Begin i place (moment_of r.moment)) (Ok (dones.Granted r.message.affinity)) new
  begun_events early =
      let happens = begin-happens job_of job_reply_of (setup_in s) (world s) (books s.desk) sound.stands i place (moment_of r.moment) (message_of r.message)
      (ap is_idle (seen-at s.workers.items i (worker_with Idle hand) h.there)) waits (good-moment (moment_of r.moment) early) (books new.desk) begins in
      (happens.0, (message_of r.message, waits, refl, begun_is))

  begun_stand : StandsFor job_of job_reply_of (setup_in s) (world new) (books new.desk)
  begun_stand =
      subst (λ w. StandsFor job_of job_reply_of (setup_in s) w (books new.desk)) (sym begun_is)
      (begun-stands (setup_in s) job_of job_reply_of (world s) (books s.desk) sound.stands (call_node r.message.affinity) (books new.desk) i begins
      (book-apart _ (books new.desk) _ kept) place (message_of r.message) (moment_of r.moment) refl)

  as_many_run : length (running_messages new.workers.items) ≡ running_count new.calls
  as_many_run =
      let counted = run_count h in
      let were = sound.running in
      let more = takes.running in
      omega (arith, counted, were, more)

  pub begun_sound : IsSoundEngine new
  begun_sound = record {
    layout = begun-layout (books s.desk) (books new.desk) i _ begins ∙ sound.layout ∙ sym h.layout;
    kept = kept;
    stands = subst (λ x. StandsFor job_of job_reply_of x (world new) (books new.desk)) (sym (same_setup h)) begun_stand;
    running = as_many_run;
    waiting = all_placed h (remove (messages_of s.calls) place) takes.left (all-removed _ (messages_of s.calls) place sound.waiting);
    workers = all_ready h sound (
      all-at _ (messages_of s.calls) place r.message sound.waiting takes.there,
      (all-at _ s.workers.items i (worker_with Idle hand) sound.workers h.there).1,
    );
    few = still_few h sound;
    stamps = (
        let most = still_few h sound in
        let run = few-run new.workers.items in
        let are = as_many_run in
        let low = begins.low in
        let same = same_stamps in
        omega (arith, most, run, are, low, same));
    keyed = keyed;
    opened = opened ∙ sound.opened ∙ ap (λ (cs : List Held). open_count (map connection_seen cs)) (sym connections);
    owed = λ q x at.
        (let old = sound.owed q x (ap (λ (cs : List Held). slice_get cs q) (sym connections) ∙ at) in
        let taken = total-removed (room_on q) (messages_of s.calls) place r.message takes.there in
        let gone = ap (λ (ms : List (Message Call)). total (room_on q) ms) takes.left in
        let more = run_weight h (room_on q) in
        omega (arith, old, taken, gone, more));
  }
