-- An inner call of a worker: what it needs, and the state after it.
use Rattle.std.proofs.Common.{◌≡◌, inl, inr, ℕ, ◌+◌, ◌≤◌, List, length, map, Some, Ok, refl, sym, ap, ◌∙◌, subst, arith}
use Rattle.std.specs.Prelude.{◌^◌, slice_get, slice_set}
use Rattle.std.specs.Global.{Vec}
use Rattle.std.specs.List.{AllByRecursion}
use Rattle.nfs_model.specs.Tree.{Layout, range_blocks_of}
use Rattle.nfs_model.specs.Parts.{Hand, Empty}
use Rattle.nfs_model.specs.World.{Setup, World}
use Rattle.nfs_values.specs.declared.call.Call.{Call}
use Rattle.affinity.specs.Tree.{IsNode}
use Rattle.scheduler.specs.declared.message.Message.{Message}
use Rattle.depot_rule.specs.Sums.{total}
use Rattle.filer_state.specs.state.Contents.{filer_contents}
use Rattle.filer_state.specs.state.Tree.{server_of}
use Rattle.filer_state.specs.state.Partition.{all_parts}
use Rattle.filer_state.specs.state.Jobs.{InnerCall, inner_node, inner_volume}
use Rattle.filer_state.specs.declared.files.Files.{Files}
use Rattle.desk.specs.laws.Books.{now, stamps}
use Rattle.desk.specs.Words.{books, IsKept}
use Rattle.engine.specs.laws.Store.{FilerBooks, StandsFor}
use Rattle.engine.specs.laws.Inner.{HasMoved, hand_after}
use Rattle.engine.specs.laws.lemmas.Sized.{settled-sized}
use Rattle.engine.specs.laws.lemmas.Beginning.{told-taken, told-worn-out, told-free}
use Rattle.engine.specs.laws.lemmas.Happening.{book-apart}
use Rattle.engine.specs.laws.lemmas.Tending.{one-carried, next, has-moved, none-excluded, made-stands, out-of-use}
use Rattle.service.specs.Inner.{IsHandFor}
use Rattle.service.specs.Jobs.{job_of, job_reply_of}
use Rattle.service.specs.declared.job.Job.{Job}
use Rattle.service.specs.declared.job.JobReply.{JobReply}
use Rattle.engine_feed.specs.Seen.{layout_in, messages_of, running_count}
use Rattle.engine.specs.declared.event.Done.{Done}
use Rattle.engine.specs.declared.event.Refusal.{Refusal}
use Rattle.engine.specs.declared.event.Refusal.TheVariants.{Busy, Worn, NoSuchRange, NoMemory}
use Rattle.engine.specs.declared.event.Refusal.TheVariants as refusals
use Rattle.engine.specs.declared.state.State.{State}
use Rattle.engine.specs.declared.worker.Worker.{Worker}
use Rattle.engine.specs.declared.worker.WorkerRun.TheVariants.{Idle}
use Rattle.engine.specs.Inner.{MayMake, IsMade, IsRefusedFor, MayTend, Tends, Refuses, told_as}
use Rattle.engine.specs.Numbers.{refusal_number}
use Rattle.engine.specs.Seen.{held_in, setup_in, world, worker_seen, done_of}
use Rattle.engine.specs.Sound.{IsReady, IsSoundEngine, running_messages, room_on}
use Rattle.engine.specs.Workers.{worker_with, HandSet, HandTaken}
use Rattle.engine.proofs.Workers.{seen-at, seen-carried, one-worker, carries-then}
use Rattle.engine.proofs.Lists.{set-same}
use Rattle.engine.proofs.Worked.{few-stamps, running-set}
use Rattle.engine.proofs.Batches.{OfOneRange, carried-after}
use Rattle.engine.proofs.Begins.{idle-lent, few-run}
use Rattle.engine.proofs.Changed.{IsChanged, same_setup, still_few, all_ready}

-- the books of a state's desk
abbrev pub held : State → FilerBooks Files Job JobReply
held s = books s.desk

-- a state with the workers and the desk of another
abbrev pub with_tended : State → State → State
with_tended s t = record s { workers = t.workers; desk = t.desk }

-- the hand that was taken out of a worker's place is what it carried, and another is put there
module _ (s : State) (i : ℕ) (carried : Hand) (there : slice_get s.workers.items i ≡ Some (worker_with Idle carried)) (hand : Hand) (taken : Vec Worker)
    (takes : HandTaken s.workers i hand taken) where
  pub same_hand : hand ≡ carried
  same_hand = (one-worker (slice_get s.workers.items i) takes.0 Idle hand carried takes.1 there).1

  abbrev same_run : takes.0 ≡ Idle
  same_run = (one-worker (slice_get s.workers.items i) takes.0 Idle hand carried takes.1 there).0

  module _ (other : Hand) (new : Vec Worker) (sets : HandSet taken i other new) where
    pub put_in : new.items ≡ slice_set s.workers.items i (worker_with Idle other)
    put_in = carries-then s.workers.items taken.items new.items i Idle sets.0 carried other sets.1 there
        (ap (λ (v : Vec Worker). v.items) takes.2 ∙ ap (λ r. slice_set s.workers.items i (worker_with r Empty)) same_run)
        sets.2 (ap (λ (v : Vec Worker). v.items) sets.3)

    pub put_again : other ≡ hand → new.items ≡ s.workers.items
    put_again is = put_in ∙ ap (λ h. slice_set s.workers.items i (worker_with Idle h)) (is ∙ same_hand)
        ∙ set-same s.workers.items i (worker_with Idle carried) there

module _ (s : State) (sound : IsSoundEngine s) (i : ℕ) (call : InnerCall) (may : MayTend s i call) where
  abbrev place : Worker
  place = worker_with Idle may.hand

  seen : slice_get (world s).workers i ≡ Some (worker_seen place)
  seen = seen-at s.workers.items i place may.there

  node : IsNode (held s).layout (inner_node call)
  node = subst (λ (l : Layout). IsNode l (inner_node call)) (sym sound.stands.layout) may.node

  -- it may be made
  pub may_make : MayMake (held s) i call may.hand
  may_make =
      let one = one-carried job_of job_reply_of (setup_in s) (world s) (held s) sound.stands i (worker_seen place) seen call node in record {
        lawful = sound.stands.lawful;
        node = node;
        idle = idle-lent job_of job_reply_of (setup_in s) (world s) (held s) sound.stands i (worker_seen place) seen refl;
        fits = subst (λ (l : Layout). IsHandFor (range_blocks_of l (inner_volume call)) call may.hand) (sym sound.stands.layout) may.fits;
        few = few-stamps (stamps (held s)) (running_count s.calls) sound.stamps;
        others = one.0;
        hands = one.1;
        sound = sound.stands.sound;
        sized = settled-sized job_of job_reply_of (setup_in s) (world s) (held s) sound.stands;
      }

  -- ---- it is refused

  pub refuses : (r : Refusal) → IsRefusedFor (held s) call r → Refuses (setup_in s) (world s) call (refusal_number r)
  refuses Busy why = inl (told-taken (setup_in s) job_of job_reply_of (world s) (held s) sound.stands (inner_node call) why)
  refuses Worn why = inl (told-worn-out (setup_in s) job_of job_reply_of (world s) (held s) sound.stands (inner_node call) why)
  refuses NoSuchRange why = inr (inl (
    refl,
    told-free (setup_in s) job_of job_reply_of (world s) (held s) sound.stands (inner_node call) why.0.free why.0.low,
    out-of-use job_of job_reply_of (setup_in s) (world s) (held s) sound.stands i (worker_seen place) seen call node why.0 why.1 call refl,
  ))
  refuses NoMemory why = inr (inr (
    refl,
    told-free (setup_in s) job_of job_reply_of (world s) (held s) sound.stands (inner_node call) why.0.free why.0.low,
    why.1,
  ))
  refuses refusals.Full why = absurd why
  refuses refusals.NoSuchCall why = absurd why
  refuses refusals.WorkerBusy why = absurd why
  refuses refusals.NoWork why = absurd why
  refuses refusals.NotWorked why = absurd why
  refuses refusals.Closed why = absurd why
  refuses refusals.BadMoment why = absurd why

  -- ---- it is made

  module _ (t : State) (reply : JobReply) (made : IsMade (held s) call may.hand reply (held t)) (kept : IsKept t.desk) where
    abbrev new : State
    new = with_tended s t

    abbrev hand : Hand
    hand = hand_after (job_reply_of reply)

    abbrev then : World
    then = next job_of job_reply_of (setup_in s) (world s) (held s) sound.stands i (worker_seen place) seen call node reply (held t) made
        (book-apart _ (held t) _ kept)

    stands : StandsFor job_of job_reply_of (setup_in s) then (held t)
    stands = made-stands job_of job_reply_of (setup_in s) (world s) (held s) sound.stands i (worker_seen place) seen call node reply
        (held t) made (book-apart _ (held t) _ kept)

    moved : HasMoved (setup_in s).layout (world s) i call (job_reply_of reply) then
    moved =
        subst (λ (l : Layout). HasMoved l (world s) i call (job_reply_of reply) then) sound.stands.layout
        (has-moved job_of job_reply_of (setup_in s) (world s) (held s) sound.stands i (worker_seen place) seen call node reply (held t) made
        (book-apart _ (held t) _ kept))

    module _ (set : t.workers.items ≡ slice_set s.workers.items i (worker_with Idle hand)) where
      changed : IsChanged s new i place (worker_with Idle hand)
      changed = record { there = may.there; set = set; offer = refl; verifier = refl; layout = refl; many = refl }

      pub tended_setup : setup_in new ≡ setup_in s
      tended_setup = same_setup changed

      world_is : world new ≡ then
      world_is = λ j. record (world s) {
        workers = (ap (λ (ks : List Worker). map worker_seen ks) set ∙ seen-carried s.workers.items i Idle may.hand hand may.there) j;
        server = sym stands.server j;
        parts = sym stands.parts j;
        stamps = sym stands.stamps j;
      }

      pub tended_events : (done : Done) → done_of done ≡ told_as (job_reply_of reply) → Tends s i call (Ok done) new
      tended_events done is = (
        none-excluded job_of job_reply_of (setup_in s) (world s) (held s) sound.stands i (worker_seen place) seen call node reply (held t) made
            (book-apart _ (held t) _ kept),
        job_reply_of reply,
        subst (λ (w : World). HasMoved (setup_in s).layout (world s) i call (job_reply_of reply) w) (sym world_is) moved,
        is,
      )

      -- the same messages run
      running : running_messages t.workers.items ≡ running_messages s.workers.items
      running = ap (λ (ks : List Worker). running_messages ks) set ∙ running-set s.workers.items i place (worker_with Idle hand) may.there refl

      pub tended_sound : OfOneRange → IsSoundEngine new
      tended_sound one = record {
        layout = ap (λ (x : FilerBooks Files Job JobReply). x.layout) made.books ∙ sound.layout;
        kept = kept;
        stands = subst (λ (x : Setup). StandsFor job_of job_reply_of x (world new) (held t)) (sym tended_setup)
            (subst (λ (w : World). StandsFor job_of job_reply_of (setup_in s) w (held t)) (sym world_is) stands);
        running = ap (λ (ms : List (Message Call)). length ms) running ∙ sound.running;
        waiting = sound.waiting;
        workers = all_ready changed sound (
          tt,
          carried-after one (layout_in s.calls) call _ moved.before moved.after (job_reply_of reply) may.node moved.moves,
        );
        few = still_few changed sound;
        stamps = (
            let more = stands.stamps in
            let were = sound.stands.stamps in
            let low = made.free.low in
            let most = sound.few in
            let run = few-run s.workers.items in
            let are = sound.running in
            let all : stamps (held t) + running_count s.calls ≤ 2 ^ 62 + 64 = omega (arith, more, were, low, most, run, are) in all);
        keyed = sound.keyed;
        opened = sound.opened;
        owed = λ q x at. sound.owed q x at
            ∙ ap (λ (ms : List (Message Call)). total (room_on q) (messages_of s.calls) + total (room_on q) ms) (sym running);
      }

-- ---- all is as it was

module _ (s t : State) (items : t.workers.items ≡ s.workers.items) (same : held t ≡ held s) where
  pub restored_world : world (with_tended s t) ≡ world s
  restored_world = λ j. record (world s) {
    workers = map worker_seen (items j);
    server = server_of (filer_contents (same j).layout (now (same j)));
    parts = all_parts (filer_contents (same j).layout (now (same j)));
    stamps = stamps (same j);
  }

  pub restored_setup : setup_in (with_tended s t) ≡ setup_in s
  restored_setup = λ j. record (setup_in s) { workers = length (items j) }

  pub restored_sound : IsKept t.desk → IsSoundEngine s → IsSoundEngine (with_tended s t)
  restored_sound kept sound = record {
    layout = ap (λ (x : FilerBooks Files Job JobReply). x.layout) same ∙ sound.layout;
    kept = kept;
    stands = subst (λ (x : Setup). StandsFor job_of job_reply_of x (world (with_tended s t)) (held t)) (sym restored_setup)
        (subst (λ (w : World). StandsFor job_of job_reply_of (setup_in s) w (held t)) (sym restored_world)
        (subst (λ (x : FilerBooks Files Job JobReply). StandsFor job_of job_reply_of (setup_in s) (world s) x) (sym same) sound.stands));
    running = ap (λ (ks : List Worker). length (running_messages ks)) items ∙ sound.running;
    waiting = sound.waiting;
    workers = subst (λ (ks : List Worker). AllByRecursion (IsReady (layout_in s.calls) (length (held_in s))) ks) (sym items) sound.workers;
    few = subst (λ (ks : List Worker). length ks ≤ 64) (sym items) sound.few;
    stamps = subst (λ (x : FilerBooks Files Job JobReply). stamps x + running_count s.calls ≤ 2 ^ 62 + 64) (sym same) sound.stamps;
    keyed = sound.keyed;
    opened = sound.opened;
    owed = λ q x at. sound.owed q x at
        ∙ ap (λ (ks : List Worker). total (room_on q) (messages_of s.calls) + total (room_on q) (running_messages ks)) (sym items);
  }
