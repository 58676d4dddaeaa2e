-- A state of which one worker runs another thing: what stays sound of it.
use Rattle.std.proofs.Common.{◌≡◌, ℕ, ◌+◌, ◌≤◌, List, Some, sym, ap, ◌∙◌, subst}
use Rattle.std.specs.Prelude.{◌^◌, length, map, slice_get, slice_set}
use Rattle.std.specs.Global.{Vec}
use Rattle.std.specs.List.{AllByRecursion}
use Rattle.std.proofs.lemmas.List.{length-set}
use Rattle.nfs_model.specs.World.{World}
use Rattle.nfs_values.specs.declared.call.Call.{Call}
use Rattle.scheduler.specs.declared.message.Message.{Message}
use Rattle.depot_rule.specs.Sums.{total}
use Rattle.filer_state.specs.state.Contents.{filer_contents}
use Rattle.filer_state.specs.state.Partition.{all_parts}
use Rattle.filer_state.specs.state.Tree.{server_of}
use Rattle.filer_state.specs.declared.files.Files.{Files}
use Rattle.desk.specs.laws.Books.{now, stamps}
use Rattle.desk.specs.Words.{books, IsKept}
use Rattle.engine.specs.laws.Store.{FilerBooks, StandsFor}
use Rattle.service.specs.Jobs.{job_of, job_reply_of}
use Rattle.service.specs.declared.job.Job.{Job}
use Rattle.service.specs.declared.job.JobReply.{JobReply}
use Rattle.engine_feed.specs.Seen.{layout_in, messages_of, running_count}
use Rattle.engine.specs.declared.worker.Worker.{Worker}
use Rattle.engine.specs.declared.state.State.{State}
use Rattle.engine.specs.Seen.{held_in, setup_in, setup_of, worker_seen, world}
use Rattle.engine.specs.Sound.{IsPlaced, IsReady, IsSoundEngine, messages_in, room_on, running_messages}
use Rattle.engine.proofs.Lists.{all-set}
use Rattle.engine.proofs.Workers.{count-changed, messages-changed}

-- the world of a state over these books
abbrev with_books : State → FilerBooks Files Job JobReply → World
with_books s b = record (world s) {
  server = server_of (filer_contents b.layout (now b));
  parts = all_parts (filer_contents b.layout (now b));
  stamps = stamps b;
}

-- a worker that ran one thing runs another, with as many connections as before
pub record IsChanged (s new : State) (i : ℕ) (k x : Worker) : Type 0 where
  pub there : slice_get s.workers.items i ≡ Some k
  pub set : new.workers.items ≡ slice_set s.workers.items i x
  pub offer : new.offer ≡ s.offer
  pub verifier : new.verifier ≡ s.verifier
  pub layout : layout_in new.calls ≡ layout_in s.calls
  pub many : length (held_in new) ≡ length (held_in s)

module _ {s new : State} {i : ℕ} {k x : Worker} (h : IsChanged s new i k x) where
  as_many : length new.workers.items ≡ length s.workers.items
  as_many = ap (λ (ks : List Worker). length ks) h.set ∙ length-set s.workers.items i x

  -- what is fixed for a run stays
  pub same_setup : setup_in new ≡ setup_in s
  same_setup = λ j. setup_of (h.offer j) (h.layout j) (h.verifier j).0 (as_many j)

  -- how many run
  pub run_count : length (running_messages new.workers.items) + length (messages_in k.run) ≡ length (running_messages s.workers.items) + length
      (messages_in x.run)
  run_count = ap (λ (ks : List Worker). length (running_messages ks) + length (messages_in k.run)) h.set ∙ count-changed s.workers.items i k x h.there

  -- what runs, weighed
  pub run_weight : (weigh : Message Call → ℕ)
      → total weigh (running_messages new.workers.items) + total weigh (messages_in k.run)
      ≡ total weigh (running_messages s.workers.items) + total weigh (messages_in x.run)
  run_weight weigh =
      ap (λ (ks : List Worker). total weigh (running_messages ks) + total weigh (messages_in k.run)) h.set
      ∙ messages-changed weigh s.workers.items i k x h.there

  module _ (sound : IsSoundEngine s) where
    pub still_few : length new.workers.items ≤ 64
    still_few = subst (λ n. n ≤ 64) (sym as_many) sound.few

    pub all_ready : IsReady (layout_in s.calls) (length (held_in s)) x
        → AllByRecursion (IsReady (layout_in new.calls) (length (held_in new))) new.workers.items
    all_ready is =
        subst (λ (ks : List Worker). AllByRecursion (IsReady (layout_in new.calls) (length (held_in new))) ks) (sym h.set)
        (subst (λ n. AllByRecursion (IsReady (layout_in new.calls) n) (slice_set s.workers.items i x)) (sym h.many)
        (subst (λ L. AllByRecursion (IsReady L (length (held_in s))) (slice_set s.workers.items i x)) (sym h.layout)
        (all-set (IsReady (layout_in s.calls) (length (held_in s))) s.workers.items i x sound.workers is)))

  pub all_placed : (ms : List (Message Call)) → messages_of new.calls ≡ ms → AllByRecursion (IsPlaced (layout_in s.calls) (length (held_in s))) ms
      → AllByRecursion (IsPlaced (layout_in new.calls) (length (held_in new))) (messages_of new.calls)
  all_placed ms are placed =
      subst (λ (xs : List (Message Call)). AllByRecursion (IsPlaced (layout_in new.calls) (length (held_in new))) xs) (sym are)
      (subst (λ n. AllByRecursion (IsPlaced (layout_in new.calls) n) ms) (sym h.many)
      (subst (λ L. AllByRecursion (IsPlaced L (length (held_in s))) ms) (sym h.layout) placed))

-- ---- workers that run and carry what they did

module _ (s : State) (ws : Vec Worker) (same : ws.items ≡ s.workers.items) where
  pub still-world : world (record s { workers = ws }) ≡ world s
  still-world = ap (λ (ks : List Worker). record (world s) { workers = map worker_seen ks }) same

  pub still-setup : setup_in (record s { workers = ws }) ≡ setup_in s
  still-setup = ap (λ (ks : List Worker). setup_of s.offer (layout_in s.calls) s.verifier.0 (length ks)) same

  pub still-sound : IsSoundEngine s → IsSoundEngine (record s { workers = ws })
  still-sound sound = record {
    layout = sound.layout;
    kept = sound.kept;
    stands =
        subst
        (λ (ks : List Worker). StandsFor job_of job_reply_of (setup_of s.offer (layout_in s.calls) s.verifier.0 (length ks))
        (record (world s) { workers = map worker_seen ks }) (books s.desk)) (sym same) sound.stands;
    running = ap (λ (ks : List Worker). length (running_messages ks)) same ∙ sound.running;
    waiting = sound.waiting;
    workers = subst (λ (ks : List Worker). AllByRecursion (IsReady (layout_in s.calls) (length (held_in s))) ks) (sym same) sound.workers;
    few = subst (λ (ks : List Worker). length ks ≤ 64) (sym same) sound.few;
    stamps = sound.stamps;
    keyed = sound.keyed;
    opened = sound.opened;
    owed = λ c x at. sound.owed c x at
        ∙ ap (λ (ks : List Worker). total (room_on c) (messages_of s.calls) + total (room_on c) (running_messages ks)) (sym same);
  }

-- ---- a desk whose books are as before

pub unchanged-sound : (s t : State) → books t.desk ≡ books s.desk → IsKept t.desk → IsSoundEngine s → IsSoundEngine (record s { desk = t.desk })
unchanged-sound s t same kept sound = record {
  layout = ap (λ (b : FilerBooks Files Job JobReply). b.layout) same ∙ sound.layout;
  kept = kept;
  stands = subst (λ (b : FilerBooks Files Job JobReply). StandsFor job_of job_reply_of (setup_in s) (with_books s b) b) (sym same) sound.stands;
  running = sound.running;
  waiting = sound.waiting;
  workers = sound.workers;
  few = sound.few;
  stamps = subst (λ (b : FilerBooks Files Job JobReply). stamps b + running_count s.calls ≤ 2 ^ 62 + 64) (sym same) sound.stamps;
  keyed = sound.keyed;
  opened = sound.opened;
  owed = sound.owed;
}
