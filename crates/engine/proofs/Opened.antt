-- An engine at the start.
use Rattle.std.proofs.Common.{◌≡◌, ℕ, zero, suc, ◌+◌, ◌≤◌, List, [], ◌∷◌, length, map, replicate, Option, Some, None, refl, sym, ap, ◌∙◌, subst}
use Rattle.std.proofs.Common.{arith}
use Rattle.std.specs.Prelude.{◌^◌, slice_get}
use Rattle.std.specs.List.{AllByRecursion}
use Rattle.std.proofs.lemmas.List.{length-replicate}
use Rattle.nfs_model.specs.Tree.{Layout}
use Rattle.nfs_model.specs.Parts.{Empty}
use Rattle.nfs_model.specs.World.{Setup, World, Worker, Connection, Message}
use Rattle.nfs_model.specs.Replay.{FinishedCall}
use Rattle.nfs_model.specs.Events.Refusals.{open_count}
use Rattle.nfs_model.specs.Headline.{opening_world}
use Rattle.nfs_values.specs.declared.call.Call.{Call}
use Rattle.affinity.specs.Fault.{fault_of}
use Rattle.scheduler.specs.declared.message.Message as scheduled
use Rattle.filer_state.specs.state.Parcels.{FilerParcel}
use Rattle.filer_state.specs.state.Contents.{filer_contents}
use Rattle.filer_state.specs.state.Tree.{server_of}
use Rattle.filer_state.specs.state.Partition.{all_parts}
use Rattle.filer_state.specs.state.Opening.{AreOpening}
use Rattle.filer_state.specs.laws.Laws.{OpensSound, OpensAsServer, OpensFree}
use Rattle.desk.specs.laws.Books.{now, stamps, opening_books}
use Rattle.engine.specs.laws.Store.{FilerBooks, StandsFor}
use Rattle.engine.specs.laws.lemmas.Opening.{opening-stands}
use Rattle.service.specs.declared.job.Job.{Job}
use Rattle.service.specs.declared.job.JobReply.{JobReply}
use Rattle.service.specs.Jobs.{job_of, job_reply_of}
use Rattle.rpc_msg.specs.declared.offer.Offer.{Offer}
use Rattle.engine_feed.specs.declared.state.CallsState.{CallsState}
use Rattle.engine_feed.specs.Seen.{layout_in, messages_of, message_of, waiting_of, finished_of, running_count}
use Rattle.engine_feed.specs.Streams.{codec}
use Rattle.engine_feed.specs.Words.{AreNew}
use Rattle.engine.specs.declared.worker.Worker as workers
use Rattle.engine_feed.specs.declared.state.ConnectionState.{ConnectionState}
use Rattle.slab.specs.Slab.{Slab, slab_len, entries_from}
use Rattle.slab.proofs.SlabLemmas.{length-entries}
use Rattle.engine.specs.declared.connection.Connection as connecting
use Rattle.engine.specs.Connections.{Held, AreKeyed}
use Rattle.engine.specs.Seen.{connection_seen, worker_seen, setup_of}
use Rattle.engine.specs.Sound.{running_messages, IsReady}
use Rattle.engine.specs.Workers.{idle_worker}

-- ---- idle workers

idle-seen : (n : ℕ) → map worker_seen (replicate n idle_worker) ≡ replicate n (record { running = None; hand = Empty })
idle-seen zero = refl
idle-seen (suc n) = ap (λ ks. worker_seen idle_worker ∷ ks) (idle-seen n)

idle-run : (n : ℕ) → running_messages (replicate n idle_worker) ≡ []
idle-run zero = refl
idle-run (suc n) = idle-run n

idle-ready : (layout : Layout) (connections n : ℕ) → AllByRecursion (IsReady layout connections) (replicate n idle_worker)
idle-ready layout connections zero = tt
idle-ready layout connections (suc n) = ((tt, tt), idle-ready layout connections n)

-- this many idle workers: how many they are, what is seen of them, and what they run
module _ (ks : List workers.Worker) (n : ℕ) (are : ks ≡ replicate n idle_worker) where
  idle-count : length ks ≡ n
  idle-count = ap (λ (xs : List workers.Worker). length xs) are ∙ length-replicate n idle_worker

  idle-workers : map worker_seen ks ≡ replicate n (record { running = None; hand = Empty })
  idle-workers = ap (λ xs. map worker_seen xs) are ∙ idle-seen n

  idle-messages : running_messages ks ≡ []
  idle-messages = ap running_messages are ∙ idle-run n

  idle-are-ready : (layout : Layout) (connections : ℕ) → AllByRecursion (IsReady layout connections) ks
  idle-are-ready layout connections = subst (λ xs. AllByRecursion (IsReady layout connections) xs) (sym are) (idle-ready layout connections n)

-- ---- the world

-- what is seen, with what books stand for
abbrev pub world_seen : {P : Type 0} → FilerBooks P Job JobReply → List Connection → List Message → List Worker → List FinishedCall → World
world_seen b connections waiting ks finished = record {
  connections = connections;
  waiting = waiting;
  workers = ks;
  finished = finished;
  server = server_of (filer_contents b.layout (now b));
  parts = all_parts (filer_contents b.layout (now b));
  stamps = stamps b;
}

opens-world : {P : Type 0} (setup : Setup) (b : FilerBooks P Job JobReply) → StandsFor job_of job_reply_of setup (opening_world setup) b
    → (connections : List Connection) (waiting : List Message) (ks : List Worker) (finished : List FinishedCall)
    → connections ≡ [] → waiting ≡ [] → ks ≡ replicate setup.workers (record { running = None; hand = Empty }) → finished ≡ []
    → world_seen b connections waiting ks finished ≡ opening_world setup
opens-world setup b stands connections waiting ks finished none waits idle done = λ j. record {
  connections = none j;
  waiting = waits j;
  workers = idle j;
  finished = done j;
  server = sym stands.server j;
  parts = sym stands.parts j;
  stamps = sym stands.stamps j;
}

-- the books of a desk, calls, workers and connections at the start
pub record AreOpened {P : Type 0} (verifier : List ℕ) (b : FilerBooks P Job JobReply) (calls : CallsState) (ks : List workers.Worker)
    (connections : List Held) : Type 0 where
  pub layout : Layout
  pub count : ℕ
  pub few : count ≤ 64
  pub parcels : ℕ → Option (FilerParcel P)
  pub lawful : fault_of layout ≡ None
  pub opening : AreOpening layout verifier parcels
  pub books : b ≡ opening_books layout parcels count
  pub given : Layout
  pub new : AreNew given calls
  pub same : given ≡ layout
  pub workers : ks ≡ replicate count idle_worker
  pub none : connections ≡ []

module _ {P : Type 0} (verifier : List ℕ) (b : FilerBooks P Job JobReply) (calls : CallsState) (ks : List workers.Worker)
    (connections : List Held) (h : AreOpened verifier b calls ks connections) where
  pub same-layout : b.layout ≡ layout_in calls
  same-layout = ap (λ (x : FilerBooks P Job JobReply). x.layout) h.books ∙ sym h.same ∙ sym h.new.layout

  pub none-run : length (running_messages ks) ≡ running_count calls
  none-run = ap (λ ms. length ms) (idle-messages ks h.count h.workers) ∙ sym h.new.running

  pub no-stamps : stamps b + running_count calls ≤ 2 ^ 62 + 64
  no-stamps =
      let none = ap (λ (x : FilerBooks P Job JobReply). stamps x) h.books in
      let still = h.new.running in
      omega (arith, none, still)

  pub none-wait : (Q : scheduled.Message Call → Type 0) → AllByRecursion Q (messages_of calls)
  none-wait Q = subst (λ ms. AllByRecursion Q ms) (sym h.new.waiting) tt

  pub none-ready : AllByRecursion (IsReady (layout_in calls) (length connections)) ks
  none-ready = idle-are-ready ks h.count h.workers (layout_in calls) (length connections)

  pub setup-opened : (offer : Offer) → setup_of offer (layout_in calls) verifier (length ks) ≡ setup_of offer h.layout verifier h.count
  setup-opened offer = λ j. setup_of offer ((h.new.layout ∙ h.same) j) verifier (idle-count ks h.count h.workers j)

  pub few-workers : length ks ≤ 64
  few-workers = subst (λ n. n ≤ 64) (sym (idle-count ks h.count h.workers)) h.few

  pub none-open : 0 ≡ open_count (map connection_seen connections)
  none-open = sym (ap (λ xs. open_count (map connection_seen xs)) h.none)

module _ {P : Type 0} (sound : OpensSound P) (server : OpensAsServer P) (free : OpensFree P) (verifier : List ℕ) (b : FilerBooks P Job JobReply)
    (calls : CallsState) (ks : List workers.Worker) (connections : List Held) (h : AreOpened verifier b calls ks connections) (offer : Offer) where
  abbrev setup : Setup
  setup = record { codec = codec offer; layout = layout_in calls; verifier = verifier; workers = length ks; connections = 64 }

  abbrev setup_asked : Setup
  setup_asked = setup_of offer h.layout verifier h.count

  abbrev seen : World
  seen = world_seen b (map connection_seen connections) (waiting_of calls) (map worker_seen ks) (finished_of calls)

  setup-is : setup ≡ setup_asked
  setup-is = λ j. record {
    codec = codec offer;
    layout = (h.new.layout ∙ h.same) j;
    verifier = verifier;
    workers = idle-count ks h.count h.workers j;
    connections = 64;
  }

  opens-stand : StandsFor job_of job_reply_of setup_asked (opening_world setup_asked) b
  opens-stand = subst (λ (x : FilerBooks P Job JobReply). StandsFor job_of job_reply_of setup_asked (opening_world setup_asked) x) (sym h.books)
      (opening-stands job_of job_reply_of sound server free setup_asked h.lawful h.parcels h.opening)

  pub seen-opens : seen ≡ opening_world setup
  seen-opens =
      opens-world setup_asked b opens-stand (map connection_seen connections) (waiting_of calls) (map worker_seen ks) (finished_of calls)
      (ap (λ xs. map connection_seen xs) h.none) (ap (λ xs. map message_of xs) h.new.waiting) (idle-workers ks h.count h.workers) h.new.finished
      ∙ ap opening_world (sym setup-is)

  pub seen-stands : StandsFor job_of job_reply_of setup seen b
  seen-stands = subst (λ w. StandsFor job_of job_reply_of setup w b) (sym seen-opens)
      (subst (λ (s : Setup). StandsFor job_of job_reply_of s (opening_world s) b) (sym setup-is) opens-stand)

-- no connection is there
pub none-there : {X Y : Type 0} (xs : List X) → xs ≡ [] → (i : ℕ) (x : X) → slice_get xs i ≡ Some x → Y
none-there xs none i x there = let no : None ≡ Some x = ap (λ ys. slice_get ys i) (sym none) ∙ there in absurd cc

-- no connection is there, and none is kept
pub none-keyed : (cs : List connecting.Connection) (slab : Slab ConnectionState) → cs ≡ [] → AreKeyed cs slab
none-keyed cs slab none = record {
  kept = λ i key at. none-there cs none i _ at;
  apart = λ i j key at other. none-there cs none i _ at;
}

pub none-kept : (slab : Slab ConnectionState) → slab.slots ≡ [] → slab_len slab ≡ 0
none-kept slab none = sym (length-entries slab) ∙ ap (λ slots. length (entries_from 0 slots)) none
