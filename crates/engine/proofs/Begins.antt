-- A message begins: the world and what holds beside it, by the parts of a state that change.
use Rattle.std.proofs.Common.{◌≡◌, ℕ, ◌<◌, ◌≤◌, true, false, List, [], ◌∷◌, map, length, Option, Some, None, refl, sym, ap, ◌∙◌, subst, arith}
use Rattle.std.specs.Prelude.{slice_get, slice_set, option_map}
use Rattle.std.proofs.lemmas.Bool.{le-leb, lt-leb}
use Rattle.std.proofs.lemmas.List.{length-append}
use Rattle.std.proofs.lemmas.Option.{slice_get-map}
use mathlib.Core.Option.{some}
use Rattle.nfs_model.specs.World as worlds
use Rattle.nfs_model.specs.Server.{Server}
use Rattle.nfs_model.specs.Parts.{Parts, Hand}
use Rattle.nfs_model.specs.World.{Setup, World, changed_at, with_running}
use Rattle.nfs_model.specs.Events.Step.{begun}
use Rattle.nfs_model.specs.Types.{Moment}
use Rattle.nfs_model.specs.Events.Refusals.{Begin, is_idle, is_bad_moment, refusal}
use Rattle.nfs_model.specs.Tree.{Affinity}
use Rattle.nfs_values.specs.Moment.{moment_of}
use Rattle.nfs_values.specs.declared.call.Call.{Call}
use Rattle.affinity.specs.declared.affinity.CallNode.{CallNode}
use Rattle.scheduler.specs.declared.message.Message.{Message}
use Rattle.filer_state.specs.state.Contents.{filer_contents}
use Rattle.filer_state.specs.state.Tree.{server_of}
use Rattle.filer_state.specs.state.Partition.{all_parts}
use Rattle.filer_state.specs.state.Parcels.{FilerParcel}
use Rattle.filer_state.specs.state.Jobs.{Job, JobReply}
use Rattle.desk.specs.laws.Books.{Lent, IsIdle, now, stamps}
use Rattle.desk.specs.laws.Calls as desks
use Rattle.engine.specs.laws.Store.{FilerBooks, RunsOn, StandsFor}
use Rattle.engine.specs.laws.lemmas.Beginning.{same-now}
use Rattle.engine.specs.laws.lemmas.Changing.{lent-at}
use Rattle.engine_feed.specs.declared.state.CallsState.{CallsState}
use Rattle.engine_feed.specs.Seen.{message_of, messages_of, waiting_of}
use Rattle.engine_feed.specs.Within.{Shows}
use Rattle.engine_feed.specs.Words.{HasBegun}
use Rattle.engine.specs.declared.worker.Running.{Running}
use Rattle.engine.specs.declared.worker.Worker.{Worker}
use Rattle.engine.specs.declared.worker.WorkerRun.{WorkerRun}
use Rattle.engine.specs.declared.worker.WorkerRun.TheVariants.{Idle, Begun, Worked}
use Rattle.engine.specs.Connections.{Held}
use Rattle.engine.specs.Sound.{messages_in, running_messages}
use Rattle.engine.specs.Seen.{connection_seen, worker_seen}
use Rattle.engine.specs.Workers.{worker_with}
use Rattle.engine.proofs.Ended.{world_after}
use Rattle.engine.proofs.Lists.{inner}
use Rattle.engine.proofs.Workers.{seen-ran}

-- a worker that isn't idle is refused
pub begin-busy : (setup : Setup) (w : World) (worker place : ℕ) (moment : Moment) → is_idle (slice_get w.workers worker) ≡ false
    → refusal setup w (Begin worker place moment) ≡ Some 33
begin-busy setup w worker place moment busy = rw busy refl

-- where none waits at the place, after that
pub begin-missing : (setup : Setup) (w : World) (worker place : ℕ) (moment : Moment) → is_idle (slice_get w.workers worker) ≡ true
    → slice_get w.waiting place ≡ None → refusal setup w (Begin worker place moment) ≡ Some 32
begin-missing setup w worker place moment idle none = rw (idle, none) refl

none-found : (o : Option (Message Call)) → None ≡ option_map (λ (m : Message Call). m.affinity) o → o ≡ None
none-found None e = refl
none-found (Some m) e = absurd cc

pub none-waits : (calls : CallsState) (place : ℕ) → None ≡ option_map (λ (m : Message Call). m.affinity) (slice_get (messages_of calls) place)
    → slice_get (waiting_of calls) place ≡ None
none-waits calls place e =
    slice_get-map message_of (messages_of calls) place ∙ ap (option_map message_of) (none-found (slice_get (messages_of calls) place) e)

-- a moment of a whole second or more of nanoseconds is refused, after what comes before it
pub bad-moment : (setup : Setup) (w : World) (worker place : ℕ) (moment : Moment) (m : worlds.Message) → is_idle (slice_get w.workers worker) ≡ true
    → slice_get w.waiting place ≡ Some m → 1000000000 ≤ moment.nanoseconds → refusal setup w (Begin worker place moment) ≡ Some 37
bad-moment setup w worker place moment m idle there late =
    rw (idle, there, le-leb 1000000000 moment.nanoseconds late) refl

pub good-moment : (moment : Moment) → moment.nanoseconds < 1000000000 → is_bad_moment moment ≡ false
good-moment moment early = lt-leb 1000000000 moment.nanoseconds early

-- an idle worker was lent nothing
pub idle-lent : {P C R : Type 0} (job : C → Job) (told : R → JobReply) (setup : Setup) (w : World) (b : FilerBooks P C R) → StandsFor job told setup w b
    → (i : ℕ) (k : worlds.Worker) → slice_get w.workers i ≡ Some k → k.running ≡ None → IsIdle b i
idle-lent {P} {C} {R} job told setup w b s i k there idle =
    let at = lent-at setup b w.workers b.lent i k s.workers there in
    at.1 ∙ ap some (none at.0 (subst (λ o. RunsOn setup b o at.0) idle at.2))
  where
    none : (x : Option (Lent (FilerParcel P))) → RunsOn setup b None x → x ≡ None
    none None run = refl
    none (Some l) run = absurd run

-- the message that tries what was told of a place
pub found-message : (a : CallNode) (o : Option (Message Call)) → Some a ≡ option_map (λ (m : Message Call). m.affinity) o
    → (m : Message Call) × (o ≡ Some m) × (a ≡ m.affinity)
found-message a None e = absurd cc
found-message a (Some m) e = (m, refl, (let same : a ≡ m.affinity = cc in same))

-- a message that waits, as it is seen
pub waits-at : (calls : CallsState) (place : ℕ) (m : Message Call) → slice_get (messages_of calls) place ≡ Some m
    → slice_get (waiting_of calls) place ≡ Some (message_of m)
waits-at calls place m there = slice_get-map message_of (messages_of calls) place ∙ ap (λ o. option_map message_of o) there

-- a world with other parts
abbrev pub with_store : World → Server → List Parts → ℕ → World
with_store w server parts stamps = record w { server = server; parts = parts; stamps = stamps }

-- the world in which a message was begun
pub begun-world : (w : World) (calls calls' : CallsState) (place : ℕ) (m : Message Call) (h : HasBegun calls place m calls') → Shows calls w
    → (cs : List Held) → map connection_seen cs ≡ w.connections
    → (ks new : List Worker) (i : ℕ) (r : Running) (hand : Hand) → r.message ≡ m → w.workers ≡ map worker_seen ks
    → slice_get ks i ≡ Some (worker_with Idle hand) → new ≡ slice_set ks i (worker_with (Begun r) hand)
    → (server : Server) (parts : List Parts) (stamps : ℕ) → server ≡ w.server → parts ≡ w.parts → stamps ≡ w.stamps
    → world_after w calls' new cs server parts stamps ≡ begun w i place (message_of m) (moment_of r.moment)
begun-world w calls calls' place m h shows cs conns ks new i r hand is workers there set server parts stamps same_server same_parts same_stamps =
    let at = h.begins w shows in
    λ j. record w {
      connections = conns j;
      waiting = (ap (λ (x : World). x.waiting) at.1) j;
      workers = (ap (λ xs. map worker_seen xs) set ∙ seen-ran ks i Idle (Begun r) hand there
          ∙ (λ k. changed_at (with_running (Some (record { message = message_of (is k); moment = moment_of r.moment; outcome = None }))) (sym workers k) i)) j;
      finished = (ap (λ (x : World). x.finished) at.1) j;
      server = same_server j;
      parts = same_parts j;
      stamps = same_stamps j;
    }

-- the world stays where the books do
pub same-books : {P C R : Type 0} (w : World) (b c : FilerBooks P C R) → c ≡ b
    → with_store w (server_of (filer_contents c.layout (now c))) (all_parts (filer_contents c.layout (now c))) (stamps c)
    ≡ with_store w (server_of (filer_contents b.layout (now b))) (all_parts (filer_contents b.layout (now b))) (stamps b)
same-books {P} {C} {R} w b c same =
    ap (λ (x : FilerBooks P C R). with_store w (server_of (filer_contents x.layout (now x))) (all_parts (filer_contents x.layout (now x))) (stamps x)) same

-- ---- what the desk's begin leaves

module _ {P C R : Type 0} (b c : FilerBooks P C R) (i : ℕ) (a : Affinity) (h : desks.HasBegun b i a c) where
  pub begun-layout : c.layout ≡ b.layout
  begun-layout = ap (λ (x : FilerBooks P C R). x.layout) h.books

  pub begun-server : server_of (filer_contents c.layout (now c)) ≡ server_of (filer_contents b.layout (now b))
  begun-server = λ j. server_of (filer_contents (begun-layout j) (same-now b c h.same j))

  pub begun-parts : all_parts (filer_contents c.layout (now c)) ≡ all_parts (filer_contents b.layout (now b))
  begun-parts = λ j. all_parts (filer_contents (begun-layout j) (same-now b c h.same j))

  pub begun-stamps : stamps c ≡ stamps b
  begun-stamps = ap (λ (x : FilerBooks P C R). stamps x) h.books

-- ---- lists of messages

pub tried-affinity : (a : CallNode) (o : Option (Message Call)) (m : Message Call) → Some a ≡ option_map (λ (x : Message Call). x.affinity) o → o ≡ Some m
    → a ≡ m.affinity
tried-affinity a o m told there = inner a m.affinity (told ∙ ap (λ p. option_map (λ (x : Message Call). x.affinity) p) there)

pub few-run : (ks : List Worker) → length (running_messages ks) ≤ length ks
few-run [] = omega arith
few-run (k ∷ ks) =
    let one = at-most-one k.run in
    let others = few-run ks in
    let joined = length-append (messages_in k.run) (running_messages ks) in
    omega (arith, one, others, joined)
  where
    at-most-one : (run : WorkerRun) → length (messages_in run) ≤ 1
    at-most-one Idle = omega arith
    at-most-one (Begun r) = omega arith
    at-most-one (Worked r outcome) = omega arith
