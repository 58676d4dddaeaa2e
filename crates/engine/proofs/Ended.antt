-- A message ended: the world after it, and what holds beside the world.
use Rattle.std.proofs.Common.{◌≡◌, ℕ, zero, suc, ◌+◌, Bool, List, [], ◌∷◌, ◌++◌, map, Option, Some, None, refl, sym, ap, ◌∙◌, subst, arith}
use Rattle.std.specs.Prelude.{is_none, if◌then◌else◌, slice_get, slice_set}
use native.Mathlib.Decide.{ℕ_discrete}
use mathlib.Core.Logic.{dite}
use Rattle.nfs_model.specs.Types as types
use Rattle.nfs_model.specs.World as worlds
use Rattle.nfs_model.specs.World.{Setup, World, changed_at, finish, with_running, with_output, written_to}
use Rattle.nfs_model.specs.Tree.{Affinity}
use Rattle.nfs_model.specs.Parts.{Parts, Hand}
use Rattle.nfs_model.specs.Work as works
use Rattle.nfs_model.specs.Server.{Server}
use Rattle.nfs_model.specs.Events.Refusals.{open_count}
use Rattle.nfs_model.specs.Events.Step.{finished_by, stamp_added, without_call}
use Rattle.nfs_values.specs.declared.call.Call.{Call}
use Rattle.nfs_values.specs.Moment.{moment_of}
use Rattle.scheduler.specs.declared.message.Message.{Message}
use Rattle.engine_feed.specs.declared.state.CallsState.{CallsState}
use Rattle.engine_feed.specs.declared.state.ConnectionState.{ConnectionState}
use Rattle.engine_feed.specs.Seen.{owed_by, message_of, waiting_of, finished_of, finished_message}
use Rattle.engine_feed.specs.Codec.{reply_record}
use Rattle.engine_feed.specs.Within.{Shows}
use Rattle.engine_feed.specs.Words.{HasPutBack}
use Rattle.engine.specs.Connections.{Held, Open}
use Rattle.engine.specs.declared.worker.Running.{Running}
use Rattle.engine.specs.declared.worker.Worker.{Worker}
use Rattle.engine.specs.declared.worker.WorkerRun.{WorkerRun}
use Rattle.engine.specs.declared.worker.WorkerRun.TheVariants.{Idle}
use Rattle.engine.specs.Sound.{room_on}
use Rattle.engine.specs.Ending.{EndsIn, OwesLess}
use Rattle.engine.specs.Workers.{worker_with}
use Rattle.engine.specs.Seen.{connection_seen, worker_seen}
use Rattle.engine.proofs.Placed.{room-own, room-other}
use Rattle.engine.proofs.Lists.{set-here, set-elsewhere, inner}
use Rattle.engine.proofs.Workers.{seen-ran}
use Rattle.engine.proofs.Closing.{seen-at as connection-at, seen-set as connections-set}

-- ---- the worlds after

-- what is seen of calls, workers and what they run on
abbrev pub world_after : World → CallsState → List Worker → List Held → Server → List Parts → ℕ → World
world_after w calls ks cs server parts stamps = record w {
  connections = map connection_seen cs;
  waiting = waiting_of calls;
  workers = map worker_seen ks;
  finished = finished_of calls;
  server = server;
  parts = parts;
  stamps = stamps;
}

-- the world in which a moved message waits again
pub back-world : (w : World) (calls calls' : CallsState) (m : Message Call) → Shows calls w → HasPutBack calls m calls'
    → (setup : Setup) (cs : List Held) → map connection_seen cs ≡ w.connections
    → (ks new : List Worker) (i : ℕ) (was : WorkerRun) (hand : Hand) → w.workers ≡ map worker_seen ks
    → slice_get ks i ≡ Some (worker_with was hand) → new ≡ slice_set ks i (worker_with Idle hand)
    → (r : worlds.Running) (a : Affinity) → message_of m ≡ record r.message { affinity = a }
    → (server : Server) (parts : List Parts) (stamps : ℕ) → server ≡ w.server → parts ≡ w.parts → stamps ≡ w.stamps
    → world_after w calls' new cs server parts stamps ≡ finished_by setup w i r (works.Moved a)
back-world w calls calls' m shows h setup cs conns ks new i was hand workers held set r a is server parts stamps same_server same_parts same_stamps =
    let waits = h.waits w shows in
    λ j. record w {
      connections = conns j;
      waiting = (ap (λ (x : World). x.waiting) waits ∙ ap (λ (x : worlds.Message). w.waiting ++ x ∷ []) is) j;
      workers = (ap (λ xs. map worker_seen xs) set ∙ seen-ran ks i was Idle hand held ∙ ap (λ xs. changed_at (with_running None) xs i) (sym workers)) j;
      finished = (ap (λ (x : World). x.finished) waits) j;
      server = same_server j;
      parts = same_parts j;
      stamps = same_stamps j;
    }

-- the world in which a message is finished
pub ended-world : (w : World) (calls calls' : CallsState) (place place' : Held) (r : Running) (reply told : types.Reply) (starved : Bool) (count : ℕ)
    → EndsIn calls place r told starved count calls' place' → (setup : Setup)
    → setup.codec.reply_record r.message.origin.xid reply ≡ reply_record r.message.origin.xid told → Shows calls w
    → (cs new_cs : List Held) → w.connections ≡ map connection_seen cs → slice_get cs r.message.origin.connection.0 ≡ Some place
    → new_cs ≡ slice_set cs r.message.origin.connection.0 place'
    → (ks new : List Worker) (i : ℕ) (was : WorkerRun) (hand : Hand) → w.workers ≡ map worker_seen ks
    → slice_get ks i ≡ Some (worker_with was hand) → new ≡ slice_set ks i (worker_with Idle hand)
    → (server : Server) (parts : List Parts) (stamps : ℕ) → server ≡ w.server → parts ≡ w.parts → stamps ≡ w.stamps + 1
    → world_after w calls' new new_cs server parts stamps
    ≡ finish setup (stamp_added (without_call w i)) (finished_message r.message (moment_of r.moment) starved) reply
ended-world w calls calls' place place' r reply told starved count ends setup is_codec shows cs new_cs conns there set_cs ks new i was hand workers held set
    server parts stamps
    same_server same_parts more_stamps =
    let n = r.message.origin.connection.0 in
    let v : World = stamp_added (without_call w i) in
    let at : slice_get v.connections n ≡ Some (connection_seen place) = ap (λ xs. slice_get xs n) conns ∙ connection-at cs n place there in
    let done = ends setup v reply is_codec (record { waiting = shows.waiting; finished = shows.finished }) at in
    (λ j. record w {
      connections = (ap (λ xs. map connection_seen xs) set_cs ∙ connections-set (λ x. connection_seen place') cs n place place' there refl
          ∙ ap (λ xs. changed_at (λ x. connection_seen place') xs n) (sym conns)) j;
      waiting = waiting_of calls';
      workers = (ap (λ xs. map worker_seen xs) set ∙ seen-ran ks i was Idle hand held ∙ ap (λ xs. changed_at (with_running None) xs i) (sym workers)) j;
      finished = finished_of calls';
      server = same_server j;
      parts = same_parts j;
      stamps = more_stamps j;
    }) ∙ done.0

-- ---- what holds beside the world

-- one for a connection that is open
abbrev open_one : Option ℕ → ℕ
open_one closed = if is_none closed then 1 else 0

still-open : (bytes : List ℕ) (k : Option ℕ) (x : worlds.Connection) → open_one (written_to bytes k x).closed ≡ open_one x.closed
still-open bytes None x = refl
still-open bytes (Some n) x = refl

-- as many are open after bytes were written
count-written : (bytes : List ℕ) (cs : List worlds.Connection) (n : ℕ) → open_count (changed_at (with_output bytes) cs n) ≡ open_count cs
count-written bytes [] n = refl
count-written bytes (x ∷ cs) zero = ap (λ k. k + open_count cs) (still-open bytes x.closed x)
count-written bytes (x ∷ cs) (suc n) = ap (λ k. open_one x.closed + k) (count-written bytes cs n)

-- and so after a message of one of them was finished
pub count-ended : (w : World) (calls calls' : CallsState) (place place' : Held) (r : Running) (reply told : types.Reply) (starved : Bool) (count : ℕ)
    → EndsIn calls place r told starved count calls' place' → (setup : Setup)
    → setup.codec.reply_record r.message.origin.xid reply ≡ reply_record r.message.origin.xid told → Shows calls w
    → (cs new_cs : List Held) → w.connections ≡ map connection_seen cs → slice_get cs r.message.origin.connection.0 ≡ Some place
    → new_cs ≡ slice_set cs r.message.origin.connection.0 place'
    → open_count (map connection_seen new_cs) ≡ open_count (map connection_seen cs)
count-ended w calls calls' place place' r reply told starved count ends setup is_codec shows cs new_cs conns there set_cs =
    let n = r.message.origin.connection.0 in
    let done = ends setup w reply is_codec shows (ap (λ xs. slice_get xs n) conns ∙ connection-at cs n place there) in
    ap (λ xs. open_count (map connection_seen xs)) set_cs
    ∙ ap open_count (connections-set (λ x. connection_seen place') cs n place place' there refl)
    ∙ ap (λ xs. open_count (changed_at (λ x. connection_seen place') xs n)) (sym conns)
    ∙ ap (λ (x : World). open_count x.connections) done.0
    ∙ count-written (setup.codec.reply_record r.message.origin.xid reply) w.connections n
    ∙ ap open_count conns

-- what connections owe after it
pub owes-after : (cs new_cs : List Held) (m : Message Call) (place place' : Held) → slice_get cs m.origin.connection.0 ≡ Some place
    → new_cs ≡ slice_set cs m.origin.connection.0 place' → OwesLess m place place'
    → (before after : ℕ → ℕ) → ((n : ℕ) → after n + room_on n m ≡ before n)
    → ((n : ℕ) (x : ConnectionState) → slice_get cs n ≡ Some (Open x) → owed_by x ≡ before n)
    → (n : ℕ) (x : ConnectionState) → slice_get new_cs n ≡ Some (Open x) → owed_by x ≡ after n
owes-after cs new_cs m place place' there set owes before after less owed n x at =
    dite (ℕ_discrete n m.origin.connection.0)
    (λ e.
    let here : place' ≡ Open x = inner place' (Open x) (sym (set-here cs m.origin.connection.0 place place' there)
    ∙ ap (λ xs. slice_get xs m.origin.connection.0) (sym set) ∙ subst (λ k. slice_get new_cs k ≡ Some (Open x)) e at) in
    let was = owes x here in
    let old = owed m.origin.connection.0 was.0 (there ∙ ap Some was.1) in
    let room = room-own m.origin.connection.0 m refl in
    let sum = less m.origin.connection.0 in
    let told = was.2 in
    let one : owed_by x ≡ after m.origin.connection.0 = omega (arith, old, room, sum, told) in
    subst (λ k. owed_by x ≡ after k) (sym e) one)
    (λ ne.
    let old = owed n x (sym (set-elsewhere cs m.origin.connection.0 n place' ne) ∙ ap (λ xs. slice_get xs n) (sym set) ∙ at) in
    let room = room-other n m (λ e. ne (sym e)) in
    let sum = less n in
    let one : owed_by x ≡ after n = omega (arith, old, room, sum) in one)
