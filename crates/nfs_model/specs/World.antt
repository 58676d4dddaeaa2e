-- What is seen of an engine between two events (our profile).
use Rattle.std.specs.Prelude.{IfSome, ◌≤◌, ◌≡◌, ℕ, ◌+◌, Bool, List, [], ◌∷◌, ◌++◌, nat_le, zero, suc}
use Rattle.std.specs.Prelude.{length, map, Option, Some, None, slice_get}
use Rattle.std.specs.List.{AllByRecursion}
use Rattle.nfs_model.specs.Types.{Ask, Refused, Undecoded, Moment, Asked, Reply}
use Rattle.nfs_model.specs.Tree.{Affinity, Layout}
use Rattle.nfs_model.specs.Server.{VolumeState, Server}
use Rattle.nfs_model.specs.Replay.{FinishedCall}
use Rattle.nfs_model.specs.Parts.{Parts, Hand, hand_blocks, Counts, counts}
use Rattle.nfs_model.specs.Work.{Store, Task, Outcome}

-- ---- what the codecs give

-- a record that asks something, under its xid
pub record Heard : Type 0 where
  pub xid : ℕ
  pub asked : Asked

-- a whole stream: its records before the first fault, and that fault's number where it is reached
pub record Scanned : Type 0 where
  pub served : List Heard
  pub fault : Option ℕ

-- how bytes are read and replies are spelled
pub record Codec : Type 0 where
  pub scan : List ℕ → Scanned
  pub reply_record : ℕ → Reply → List ℕ

-- the codecs give a call or a refusal
abbrev pub IsDecoded : Asked → Type 0
IsDecoded (Ask call caller) = Unit {0}
IsDecoded (Refused reply) = Unit {0}
IsDecoded Undecoded = ⊥

-- what the codecs owe: a byte adds at most one record, and none where it reaches a fault
pub record IsScan (codec : Codec) : Type 0 where
  pub nothing : codec.scan [] ≡ record { served = []; fault = None }
  pub further : (came : List ℕ) (b : ℕ) → (codec.scan came).fault ≡ None
      → (more : List Heard) × ((codec.scan (came ++ b ∷ [])).served ≡ (codec.scan came).served ++ more)
      × (length more ≤ 1) × IfSome (codec.scan (came ++ b ∷ [])).fault (λ number. more ≡ [])
  pub decoded : (came : List ℕ) → AllByRecursion (λ h. IsDecoded h.asked) (codec.scan came).served

-- what is fixed for a run
pub record Setup : Type 0 where
  pub codec : Codec
  pub layout : Layout
  pub verifier : List ℕ
  pub workers : ℕ
  pub connections : ℕ  -- the most that may be open at once

-- ---- the world

-- a connection: the bytes taken, when it was closed, the bytes written
pub record Connection : Type 0 where
  pub stream : List ℕ
  pub closed : Option ℕ  -- how many calls were finished at the close
  pub output : List ℕ

-- a call that waits or runs, with its record
pub record Message : Type 0 where
  pub connection : ℕ
  pub number : ℕ
  pub xid : ℕ
  pub asked : Asked
  pub affinity : Affinity  -- to be tried

-- a message that a worker has begun
pub record Running : Type 0 where
  pub message : Message
  pub moment : Moment
  pub outcome : Option Outcome  -- what work came to

-- what a worker runs and carries
pub record Worker : Type 0 where
  pub running : Option Running
  pub hand : Hand

-- all that is seen
pub record World : Type 0 where
  pub connections : List Connection
  pub waiting : List Message
  pub workers : List Worker
  pub finished : List FinishedCall  -- in finishing order
  pub server : Server  -- with the changes of calls that were worked and aren't finished
  pub parts : List Parts  -- of each volume
  pub stamps : ℕ  -- calls finished by a worker, and inner calls made

-- ---- running and hands

-- what a worker runs, before others
abbrev pub with_held : Option Running → List Running → List Running
with_held None rs = rs
with_held (Some r) rs = r ∷ rs

-- what runs, in the order of workers
abbrev pub all_running : List Worker → List Running
all_running [] = []
all_running (k ∷ ks) = with_held k.running (all_running ks)

-- the affinities under which it runs
abbrev pub affinities : List Running → List Affinity
affinities rs = map (λ r. r.message.affinity) rs

-- the blocks of a volume in all hands
abbrev pub hands_blocks : ℕ → List Worker → List ℕ
hands_blocks volume [] = []
hands_blocks volume (k ∷ ks) = hand_blocks volume k.hand ++ hands_blocks volume ks

-- ---- what calls run on

-- the server, and the parts of each volume
abbrev pub store_of : World → Store
store_of w = record { server = w.server; parts = w.parts }

-- what a worker works on
abbrev pub task_of : Running → Task
task_of r = record { asked = r.message.asked; affinity = r.message.affinity; moment = r.moment }

-- the counts of a volume's parts, if there is such a volume
abbrev pub counts_if : Option VolumeState → Option Parts → List ℕ → Option Counts
counts_if None p in_hands = None
counts_if (Some volume) None in_hands = None
counts_if (Some volume) (Some p) in_hands = Some (counts volume p in_hands)

-- how many block numbers of a volume are where
abbrev pub counts_of : World → ℕ → Option Counts
counts_of w volume =
    counts_if (slice_get w.server.volumes volume) (slice_get w.parts volume) (hands_blocks volume w.workers)

-- ---- changes

-- a list with a function at one place
abbrev pub changed_at : {X : Type 0} → (X → X) → List X → ℕ → List X
changed_at f [] i = []
changed_at f (x ∷ xs) zero = f x ∷ xs
changed_at f (x ∷ xs) (suc i) = x ∷ changed_at f xs i

-- a worker that runs this
abbrev pub with_running : Option Running → Worker → Worker
with_running running k = record k { running = running }

-- a worker that carries this
abbrev pub with_hand : Hand → Worker → Worker
with_hand hand k = record k { hand = hand }

-- bytes written where a connection isn't closed
abbrev pub written_to : List ℕ → Option ℕ → Connection → Connection
written_to bytes None x = record x { output = x.output ++ bytes }
written_to bytes (Some n) x = x

-- a connection with bytes written
abbrev pub with_output : List ℕ → Connection → Connection
with_output bytes x = written_to bytes x.closed x

-- a call finished, and its reply written where its connection is open
abbrev pub finish : Setup → World → FinishedCall → Reply → World
finish setup w e reply = record w {
  finished = w.finished ++ e ∷ [];
  connections = changed_at (with_output (setup.codec.reply_record e.xid reply)) w.connections e.connection;
}

-- how many messages may wait or run
abbrev pub most_messages : ℕ
most_messages = 1024

-- no more message may wait or run
abbrev pub is_crowded : World → Bool
is_crowded w = nat_le most_messages (length w.waiting + length (all_running w.workers))
