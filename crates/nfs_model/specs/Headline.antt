-- What holds after every event (our profile; records of a stream: RFC 5531 section 11).
use Rattle.std.specs.Prelude.{◌≡◌, ℕ, ◌+◌, ◌*◌, ◌≤◌, true, false, IsTrue, ◌&&◌, ◌==◌, nat_lt, List, [], ◌∷◌, ◌++◌, length, take, map, replicate, Option, Some}
use Rattle.std.specs.Prelude.{None, IfSome, slice_get, if◌then◌else◌}
use Rattle.std.specs.List.{AllByRecursion, list_any, range_with_len}
use Rattle.std.specs.FinSet.{from_list, empty}
use Rattle.nfs_model.specs.Types.{Asked, Ask, Refused, Undecoded, Reply, Moment}
use Rattle.nfs_model.specs.Tree.{Affinity, Layout, VolumeLayout, excludes, begins, path}
use Rattle.nfs_model.specs.Server.{VolumeState, Server, opening, start_of_times}
use Rattle.nfs_model.specs.Serial.Step.{serial}
use Rattle.nfs_model.specs.Serial.Starve.{may_starve_at_decoding, may_starve_later}
use Rattle.nfs_model.specs.Home.{home_of_asked}
use Rattle.nfs_model.specs.Replay.{FinishedCall, server_after, replay, AreLawful}
use Rattle.nfs_model.specs.Parts.{Parts, Empty, one_if, count, IsPartition}
use Rattle.nfs_model.specs.Work.{Outcome, Replied, Starved, Moved}
use Rattle.nfs_model.specs.World.{Heard, Codec, Setup, World, Connection, Message, Running, all_running, affinities, hands_blocks}

-- the server as a run begins
abbrev pub start : Setup → Server
start setup = opening setup.layout setup.verifier

-- ---- bytes

-- the reply records of a connection's finished calls
abbrev pub records_of : Codec → ℕ → List FinishedCall → List Reply → List ℕ
records_of codec c [] rs = []
records_of codec c (e ∷ es) [] = []
records_of codec c (e ∷ es) (r ∷ rs) = (if e.connection == c then codec.reply_record e.xid r else []) ++ records_of codec c es rs

-- those of a replay of all finished calls
abbrev pub replies : Codec → ℕ → Server → List FinishedCall → List ℕ
replies codec c server es = records_of codec c es (replay server es)

-- those finished before a close
abbrev pub up_to : Option ℕ → List FinishedCall → List FinishedCall
up_to None es = es
up_to (Some n) es = take n es

-- ---- records

-- the records of a connection's stream
abbrev pub served : Setup → Connection → List Heard
served setup x = (setup.codec.scan x.stream).served

-- how many finished calls are of a record
abbrev pub tally_finished : ℕ → ℕ → List FinishedCall → ℕ
tally_finished c n es = count (λ e. (e.connection == c) && (e.number == n)) es

-- how many messages are of a record
abbrev pub tally_messages : ℕ → ℕ → List Message → ℕ
tally_messages c n ms = count (λ m. (m.connection == c) && (m.number == n)) ms

-- the messages that run
abbrev pub messages : List Running → List Message
messages rs = map (λ r. r.message) rs

-- in how many places of a world a record stands: finished, waiting or running
abbrev pub times_held : World → ℕ → ℕ → ℕ
times_held w c n =
    tally_finished c n w.finished + tally_messages c n w.waiting
    + tally_messages c n (messages (all_running w.workers))

-- the record that is named has this xid and asks this
abbrev pub IsHeard : Setup → World → ℕ → ℕ → ℕ → Asked → Type 0
IsHeard setup w c n xid asked =
    (x : Connection) × (slice_get w.connections c ≡ Some x)
    × (slice_get (served setup x) n ≡ Some (record { xid = xid; asked = asked }))

-- a call whose decoding was starved has its record's xid, and that record has a name or data
abbrev pub IsOwn : Setup → World → FinishedCall → Asked → Type 0
IsOwn setup w e (Ask call caller) = IsHeard setup w e.connection e.number e.xid (Ask call caller)
IsOwn setup w e (Refused reply) = IsHeard setup w e.connection e.number e.xid (Refused reply)
IsOwn setup w e Undecoded =
    (asked : Asked) × IsHeard setup w e.connection e.number e.xid asked
    × IsTrue (may_starve_at_decoding asked) × (e.starved ≡ true) × (e.affinity ≡ None)

-- a finished call is of a record
abbrev pub IsOwnCall : Setup → World → FinishedCall → Type 0
IsOwnCall setup w e = IsOwn setup w e e.asked

-- a message is of a record
abbrev pub IsOwnMessage : Setup → World → Message → Type 0
IsOwnMessage setup w m = IsHeard setup w m.connection m.number m.xid m.asked

-- ---- the server as it is

-- the server after a message with its outcome
abbrev pub worked_by : Server → Running → Option Outcome → Server
worked_by server r None = server
worked_by server r (Some (Replied reply)) = (serial server r.message.asked r.moment false).server
worked_by server r (Some Starved) = server
worked_by server r (Some (Moved a)) = server

-- the server after what was worked and isn't finished
abbrev pub server_worked : Server → List Running → Server
server_worked server [] = server
server_worked server (r ∷ rs) = server_worked (worked_by server r r.outcome) rs

-- an affinity is the home of what is asked, or above it
abbrev pub IsTriedAt : Setup → Asked → Affinity → Type 0
IsTriedAt setup asked affinity =
    (home : Affinity) × (home_of_asked setup.layout asked ≡ Some home)
    × IsTrue (begins (path setup.layout affinity) (path setup.layout home))

-- a message tries its home, or above it
abbrev pub IsTried : Setup → Message → Type 0
IsTried setup m = IsTriedAt setup m.asked m.affinity

-- a finished call ran under its home, or above it; one that ran under no affinity has no home, and no moment
abbrev pub HasRun : Setup → Asked → Moment → Option Affinity → Type 0
HasRun setup asked moment None = (home_of_asked setup.layout asked ≡ None) × (moment ≡ start_of_times)
HasRun setup asked moment (Some a) = IsTriedAt setup asked a

abbrev pub HasRunAsItSays : Setup → FinishedCall → Type 0
HasRunAsItSays setup e = HasRun setup e.asked e.moment e.affinity

-- an outcome is the one that finishing now would give
abbrev pub IsOutcome : Setup → Server → Running → Option Outcome → Type 0
IsOutcome setup server r None = Unit {0}
IsOutcome setup server r (Some (Replied reply)) = reply ≡ (serial server r.message.asked r.moment false).reply
IsOutcome setup server r (Some Starved) = IsTrue (may_starve_later server r.message.asked r.moment)
IsOutcome setup server r (Some (Moved a)) = IsTriedAt setup r.message.asked a

-- ---- affinities

-- no two affinities exclude each other
abbrev pub Apart : Layout → List Affinity → Type 0
Apart layout [] = Unit {0}
Apart layout (a ∷ others) = (list_any (excludes layout a) others ≡ false) × Apart layout others

-- ---- the headline

-- What holds after every event, refused ones among them: for every cutting of the streams and every
-- list of scheduler steps. When a connection was closed, and what was fed on it, is what the events
-- say (`Runs` in Events.Step): this record alone doesn't tie the world to them.
pub record Headline (setup : Setup) (w : World) : Type 0 where
  -- The bytes on each connection are the reply records of a serial server's replies to that
  -- connection's calls that were finished before its close, in finishing order of all calls, each
  -- under its own xid.
  pub output : (c : ℕ) (x : Connection) → slice_get w.connections c ≡ Some x
      → x.output ≡ replies setup.codec c (start setup) (up_to x.closed w.finished)
  -- Finished calls are distinct records of the streams: each record that a connection's stream
  -- serves is finished, waits or runs, and stands in just one of these places; and a number that is
  -- no record's stands in none.
  pub each_once : (c : ℕ) (x : Connection) → slice_get w.connections c ≡ Some x → (n : ℕ)
      → times_held w c n ≡ one_if (nat_lt n (length (served setup x)))
  -- What is finished, waits or runs is of a connection that there is, and of a record of its stream:
  -- it asks what that record asks, under that record's xid.
  pub own_finished : AllByRecursion (IsOwnCall setup w) w.finished
  pub own_waiting : AllByRecursion (IsOwnMessage setup w) w.waiting
  pub own_running : AllByRecursion (IsOwnMessage setup w) (messages (all_running w.workers))
  -- A call that is finished as starved is one that may lack memory where it stands in that order.
  pub lawful : AreLawful (start setup) w.finished
  -- The server is the serial one after the finished calls, and then after those that were worked and
  -- aren't finished yet. So where nothing runs, it is the serial one after the finished calls.
  pub state : w.server
      ≡ server_worked (server_after (start setup) w.finished) (all_running w.workers)
  -- Block parts partition every volume: each number below its total is in a file, in the stock, dead,
  -- free or in a hand, in just one of these, and no other number is; in files are as many as its
  -- files fill.
  pub partition : (v : ℕ) (volume : VolumeState) → slice_get w.server.volumes v ≡ Some volume
      → (p : Parts) × (slice_get w.parts v ≡ Some p)
      × IsPartition volume p (hands_blocks v w.workers)
  -- No two running messages exclude each other.
  pub apart : Apart setup.layout (affinities (all_running w.workers))

-- ---- what events keep

-- The headline, and what it takes to keep it from event to event.
pub record Kept (setup : Setup) (w : World) : Type 0 where
  pub headline : Headline setup w
  -- finishing now gives the outcome that was worked
  pub outcomes : AllByRecursion
      (λ r. IsOutcome setup (server_after (start setup) w.finished) r r.outcome)
      (all_running w.workers)
  -- a message tries its home, or an affinity above it
  pub tried_waiting : AllByRecursion (IsTried setup) w.waiting
  pub tried_running : AllByRecursion (IsTried setup) (messages (all_running w.workers))
  -- a finished call ran where it could, at its moment
  pub tried_finished : AllByRecursion (HasRunAsItSays setup) w.finished
  -- a close counted no more calls than are finished
  pub until : (c : ℕ) (x : Connection) → slice_get w.connections c ≡ Some x
      → IfSome x.closed (λ n. n ≤ length w.finished)

-- ---- the beginning

-- the parts of a volume as it begins: all is free
abbrev pub opening_parts : VolumeLayout → Parts
opening_parts v =
    record { files = empty; stock = empty; dead = empty; free = from_list (range_with_len 0 (v.range_blocks * v.ranges)) }

-- a run as it begins: no connection, and idle workers with empty hands
abbrev pub opening_world : Setup → World
opening_world setup = record {
  connections = [];
  waiting = [];
  workers = replicate setup.workers (record { running = None; hand = Empty });
  finished = [];
  server = start setup;
  parts = map opening_parts setup.layout.volumes;
  stamps = 0;
}
