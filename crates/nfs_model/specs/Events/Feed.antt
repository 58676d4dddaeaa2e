-- What a feed of bytes takes, which records it completes, and where it stops (RFC 5531 section 11
-- for records).
use Rattle.std.specs.Prelude.{◌≡◌, ◌<◌, ◌≤◌, ℕ, ◌+◌, Bool, true, false, not, ◌&&◌, ◌==◌, IsTrue, ◌⊎◌, List}
use Rattle.std.specs.Prelude.{[], ◌∷◌, ◌++◌, length, take, drop, Option, Some, None, is_some, slice_get}
use Rattle.nfs_model.specs.Types.{Asked, Undecoded, SystemError}
use Rattle.nfs_model.specs.Tree.{Affinity}
use Rattle.nfs_model.specs.Server.{start_of_times}
use Rattle.nfs_model.specs.Serial.Step.{serial}
use Rattle.nfs_model.specs.Serial.Starve.{may_starve_at_decoding}
use Rattle.nfs_model.specs.Home.{home_of_asked}
use Rattle.nfs_model.specs.Replay.{FinishedCall}
use Rattle.nfs_model.specs.World.{Heard, Scanned, Setup, World, Connection, changed_at, finish, is_crowded}

-- ---- a connection's stream

-- the bytes taken of a connection, if there is one
abbrev pub stream_in : Option Connection → List ℕ
stream_in None = []
stream_in (Some x) = x.stream

-- the bytes taken of a connection
abbrev pub stream_of : World → ℕ → List ℕ
stream_of w c = stream_in (slice_get w.connections c)

-- how many records of a connection are served so far
abbrev pub served_count : Setup → World → ℕ → ℕ
served_count setup w c = length (setup.codec.scan (stream_of w c)).served

-- a connection with more bytes taken
abbrev pub with_bytes : List ℕ → Connection → Connection
with_bytes bytes x = record x { stream = x.stream ++ bytes }

-- a world with more bytes taken
abbrev pub bytes_taken : World → ℕ → List ℕ → World
bytes_taken w c bytes = record w { connections = changed_at (with_bytes bytes) w.connections c }

-- ---- a record that is complete

-- a record that is answered at once, as it is finished
abbrev pub call_at_once : ℕ → ℕ → Heard → FinishedCall
call_at_once c number h =
    record {
      connection = c;
      number = number;
      xid = h.xid;
      asked = h.asked;
      affinity = None;
      moment = start_of_times;
      starved = false;
    }

-- a record whose decoding was starved, as it is finished
abbrev pub call_undecoded : ℕ → ℕ → Heard → FinishedCall
call_undecoded c number h =
    record {
      connection = c;
      number = number;
      xid = h.xid;
      asked = Undecoded;
      affinity = None;
      moment = start_of_times;
      starved = true;
    }

-- a record without an affinity is answered at once; another waits under its home
abbrev pub admit : Setup → World → ℕ → ℕ → Heard → Option Affinity → World
admit setup w c number h None =
    finish setup w (call_at_once c number h) (serial w.server h.asked start_of_times false).reply
admit setup w c number h (Some a) =
    record w {
      waiting = w.waiting
          ++ (record { connection = c; number = number; xid = h.xid; asked = h.asked; affinity = a }) ∷ [];
    }

-- a record complete, with whether its decoding was starved
abbrev pub heard_in : Setup → World → ℕ → ℕ → Heard → Bool → World
heard_in setup w c number h true = finish setup w (call_undecoded c number h) SystemError
heard_in setup w c number h false = admit setup w c number h (home_of_asked setup.layout h.asked)

-- decoding is starved only where there is a name or data to be kept
abbrev pub MayStarveIf : Bool → Asked → Type 0
MayStarveIf true asked = IsTrue (may_starve_at_decoding asked)
MayStarveIf false asked = Unit {0}

-- records complete in order, the first of this number; each finds a place among those that wait or
-- run
abbrev pub Hears : Setup → ℕ → World → ℕ → List Heard → World → Type 0
Hears setup c w number [] new = new ≡ w
Hears setup c w number (h ∷ more) new =
    (is_crowded w ≡ false)
    × ((starved : Bool) × MayStarveIf starved h.asked
    × Hears setup c (heard_in setup w c number h starved) (number + 1) more new)

-- ---- where taking stops

-- a fault of a record that is complete: fault 11 stands at the header of one that is too long
abbrev pub is_of_record : ℕ → Bool
is_of_record number = not (number == 11)

-- by the fault that a byte reached, if any, and the record that it completed, if any
abbrev pub completes_at : Option ℕ → Option Heard → Bool
completes_at None more = is_some more
completes_at (Some number) more = is_of_record number

-- whether one more byte completes a record, by what is read before and after it
abbrev pub completes : Scanned → Scanned → Bool
completes before after = completes_at after.fault (slice_get after.served (length before.served))

-- whether the next byte would complete a record
abbrev pub completes_next : Setup → List ℕ → List ℕ → Bool
completes_next setup stream [] = false
completes_next setup stream (b ∷ rest) =
    completes (setup.codec.scan stream) (setup.codec.scan (stream ++ b ∷ []))

-- no place is left, and the next byte would need one: this is looked at before memory
abbrev pub is_full_at : Setup → World → List ℕ → List ℕ → Bool
is_full_at setup w stream rest = is_crowded w && completes_next setup stream rest

-- where taking stands: the bytes of the stream that came, those of the feed that are left, and the
-- number with which it stops
pub record Halt : Type 0 where
  pub came : List ℕ
  pub left : List ℕ
  pub stop : ℕ

abbrev pub halt : List ℕ → List ℕ → ℕ → Halt
halt came left stop = record { came = came; left = left; stop = stop }

-- Where taking stops without a fault: all are taken (0), no place is left for the next record (31),
-- or memory ran out (90).
abbrev pub StopsSound : Setup → World → Halt → Type 0
StopsSound setup w h =
    ((h.stop ≡ 0) × (h.left ≡ []))
    ⊎ (((h.stop ≡ 31) × IsTrue (is_full_at setup w h.came h.left))
    ⊎ ((h.stop ≡ 90) × (h.left ≡ [] → ⊥) × (is_full_at setup w h.came h.left ≡ false)))

-- Where taking stops, by the fault that the bytes taken reach, if any: at the fault, which needs a
-- place where it is of a complete record.
abbrev pub StopsAt : Setup → World → Halt → Option ℕ → Type 0
StopsAt setup w h None = StopsSound setup w h
StopsAt setup w h (Some number) = (h.stop ≡ number) × ((is_crowded w && is_of_record number) ≡ false)

-- ---- a feed

-- bytes for a connection, of which this many are taken, and the number with which taking stops
pub record Feeding : Type 0 where
  pub connection : ℕ
  pub bytes : List ℕ
  pub taken : ℕ
  pub stop : ℕ

abbrev pub feeding : ℕ → List ℕ → ℕ → ℕ → Feeding
feeding connection bytes taken stop =
    record { connection = connection; bytes = bytes; taken = taken; stop = stop }

-- the connection's stream with the bytes that are taken
abbrev pub stream_fed : Feeding → World → List ℕ
stream_fed f w = stream_of w f.connection ++ take f.taken f.bytes

-- A feed of bytes on a connection.
pub record Feeds (setup : Setup) (f : Feeding) (w new : World) : Type 0 where
  pub within : f.taken ≤ length f.bytes
  -- they go at most to the end of what reaches a fault
  pub sound : (n : ℕ) → n < f.taken
      → (setup.codec.scan (stream_of w f.connection ++ take n f.bytes)).fault ≡ None
  -- the records that they complete
  pub heard : List Heard
  pub complete : (setup.codec.scan (stream_fed f w)).served
      ≡ (setup.codec.scan (stream_of w f.connection)).served ++ heard
  -- the bytes are appended, and the records are answered or wait, in order
  pub hears : Hears setup f.connection (bytes_taken w f.connection (take f.taken f.bytes))
      (served_count setup w f.connection) heard new
  -- why it stops there
  pub stops : StopsAt setup new (halt (stream_fed f w) (drop f.taken f.bytes) f.stop)
      (setup.codec.scan (stream_fed f w)).fault
