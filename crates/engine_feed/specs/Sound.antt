-- What holds of connections and of calls on their way, beside what is seen of them: what was read is in step
-- with the streams, and what is to come has its room.
use Rattle.std.specs.Prelude.{◌≡◌, ℕ, ◌+◌, ◌≤◌, ◌<◌, ◌⊎◌, List, [], ◌∷◌, ◌++◌, length, take, Option, Some, None, option_map, IsTrue, vec_len, vec_capacity}
use Rattle.std.specs.List.{AllByRecursion}
use Rattle.nfs_model.specs.Types as types
use Rattle.nfs_model.specs.Tree.{Layout}
use Rattle.nfs_model.specs.Serial.Starve.{may_starve_at_decoding}
use Rattle.nfs_values.specs.declared.call.Call.{Call}
use Rattle.rpc_msg.specs.declared.offer.Offer.{Offer}
use Rattle.nfs_values.specs.Call.{call_of}
use Rattle.rpc_msg.specs.Room.{reply_room}
use Rattle.affinity.specs.Affinity.{call_node}
use Rattle.affinity.specs.Tree.{IsNode}
use Rattle.rpc_record.specs.Machine.{State, Outcome, More, Made, Fault, outcome}
use Rattle.rpc_record.specs.Stream.{read_stream}
use Rattle.scheduler.specs.declared.message.Message.{Message}
use Rattle.engine_feed.specs.declared.stop.StreamFault.{StreamFault}
use Rattle.engine_feed.specs.declared.stop.StreamFault.TheVariants.{RecordTooLong}
use Rattle.engine_feed.specs.declared.state.Arrival.{Arrival}
use Rattle.engine_feed.specs.declared.state.Arrival.TheVariants as arrivals
use Rattle.engine_feed.specs.declared.state.ConnectionState.{ConnectionState}
use Rattle.engine_feed.specs.declared.state.CallsState.{CallsState}
use Rattle.engine_feed.specs.Numbers.{fault_number}
use Rattle.engine_feed.specs.Limit.{reply_limit}
use Rattle.engine_feed.specs.Seen.{heard_of, layout_in, pending}
use Rattle.engine_feed.specs.Streams.{scan_stream, IsQuiet, Completes}

-- ---- connections

-- What was read of a connection is in step with its stream: its fault and the count of its records, whatever is offered.
pub record IsInStep (c : ConnectionState) : Type 0 where
  pub reassembler : (read_stream c.stream.items).at ≡ c.reassembler
  pub fault : (offer : Offer) → (scan_stream offer c.stream.items).fault ≡ option_map fault_number c.fault
  pub records : (offer : Offer) → length (scan_stream offer c.stream.items).served ≡ c.records
  pub few : c.records ≤ vec_len c.stream

-- And the replies that are owed have their room.
pub record IsSoundConnection (c : ConnectionState) : Type 0 where
  pub in_step : IsInStep c
  pub room : vec_len c.output + c.owed ≤ vec_capacity c.output

-- ---- calls

-- A message tries a node of the layout, and it keeps the room of its reply.
pub record IsAdmitted (layout : Layout) (m : Message Call) : Type 0 where
  pub node : IsNode layout (call_node m.affinity)
  pub room : m.room ≡ reply_room (length layout.volumes) (call_of m.call)

pub record AreSound (calls : CallsState) : Type 0 where
  pub admitted : AllByRecursion (IsAdmitted (layout_in calls)) calls.waiting
  pub places : pending calls ≤ 1024
  pub entries : vec_len calls.finished + pending calls ≤ vec_capacity calls.finished

-- ---- bytes that arrive

-- What bytes came to that a connection was given: this many of them were taken.
abbrev pub Arrives : Offer → List ℕ → List ℕ → ℕ → Arrival → Type 0
Arrives offer stream bytes taken arrivals.More = (taken ≡ length bytes) × IsQuiet offer stream bytes
Arrives offer stream bytes taken (arrivals.Heard heard) =
    (0 < taken) × (taken ≤ length bytes)
    × Completes offer stream (take taken bytes) (record { served = (scan_stream offer stream).served ++ heard_of heard ∷ []; fault = None })
Arrives offer stream bytes taken (arrivals.Undecoded xid) =
    (0 < taken) × (taken ≤ length bytes)
    × ((asked : types.Asked) × IsTrue (may_starve_at_decoding asked)
    × Completes offer stream (take taken bytes) (record {
      served = (scan_stream offer stream).served ++ (record { xid = xid; asked = asked }) ∷ [];
      fault = None;
    }))
Arrives offer stream bytes taken (arrivals.Fault fault) =
    (0 < taken) × (taken ≤ length bytes)
    × Completes offer stream (take taken bytes) (record { served = (scan_stream offer stream).served; fault = Some (fault_number fault) })
Arrives offer stream bytes taken arrivals.NoMemory = taken ≡ 0

-- no fault was told
abbrev pub IsFaultless : Arrival → Option StreamFault → Type 0
IsFaultless arrivals.More fault = fault ≡ None
IsFaultless (arrivals.Heard heard) fault = fault ≡ None
IsFaultless (arrivals.Undecoded xid) fault = fault ≡ None
IsFaultless (arrivals.Fault told) fault = Unit {0}
IsFaultless arrivals.NoMemory fault = fault ≡ None

-- a connection at no fault, with room for this many more bytes of its stream
pub record TakesIn (c : ConnectionState) (rest : ℕ) : Type 0 where
  pub faultless : c.fault ≡ None
  pub room : vec_len c.stream + rest ≤ vec_capacity c.stream

-- bytes came on a connection, and this many of them were taken; nothing was written
pub record TakesFrom (offer : Offer) (old new : ConnectionState) (bytes : List ℕ) (taken : ℕ) (arrival : Arrival) : Type 0 where
  pub arrives : Arrives offer old.stream.items bytes taken arrival
  pub within : taken ≤ length bytes
  pub stream : new.stream.items ≡ old.stream.items ++ take taken bytes
  pub len : vec_len new.stream ≡ vec_len old.stream + taken
  pub room : vec_capacity old.stream ≤ vec_capacity new.stream
  pub output : new.output ≡ old.output
  pub owed : new.owed ≡ old.owed
  pub in_step : IsInStep new
  pub faultless : IsFaultless arrival new.fault

-- ---- room that is made

-- room for the longest reply beside those that are owed
abbrev pub HasRoomToReply : ConnectionState → Type 0
HasRoomToReply c = vec_len c.output + (c.owed + reply_limit) ≤ vec_capacity c.output

-- room for the entry of one more message
abbrev pub HaveRoomToAdmit : CallsState → Type 0
HaveRoomToAdmit calls = vec_len calls.finished + (pending calls + 1) ≤ vec_capacity calls.finished

-- a connection with perhaps more room for its output
pub record IsRoomier (old new : ConnectionState) : Type 0 where
  pub same : new ≡ record old { output = new.output }
  pub items : new.output.items ≡ old.output.items
  pub len : vec_len new.output ≡ vec_len old.output
  pub room : vec_capacity old.output ≤ vec_capacity new.output

-- a connection with perhaps more room for its stream
pub record IsStreamRoomier (old new : ConnectionState) : Type 0 where
  pub same : new ≡ record old { stream = new.stream }
  pub items : new.stream.items ≡ old.stream.items
  pub len : vec_len new.stream ≡ vec_len old.stream

-- calls with perhaps more room for their entries
pub record AreRoomier (old new : CallsState) : Type 0 where
  pub same : new ≡ record old { finished = new.finished }
  pub items : new.finished.items ≡ old.finished.items
  pub len : vec_len new.finished ≡ vec_len old.finished
  pub room : vec_capacity old.finished ≤ vec_capacity new.finished

-- ---- replies and entries

-- bytes were written on a connection, whose room stays
pub record IsWrittenTo (old new : ConnectionState) (bytes : List ℕ) : Type 0 where
  pub same : new ≡ record old { output = new.output }
  pub items : new.output.items ≡ old.output.items ++ bytes
  pub room : vec_capacity old.output ≤ vec_capacity new.output

-- bytes were written on a connection, and room that was kept is given up
pub record HasReplied (old new : ConnectionState) (bytes : List ℕ) (room : ℕ) : Type 0 where
  pub same : new ≡ record old { output = new.output; owed = new.owed }
  pub items : new.output.items ≡ old.output.items ++ bytes
  pub owed : old.owed ≡ new.owed + room

-- one more entry is kept, in room that was there
pub record KeepsEntry (old new : CallsState) : Type 0 where
  pub same : new ≡ record old { finished = new.finished }
  pub len : vec_len new.finished ≡ vec_len old.finished + 1
  pub room : vec_capacity new.finished ≡ vec_capacity old.finished

-- what was read of a connection stays
abbrev pub IsAnswered : ConnectionState → ConnectionState → Type 0
IsAnswered old new = new ≡ record old { output = new.output; owed = new.owed }

-- ---- bytes that complete no record

abbrev pub HasNoRecord : Outcome → Type 0
HasNoRecord (More state) = Unit {0}
HasNoRecord (Made taken made) = ⊥
HasNoRecord (Fault taken) = Unit {0}

abbrev pub AdmitsNone : Arrival → Type 0
AdmitsNone arrivals.More = Unit {0}
AdmitsNone (arrivals.Heard heard) = ⊥
AdmitsNone (arrivals.Undecoded xid) = ⊥
AdmitsNone (arrivals.Fault fault) = fault ≡ RecordTooLong
AdmitsNone arrivals.NoMemory = Unit {0}

-- this many of the bytes complete no record, and one more would
pub record IsFree (at : Option State) (bytes : List ℕ) (free : ℕ) : Type 0 where
  pub within : free ≤ length bytes
  pub none : HasNoRecord (outcome at (take free bytes))
  pub next : free < length bytes → (made : List ℕ) × (outcome at bytes ≡ Made (free + 1) made)

-- The next byte is not one that would complete a record in want of a place.
abbrev pub MayGoOn : CallsState → ConnectionState → List ℕ → Type 0
MayGoOn calls c bytes =
    (pending calls < 1024) ⊎ ((free : ℕ) × (free ≡ 0 → ⊥) × HasNoRecord (outcome c.reassembler (take free bytes)))
