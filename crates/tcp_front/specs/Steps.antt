-- What parts of a stream come to.
use Rattle.std.specs.Prelude.{◌≡◌, ℕ, ◌+◌, ◌<◌, List, [], ◌∷◌, ◌++◌, length, take, Option, Some, None, Result, Ok, Err}
use Rattle.std.specs.Global.{Global}
use Rattle.rpc_record.specs.Machine.{State, start}
use Rattle.rpc_record.specs.Stream.{read_stream}
use Rattle.nfs_values.specs.declared.number.ConnectionNumber.{ConnectionNumber}
use Rattle.rpc_msg.specs.declared.offer.Offer.{Offer}
use Rattle.nfs_model.specs.Types.{Asked}
use Rattle.nfs_model.specs.Tree.{Layout}
use Rattle.nfs_model.specs.World.{Heard}
use Rattle.scheduler.specs.declared.message.Origin.{Origin}
use Rattle.engine_feed.specs.Numbers.{fault_number}
use Rattle.engine_feed.specs.Codec.{heard}
use Rattle.engine_feed.specs.Streams.{scan_stream}
use Rattle.tcp_front.specs.declared.peer.Peer.{Peer}
use Rattle.tcp_front.specs.declared.stream.Stream.{Stream}
use Rattle.tcp_front.specs.declared.stream.Stopped.{Stopped}
use Rattle.tcp_front.specs.declared.stream.Stopped.TheVariants as stops
use Rattle.tcp_front.specs.declared.next_record.Next.{Next}
use Rattle.tcp_front.specs.declared.next_record.Next.TheVariants as nexts
use Rattle.tcp_front.specs.declared.read_end.ReadEnd.{ReadEnd}
use Rattle.tcp_front.specs.declared.read_end.ReadEnd.TheVariants as ends
use Rattle.tcp_front.specs.Arrivals.{Arrival, arrival_of, arrivals, most_records}
use Rattle.tcp_front.specs.Peers.{sender_of}

-- what a record of a peer comes to
abbrev pub given_of : Layout → Peer → Origin → Asked → List Arrival
given_of layout peer origin asked =
    arrival_of layout origin.connection.0 (sender_of peer) origin.number (record { xid = origin.xid; asked = asked }) ∷ []

-- ---- bytes after a stream that stands here and is at no fault, by what is offered

-- what holds of each such stream
abbrev pub After : Offer → Option State → (List ℕ → Type 0) → Type 0
After offer at P = (fed : List ℕ) → (read_stream fed).at ≡ at → (scan_stream offer fed).fault ≡ None → P fed

-- the bytes bring it to these records more, and to this fault
abbrev pub Brings : Offer → Option State → List ℕ → List Heard → Option ℕ → Type 0
Brings offer at bytes heard fault =
    After offer at (λ fed. scan_stream offer (fed ++ bytes) ≡ record { served = (scan_stream offer fed).served ++ heard; fault = fault })

-- the bytes bring it to these records more at least
abbrev pub BringsFirst : Offer → Option State → List ℕ → List Heard → Type 0
BringsFirst offer at bytes heard =
    After offer at (λ fed. (others : List Heard)
    × ((scan_stream offer (fed ++ bytes)).served ≡ (scan_stream offer fed).served ++ (heard ++ others)))

-- and it stands here then
abbrev pub Leads : Offer → Option State → List ℕ → Option State → Type 0
Leads offer at bytes at' = After offer at (λ fed. (read_stream (fed ++ bytes)).at ≡ at')

-- these records more, at no fault, and it stands here then
pub record Adds (offer : Offer) (at : Option State) (bytes : List ℕ) (heard : List Heard) (at' : Option State) : Type 0 where
  pub brings : Brings offer at bytes heard None
  pub leads : Leads offer at bytes at'

-- ---- one record

-- bytes bring this record more and no fault, or this fault, and it stands here then
abbrev pub BringsRecord : Offer → Option State → List ℕ → Result Heard ℕ → Option State → Type 0
BringsRecord offer at bytes (Ok h) at' = Adds offer at bytes (h ∷ []) at'
BringsRecord offer at bytes (Err fault) at' = Brings offer at bytes [] (Some fault)

-- this many of the bytes came to this
abbrev pub Comes : Offer → Option State → List ℕ → ℕ → Next → Option State → Type 0
Comes offer at bytes taken nexts.More at' = (taken ≡ length bytes) × Adds offer at (take taken bytes) [] at'
Comes offer at bytes taken (nexts.Record made) at' = (0 < taken) × BringsRecord offer at (take taken bytes) (heard offer made.items) at'
Comes offer at bytes taken (nexts.Stopped (stops.Fault fault)) at' = Brings offer at (take taken bytes) [] (Some (fault_number fault))
Comes offer at bytes taken (nexts.Stopped stops.NoMemory) at' = BringsFirst offer at (take taken bytes) []
Comes offer at bytes taken (nexts.Stopped stops.NumbersUsed) at' = ⊥

-- The record was given on under the next number; or memory ran out, and it wasn't.
abbrev pub HasGiven : {S : Type 0} → (S → List Arrival → S → Type 0) → Layout → Stream → S → Heard → Option Stopped
    → Stream → S → Type 0
HasGiven came layout s sink h None s' sink' =
    came sink (arrival_of layout s.connection.0 (sender_of s.peer) s.records h ∷ []) sink' × (s' ≡ record s { records = s.records + 1 })
    × (s.records + 1 < most_records)
HasGiven came layout s sink h (Some (stops.Fault fault)) s' sink' = ⊥
HasGiven came layout s sink h (Some stops.NoMemory) s' sink' = came sink [] sink' × (s' ≡ s)
HasGiven came layout s sink h (Some stops.NumbersUsed) s' sink' =
    came sink (arrival_of layout s.connection.0 (sender_of s.peer) s.records h ∷ []) sink' × (s' ≡ record s { records = s.records + 1 })
    × (s.records + 1 ≡ most_records)

-- nothing was given on, since the record is this fault
abbrev pub IsFaultOf : ℕ → Option Stopped → Type 0
IsFaultOf n None = ⊥
IsFaultOf n (Some (stops.Fault fault)) = fault_number fault ≡ n
IsFaultOf n (Some stops.NoMemory) = ⊥
IsFaultOf n (Some stops.NumbersUsed) = ⊥

-- so was what a whole record is
abbrev pub HasGivenRecord : {S : Type 0} → (S → List Arrival → S → Type 0) → Layout → Stream → S → Result Heard ℕ → Option Stopped
    → Stream → S → Type 0
HasGivenRecord came layout s sink (Ok h) stopped s' sink' = HasGiven came layout s sink h stopped s' sink'
HasGivenRecord came layout s sink (Err n) stopped s' sink' = IsFaultOf n stopped × came sink [] sink' × (s' ≡ s)

-- ---- many records

-- what stopped the taking of bytes, of whose records these were given on
abbrev pub StopsAs : Offer → Stream → List ℕ → List Heard → Option Stopped → Stream → Type 0
StopsAs offer s bytes heard None s' = Adds offer s.reassembler bytes heard s'.reassembler × (s'.records < most_records)
StopsAs offer s bytes heard (Some (stops.Fault fault)) s' = Brings offer s.reassembler bytes heard (Some (fault_number fault))
StopsAs offer s bytes heard (Some stops.NoMemory) s' = BringsFirst offer s.reassembler bytes heard
StopsAs offer s bytes heard (Some stops.NumbersUsed) s' = BringsFirst offer s.reassembler bytes heard × (s'.records ≡ most_records)

-- it is the same connection, of the same peer
abbrev pub IsSameLine : Stream → Stream → Type 0
IsSameLine s s' = (s'.connection ≡ s.connection) × (s'.peer ≡ s.peer)

-- Bytes were taken, and records of theirs given on by what is offered, under the numbers that follow.
pub record HasTaken {S : Type 0} (came : S → List Arrival → S → Type 0) (layout : Layout) (offer : Offer) (s : Stream) (sink : S)
    (bytes : List ℕ) (stopped : Option Stopped) (s' : Stream) (sink' : S) : Type 0 where
  pub heard : List Heard
  pub given : came sink (arrivals layout s.connection.0 (sender_of s.peer) s.records heard) sink'
  pub count : s'.records ≡ s.records + length heard
  pub same : IsSameLine s s'
  pub stops : StopsAs offer s bytes heard stopped s'

-- the end that a stop is
abbrev pub end_of : Stopped → ReadEnd
end_of (stops.Fault fault) = ends.Fault fault
end_of stops.NoMemory = ends.NoMemory
end_of stops.NumbersUsed = ends.NumbersUsed

-- a connection of a peer, of which nothing was read
abbrev pub opened : Global → ConnectionNumber → Peer → Stream
opened alloc connection peer =
    record { alloc = alloc; connection = connection; peer = peer; reassembler = Some start; records = 0 }
