-- How the reading of a connection stands, and what one call does to it.
use Rattle.std.specs.Prelude.{◌≡◌, ℕ, ◌<◌, Bool, true, false, List, [], ◌++◌, length, Option, Some, None}
use Rattle.std.specs.Io.KnownBytes.{Keeps}
use Rattle.nfs_model.specs.Tree.{Layout}
use Rattle.nfs_model.specs.World.{Heard}
use Rattle.rpc_msg.specs.declared.offer.Offer.{Offer}
use Rattle.rpc_record.specs.Machine.{State}
use Rattle.rpc_record.specs.Stream.{read_stream}
use Rattle.engine_feed.specs.Numbers.{fault_number}
use Rattle.tcp_front.specs.declared.stream.Stopped.{Stopped}
use Rattle.tcp_front.specs.declared.stream.Stopped.TheVariants as stops
use Rattle.tcp_front.specs.declared.stream.Stream.{Stream}
use Rattle.tcp_front.specs.Arrivals.{Arrival, arrivals, most_records}
use Rattle.tcp_front.specs.Reading.{AreAll, AreFirst}
use Rattle.connections.specs.declared.connection.Connection.{Connection}
use Rattle.connections.specs.declared.reading.Came.{Came}
use Rattle.connections.specs.declared.reading.Came.TheVariants as cames
use Rattle.connections.specs.declared.told.Told.TheVariants as tolds
use Rattle.connections.specs.Incoming.{Incoming, Gives, IsAllRead}
use Rattle.connections.specs.Told.{HasCalled}
use Rattle.connections.specs.Connections.{sender_at, kept_of, now_of, number_of, IsStopped}
use Rattle.connections.specs.Cutting.{HasCut}

-- ---- from the first byte on

-- How far the reading stands: these bytes came to these records, by what is offered.
abbrev pub Stands : Offer → Option Stopped → Option State → ℕ → List ℕ → List Heard → Type 0
Stands offer None at records read heard = AreAll offer heard None read × ((read_stream read).at ≡ at) × (records < most_records)
Stands offer (Some (stops.Fault fault)) at records read heard = AreAll offer heard (Some (fault_number fault)) read
Stands offer (Some stops.NoMemory) at records read heard = AreFirst offer heard read
Stands offer (Some stops.NumbersUsed) at records read heard = AreFirst offer heard read × (records ≡ most_records)

-- Of what the device had when it was opened these bytes were read, these records of theirs were given on, and what was
-- read besides is kept, unless the reading stopped.
pub record IsReadFrom {D : Type 0} (offer : Offer) (unread : D → Incoming) (opened now : D) (stream : Stream) (kept : List ℕ)
    (stopped : Option Stopped) (heard : List Heard) : Type 0 where
  pub read : List ℕ
  pub lost : List ℕ
  pub taken : Gives (unread opened) (unread now) (read ++ (kept ++ lost))
  pub stands : Stands offer stopped stream.reassembler stream.records read heard
  pub count : stream.records ≡ length heard
  pub none_lost : stopped ≡ None → lost ≡ []

-- Of the device of this connection, opened as this, these records were given on.
abbrev pub Reads : {D : Type 0} → Offer → (D → Incoming) → D → Connection D → List Heard → Type 0
Reads offer unread opened c heard = IsReadFrom offer unread opened (now_of c) c.stream c.kept c.stopped heard

-- ---- one call

-- nothing is kept, and the reading hasn't stopped
abbrev pub IsReady : {D : Type 0} → Connection D → Type 0
IsReady c = (c.stopped ≡ None) × (c.kept ≡ [])

-- What a call did to the device, by its answer: it was called once, with a block of this size, and answered just that;
-- or it wasn't called, since the reading had stopped, the sink had no room, or there were kept bytes to be cut.
abbrev pub IsTold : {D : Type 0} → (D → Incoming) → Bool → ℕ → Came → Connection D → Connection D → Type 0
IsTold unread room size (cames.Read n) old new = IsReady old × (room ≡ true) × HasCalled old.device size (tolds.Moved n) new.device × (0 < n)
IsTold unread room size cames.Cut old new = (old.stopped ≡ None) × (room ≡ true) × (0 < length (kept_of old)) × (new.device ≡ old.device)
IsTold unread room size cames.Full old new = (old.stopped ≡ None) × (room ≡ false) × (new ≡ old)
IsTold unread room size cames.Blocked old new = IsReady old × (room ≡ true) × HasCalled old.device size tolds.Blocked new.device
IsTold unread room size cames.End old new =
    IsReady old × (room ≡ true) × HasCalled old.device size (tolds.Moved 0) new.device × IsAllRead (unread (now_of new))
IsTold unread room size cames.Failed old new = IsReady old × (room ≡ true) × HasCalled old.device size tolds.Failed new.device
IsTold unread room size cames.Stopped old new = IsStopped old × (new ≡ old)

-- the writing stands as it did
abbrev pub HasSameWriting : {D : Type 0} → Connection D → Connection D → Type 0
HasSameWriting old new =
    (new.rest ≡ old.rest) × (new.is_broken ≡ old.is_broken) × (new.opened ≡ old.opened) × (new.owed ≡ old.owed)
    × (new.flags ≡ old.flags)

-- What was kept and what was read is cut; but nothing is read and cut where the reading has stopped.
abbrev pub Cuts : {S : Type 0} → (S → List Arrival → S → Type 0) → (S → Bool) → Layout → Offer → Option Stopped → Stream → S → List ℕ
    → List ℕ → List Heard → Option Stopped → Stream → S → List ℕ → Type 0
Cuts came room layout offer None s sink kept read heard stopped s' sink' kept' =
    (h : HasCut came room layout offer s sink (kept ++ read) stopped s' sink' kept') × (h.taken.heard ≡ heard)
Cuts came room layout offer (Some stop) s sink kept read heard stopped s' sink' kept' =
    came sink [] sink' × (heard ≡ []) × (read ≡ []) × (stopped ≡ Some stop) × (s' ≡ s) × (kept' ≡ kept)

-- One call: these bytes were read; with those that were kept they were cut, as far as the sink has room, and these records
-- of theirs were given on under the numbers that follow. The device was asked as the answer tells, and the writing is as
-- it was.
pub record HasRead {D S : Type 0} (unread : D → Incoming) (written : D → Option (List ℕ)) (came : S → List Arrival → S → Type 0)
    (room : S → Bool) (layout : Layout) (offer : Offer) (old : Connection D) (sink : S) (size : ℕ) (result : Came) (new : Connection D)
    (sink' : S) : Type 0 where
  pub read : List ℕ
  pub heard : List Heard
  pub taken : Gives (unread (now_of old)) (unread (now_of new)) read
  pub apart : Keeps (written (now_of old)) (written (now_of new))
  pub given : came sink (arrivals layout (number_of old) (sender_at old) old.stream.records heard) sink'
  pub cuts : Cuts came room layout offer old.stopped old.stream sink (kept_of old) read heard new.stopped new.stream sink'
      (kept_of new)
  pub told : IsTold unread (room sink) size result old new
  pub number : new.stream.connection ≡ old.stream.connection
  pub peer : new.stream.peer ≡ old.stream.peer
  pub same : HasSameWriting old new
