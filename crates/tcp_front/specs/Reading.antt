-- What a loop over a reader did.
use Rattle.std.specs.Prelude.{◌≡◌, ℕ, List, ◌++◌, length, Option, Some, None}
use Rattle.std.specs.Io.KnownBytes.{Consumes, IsAtEnd}
use Rattle.nfs_model.specs.Tree.{Layout}
use Rattle.nfs_model.specs.World.{Heard}
use Rattle.rpc_msg.specs.declared.offer.Offer.{Offer}
use Rattle.engine_feed.specs.Numbers.{fault_number}
use Rattle.engine_feed.specs.Streams.{scan_stream}
use Rattle.tcp_front.specs.declared.counted.Counted.{Counted}
use Rattle.tcp_front.specs.declared.read_end.ReadEnd.{ReadEnd}
use Rattle.tcp_front.specs.declared.read_end.ReadEnd.TheVariants as ends
use Rattle.tcp_front.specs.Arrivals.{Arrival, arrivals, most_records}
use Rattle.tcp_front.specs.Peers.{Sender}
use Rattle.tcp_front.specs.Counts.{device_of, HasFailed, HasNotFailed}

-- These are the first of the records that the stream serves, by what is offered.
abbrev pub AreFirst : Offer → List Heard → List ℕ → Type 0
AreFirst offer heard stream = (others : List Heard) × ((scan_stream offer stream).served ≡ heard ++ others)

-- These are all that the stream serves, and it has this fault (RFC 5531 sections 9 and 11).
abbrev pub AreAll : Offer → List Heard → Option ℕ → List ℕ → Type 0
AreAll offer heard fault stream = scan_stream offer stream ≡ record { served = heard; fault = fault }

-- What an end says of the bytes that were read, of those of their records that were given on, and of whether
-- the reader is at its end and has failed: just a reader's failure counts as one.
abbrev pub EndsAs : {R : Type 0} → Offer → (R → Option (List ℕ)) → ReadEnd → List ℕ → List Heard → Counted R → Counted R → Type 0
EndsAs offer remaining ends.End read heard old new =
    AreAll offer heard None read × IsAtEnd (remaining (device_of new)) × HasNotFailed old new
EndsAs offer remaining (ends.Fault fault) read heard old new = AreAll offer heard (Some (fault_number fault)) read × HasNotFailed old new
EndsAs offer remaining ends.ReaderFailed read heard old new = AreAll offer heard None read × HasFailed old new
EndsAs offer remaining ends.NoMemory read heard old new = AreFirst offer heard read × HasNotFailed old new
EndsAs offer remaining ends.NumbersUsed read heard old new =
    AreFirst offer heard read × (length heard ≡ most_records) × HasNotFailed old new

-- Bytes were read from one to the other; records of theirs were given on, in order and each once,
-- under the numbers from 0 on, of this sender; and so it ended. Nothing here hangs on how the reader cut the bytes.
pub record HasRead {R S : Type 0} (remaining : R → Option (List ℕ)) (came : S → List Arrival → S → Type 0)
    (layout : Layout) (offer : Offer) (connection : ℕ) (sender : Sender) (reader : Counted R) (sink : S) (ended : ReadEnd) (reader' : Counted R)
    (sink' : S) : Type 0 where
  pub read : List ℕ
  pub heard : List Heard
  pub consumed : Consumes (remaining (device_of reader)) (remaining (device_of reader')) read
  pub given : came sink (arrivals layout connection sender 0 heard) sink'
  pub ends : EndsAs offer remaining ended read heard reader reader'
