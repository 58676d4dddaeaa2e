-- What a stream that tells its bytes has next (RFC 5531 section 11).
use Rattle.std.specs.Prelude.{◌≡◌, ℕ, List, ◌++◌, Option, Some, None, Result, Ok, Err, IfSome}
use Rattle.std.specs.Io.KnownBytes.{Appends}
use Rattle.rpc_record.specs.Records.{IsRecord, HasFault, HasNoFault, HasNoRecord}
use Rattle.rpc_record.specs.Machine.{State}
use Rattle.rpc_record.specs.Feeds.{HasCome}
use Rattle.admin_client.specs.declared.fault.AdminFault.{AdminFault}
use Rattle.admin_client.specs.declared.fault.AdminFault.TheVariants.{Cut, TooLong, NoMemory, Stream, Late}

-- the bytes begin with a spelling of the record
abbrev pub BeginsWith : List ℕ → List ℕ → Type 0
BeginsWith made bytes = (spelled : List ℕ) × (after : List ℕ) × (bytes ≡ spelled ++ after) × IsRecord made spelled

-- What these bytes of a stream are answered with: a record, seen by view, with which they begin; that they end before one is whole; or that
-- a header among them brings it above the limit. Nothing is said of them at another fault.
abbrev pub HasNext : {X : Type 0} → (X → List ℕ) → Result X AdminFault → List ℕ → Type 0
HasNext view (Ok made) bytes = BeginsWith (view made) bytes
HasNext view (Err Cut) bytes = HasNoRecord bytes × HasNoFault bytes
HasNext view (Err TooLong) bytes = HasFault bytes
HasNext view (Err fault) bytes = Unit {0}

-- the stream itself failed
abbrev pub IsFailure : AdminFault → Type 0
IsFailure Stream = Unit {0}
IsFailure Late = Unit {0}
IsFailure fault = ⊥

-- a fault of the stream, and not of what was read
abbrev pub IsOfStream : AdminFault → Type 0
IsOfStream Stream = Unit {0}
IsOfStream Late = Unit {0}
IsOfStream Cut = Unit {0}
IsOfStream TooLong = Unit {0}
IsOfStream NoMemory = Unit {0}
IsOfStream fault = ⊥

-- no record is whole yet and no header is at fault, where these bytes have come
abbrev pub IsOpen : List ℕ → Option State → Type 0
IsOpen came state = HasNoRecord came × HasNoFault came × HasCome came state

-- what a piece comes to where these bytes have come before: that the record isn't whole yet, or the answer
abbrev pub Takes : {X : Type 0} → (X → List ℕ) → List ℕ → List ℕ → Option (Result X AdminFault) → Option State → Type 0
Takes view came piece None new = IsOpen (came ++ piece) new
Takes view came piece (Some (Ok made)) new = BeginsWith (view made) (came ++ piece)
Takes view came piece (Some (Err TooLong)) new = HasFault (came ++ piece)
Takes view came piece (Some (Err NoMemory)) new = Unit {0}
Takes view came piece (Some (Err fault)) new = ⊥

-- a stream to which these bytes are written has this record next; sent is the stream in between
pub record HasReply {S : Type 0} (contents remaining : S → Option (List ℕ)) (stream : S) (call reply : List ℕ) : Type 0 where
  pub sent : S
  pub written : Appends (contents stream) (contents sent) call
  pub next : IfSome (remaining sent) (BeginsWith reply)
