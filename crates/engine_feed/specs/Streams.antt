-- Whole streams: the calls and refusals that their records are, by what is offered, and the fault that ends them.
use Rattle.std.specs.Prelude.{◌≡◌, ℕ, List, [], ◌∷◌, ◌++◌, map, Option, Some, None, Result, Ok, Err}
use Rattle.rpc_record.specs.Machine.{State}
use Rattle.rpc_record.specs.Records.{Records, HasFault, HasNoFault}
use Rattle.rpc_record.specs.Stream.{read_stream}
use Rattle.nfs_model.specs.World.{Heard, Scanned, Codec}
use Rattle.rpc_msg.specs.declared.offer.Offer.{Offer}
use Rattle.engine_feed.specs.Codec.{heard, reply_record_by}

-- a header that brings a record above the limit
abbrev pub fault_at : Option State → Option ℕ
fault_at None = Some 11
fault_at (Some state) = None

-- the records before the first that is neither a call nor refused
abbrev pub served_of : List (Result Heard ℕ) → Option ℕ → Scanned
served_of [] fault = record { served = []; fault = fault }
served_of (Ok h ∷ others) fault = record { served = h ∷ (served_of others fault).served; fault = (served_of others fault).fault }
served_of (Err number ∷ others) fault = record { served = []; fault = Some number }

abbrev pub scan_stream : Offer → List ℕ → Scanned
scan_stream offer stream = served_of (map (heard offer) (read_stream stream).records) (fault_at (read_stream stream).at)

-- whether a header in the rest is at fault, told as 11
abbrev pub IsFaultOf : List ℕ → Option ℕ → Type 0
IsFaultOf rest None = HasNoFault rest
IsFaultOf rest (Some number) = (number ≡ 11) × HasFault rest

-- By record marking (RFC 5531 section 11): the stream is spellings of records and a rest. Served are the records
-- in order, up to the first that is neither a call nor refused.
pub record IsServed (offer : Offer) (stream : List ℕ) (scanned : Scanned) : Type 0 where
  pub records : List (List ℕ)
  pub rest : List ℕ
  pub fault : Option ℕ
  pub are : Records stream records rest
  pub at_fault : IsFaultOf rest fault
  pub served : scanned ≡ served_of (map (heard offer) records) fault

-- these bytes, after a stream, complete nothing
abbrev pub IsQuiet : Offer → List ℕ → List ℕ → Type 0
IsQuiet offer stream [] = Unit {0}
IsQuiet offer stream (b ∷ bytes) =
    (scan_stream offer (stream ++ b ∷ []) ≡ scan_stream offer stream) × IsQuiet offer (stream ++ b ∷ []) bytes

-- the last of these bytes, and none before it, brings the stream to what was scanned
pub record Completes (offer : Offer) (stream taken : List ℕ) (scanned : Scanned) : Type 0 where
  pub front : List ℕ
  pub last : ℕ
  pub split : taken ≡ front ++ last ∷ []
  pub quiet : IsQuiet offer stream front
  pub complete : scan_stream offer (stream ++ taken) ≡ scanned

-- ---- the codec

-- how a server with this offer reads and writes streams
abbrev pub codec : Offer → Codec
codec offer = record { scan = scan_stream offer; reply_record = reply_record_by offer }
