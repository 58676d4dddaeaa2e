-- What a reassembler answers: by the machine, and in the words of whole streams.
use Rattle.std.specs.Prelude.{◌≡◌, ℕ, ◌<◌, ◌≤◌, List, [], ◌∷◌, ◌++◌, length, take, Option, Some, None, IsSome}
use Rattle.rpc_record.specs.declared.reassembler.Step.{Step}
use Rattle.rpc_record.specs.declared.reassembler.Step.TheVariants as steps
use Rattle.rpc_record.specs.declared.reassembler.Look.{Look}
use Rattle.rpc_record.specs.declared.reassembler.Look.TheVariants as looks
use Rattle.rpc_record.specs.Records.{IsRecord, HasNoRecord, IsAtFault, HasNoFault}
use Rattle.rpc_record.specs.Machine.{State, start, Outcome, More, Made, Fault, scan, outcome}
use Rattle.rpc_record.specs.Stream.{AreBytes, read_stream}

-- Feeding these bytes takes this many of them, answers this, and leads from the old state to the
-- new one.
abbrev pub Feeds : Option State → List ℕ → ℕ → Step → Option State → Type 0
Feeds old bytes taken (steps.Record made) new =
    (0 < taken) × (taken ≤ length bytes) × (outcome old bytes ≡ Made taken made.items) × (new ≡ Some start)
Feeds old bytes taken steps.More new =
    (taken ≡ length bytes) × ((state : State) × (outcome old bytes ≡ More state) × (new ≡ Some state))
Feeds old bytes taken steps.Fault new =
    (taken ≤ length bytes) × (outcome old bytes ≡ Fault taken) × (new ≡ None)
Feeds old bytes taken steps.NoMemory new = (taken ≡ 0) × IsSome old × (new ≡ old)

-- These bytes have come since the last record, and no fault was told.
abbrev pub HasCome : List ℕ → Option State → Type 0
HasCome came None = ⊥
HasCome came (Some state) = AreBytes came × (scan 0 start came ≡ More state)

-- What feeding these bytes says of all that has come since the last record, where came had come
-- before them: they end in a record (RFC 5531, section 11); or no record is whole yet and no
-- header is at fault; or they end in a header at fault.
abbrev pub Says : List ℕ → List ℕ → ℕ → Step → Option State → Type 0
Says came bytes taken (steps.Record made) new =
    (taken ≤ length bytes) × IsRecord made.items (came ++ take taken bytes) × (new ≡ Some start)
Says came bytes taken steps.More new =
    (taken ≡ length bytes) × HasNoRecord (came ++ bytes) × HasNoFault (came ++ bytes)
    × HasCome (came ++ bytes) new
Says came bytes taken steps.Fault new =
    (taken ≤ length bytes) × IsAtFault (came ++ take taken bytes) × (new ≡ None)
Says came bytes taken steps.NoMemory new = (taken ≡ 0) × HasCome came new

-- an answer that gives no record and tells no fault
abbrev pub GivesNothing : Step → Type 0
GivesNothing (steps.Record made) = ⊥
GivesNothing steps.More = Unit {0}
GivesNothing steps.Fault = ⊥
GivesNothing steps.NoMemory = Unit {0}

-- the records that an answer gives
abbrev pub given : Step → List (List ℕ)
given (steps.Record made) = made.items ∷ []
given steps.More = []
given steps.Fault = []
given steps.NoMemory = []

-- how many of the bytes go up to this outcome, and what stands there
abbrev pub look_at : List ℕ → Outcome → ℕ × Look
look_at bytes (More _) = (length bytes, looks.More)
look_at bytes (Made taken _) = (taken, looks.Record)
look_at bytes (Fault taken) = (taken, looks.Fault)

-- A look told what feeding the same bytes took and answered, want of memory aside.
abbrev pub LookAgrees : ℕ × Look → ℕ → Step → Type 0
LookAgrees told taken (steps.Record _) = told ≡ (taken, looks.Record)
LookAgrees told taken steps.More = told ≡ (taken, looks.More)
LookAgrees told taken steps.Fault = told ≡ (taken, looks.Fault)
LookAgrees told taken steps.NoMemory = Unit {0}

-- These bytes make no record of the stream, and no header in them is at fault.
abbrev pub GoesOn : List ℕ → List ℕ → Type 0
GoesOn stream bytes =
    (state : State) × (read_stream (stream ++ bytes) ≡ record { records = (read_stream stream).records; at = Some state })

-- what a look says of a stream that goes on with these bytes
abbrev pub Foresees : List ℕ → List ℕ → ℕ → Look → Type 0
Foresees stream bytes taken looks.Record =
    (0 < taken) × (taken ≤ length bytes)
    × ((made : List ℕ) × (read_stream (stream ++ take taken bytes) ≡ record { records = (read_stream stream).records ++ made ∷ []; at = Some start }))
Foresees stream bytes taken looks.More = (taken ≡ length bytes) × GoesOn stream bytes
Foresees stream bytes taken looks.Fault =
    (taken ≤ length bytes)
    × (read_stream (stream ++ take taken bytes) ≡ record { records = (read_stream stream).records; at = None })

-- The number by which a step is told, where it is a fault or for want of memory (our profile).
abbrev pub step_number : Step → Option ℕ
step_number (steps.Record made) = None
step_number steps.More = None
step_number steps.Fault = Some 11
step_number steps.NoMemory = Some 90

abbrev pub look_number : Look → Option ℕ
look_number looks.Record = None
look_number looks.More = None
look_number looks.Fault = Some 11
