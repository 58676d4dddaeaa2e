-- What is read of a whole stream.
use Rattle.std.specs.Prelude.{ℕ, ◌<◌, List, [], ◌∷◌, ◌++◌, Option, Some, None, MatchOption}
use Rattle.rpc_record.specs.Records.{Records, HasFault, HasNoFault}
use Rattle.rpc_record.specs.Machine.{State, start, Next, Goes, Ends, Faults, after}

-- The records of a stream, and what has come since the last one: `None` from a fault on.
pub record Reading : Type 0 where
  pub records : List (List ℕ)
  pub at : Option State

-- a stream of no bytes
abbrev pub opening : Reading
opening = record { records = []; at = Some start }

-- where a byte leads, after these records
abbrev pub reading_at : List (List ℕ) → Next → Reading
reading_at records (Goes state) = record { records = records; at = Some state }
reading_at records (Ends made) = record { records = records ++ made ∷ []; at = Some start }
reading_at records Faults = record { records = records; at = None }

-- one more byte, from which nothing comes after a fault
abbrev pub byte_read : List (List ℕ) → Option State → ℕ → Reading
byte_read records None b = record { records = records; at = None }
byte_read records (Some state) b = reading_at records (after state b)

-- more bytes
abbrev pub read_on : Reading → List ℕ → Reading
read_on reading [] = reading
read_on reading (b ∷ bytes) = read_on (byte_read reading.records reading.at b) bytes

-- a whole stream
abbrev pub read_stream : List ℕ → Reading
read_stream stream = read_on opening stream

-- these are bytes
abbrev pub AreBytes : List ℕ → Type 0
AreBytes [] = Unit {0}
AreBytes (b ∷ bytes) = (b < 256) × AreBytes bytes

-- The reading has the stream's records, and has come to a fault exactly when a header after them
-- is at fault.
abbrev pub IsReading : List ℕ → Reading → Type 0
IsReading stream reading =
    (rest : List ℕ) × Records stream reading.records rest
    × MatchOption reading.at (HasFault rest) (λ _. HasNoFault rest)
