-- Record marking a byte at a time: what each byte of a stream leads to.
use Rattle.std.specs.Prelude.{◌≡◌, ℕ, ◌+◌, ◌-◌, ◌%◌, Bool, nat_lt, nat_le, ◌==◌, List, [], ◌∷◌, ◌++◌, length, if◌then◌else◌, Option, Some, None}
use Rattle.std.specs.Int.{w32, from_be_bytes}
use Rattle.rpc_record.specs.Records.{limit, last_bit}

-- What has come since the last record: the joined data and fewer than four bytes of a header; or
-- the joined data, how much of a fragment is missing, and whether it is the last.
pub data State : Type 0 where
  InHeader : (joined header : List ℕ) → State
  InData : (joined : List ℕ) (left : ℕ) (last : Bool) → State

-- nothing has come since the last record
abbrev pub start : State
start = InHeader [] []

-- what a byte leads to: another state, the end of a record, or a fault
pub data Next : Type 0 where
  Goes : (state : State) → Next
  Ends : (made : List ℕ) → Next
  Faults : Next

-- what a fragment's end leads to
abbrev pub after_fragment : List ℕ → Bool → Next
after_fragment joined last = if last then Ends joined else Goes (InHeader joined [])

-- what a whole header leads to, read as a number
abbrev pub after_header : List ℕ → ℕ → Next
after_header joined number =
    if nat_lt limit (length joined + number % last_bit) then Faults
    else if number % last_bit == 0 then after_fragment joined (nat_le last_bit number)
    else Goes (InData joined (number % last_bit) (nat_le last_bit number))

-- what one more byte leads to
abbrev pub after : State → ℕ → Next
after (InHeader joined header) b =
    if length header == 3 then after_header joined (from_be_bytes w32 (header ++ b ∷ []))
    else Goes (InHeader joined (header ++ b ∷ []))
after (InData joined left last) b =
    if left == 1 then after_fragment (joined ++ b ∷ []) last
    else Goes (InData (joined ++ b ∷ []) (left - 1) last)

-- what bytes lead to, up to the first record or fault, and how many they are up to there
pub data Outcome : Type 0 where
  More : (state : State) → Outcome
  Made : (taken : ℕ) (made : List ℕ) → Outcome
  Fault : (taken : ℕ) → Outcome

-- what a byte leads to, and where it goes on, what the others lead to
abbrev pub go : ℕ → Next → (State → Outcome) → Outcome
go taken (Goes next) others = others next
go taken (Ends made) others = Made taken made
go taken Faults others = Fault taken

-- what bytes lead to, where some were taken before
abbrev pub scan : ℕ → State → List ℕ → Outcome
scan taken state [] = More state
scan taken state (b ∷ bytes) = go (taken + 1) (after state b) (λ next. scan (taken + 1) next bytes)

-- what bytes lead to, where `None` says that a fault was told
abbrev pub outcome : Option State → List ℕ → Outcome
outcome None bytes = Fault 0
outcome (Some state) bytes = scan 0 state bytes

-- these bytes lead to no record and no fault
abbrev pub IsMore : Outcome → Type 0
IsMore o = (state : State) × (o ≡ More state)
