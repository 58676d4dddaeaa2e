-- The code's position in a record, and the record's data, as a state.
use Rattle.std.specs.Prelude.{◌≡◌, ℕ, Bool, ◌+◌, ◌≤◌, ◌==◌, List, ◌++◌, length, take, drop, min, if◌then◌else◌}
use Rattle.rpc_record.specs.declared.position.Position.{Position}
use Rattle.rpc_record.specs.declared.position.Turn.{Turn}
use Rattle.rpc_record.specs.declared.position.Turn.TheVariants as turns
use Rattle.rpc_record.specs.Records.{limit}
use Rattle.rpc_record.specs.Machine.{State, InHeader, InData, Next, Goes, Ends, Faults, Outcome, More, Made, Fault, after_fragment, go, scan}

-- the state with this data
abbrev pub state : List ℕ → Position → State
state joined p = if p.left == 0 then InHeader joined (take p.count p.header) else InData joined p.left p.last

-- a position that a stream can come to
pub record IsPosition (p : Position) : Type 0 where
  pub count : p.count ≤ 3
  pub small : p.joined + p.left ≤ limit

-- where a turn leads, with the data joined by then
abbrev pub next_of : Turn → List ℕ → Position → Next
next_of turns.Goes joined new = Goes (state joined new)
next_of turns.Ends joined new = Ends joined
next_of turns.Faults joined new = Faults

-- where data leads after which this much of its fragment is missing
abbrev pub after_data : List ℕ → ℕ → Bool → Next
after_data joined left last = if left == 0 then after_fragment joined last else Goes (InData joined left last)

-- the data at the beginning of these bytes
abbrev pub data_of : Position → List ℕ → List ℕ
data_of p bytes = take (min p.left (length bytes)) bytes

-- how much data is joined after it
abbrev pub joined_by : Position → List ℕ → ℕ
joined_by p bytes = p.joined + min p.left (length bytes)

-- what bytes lead to, where a turn has taken some of them
abbrev pub rest_of : ℕ → Next → List ℕ → Outcome
rest_of taken next bytes = go taken next (λ state. scan taken state bytes)

-- The turn took these bytes, with any data of the place's size joined before.
abbrev pub Turns : Position → List ℕ → ℕ → Turn → Position → Type 0
Turns old bytes taken turn new =
    (joined : List ℕ) (before : ℕ) → length joined ≡ old.joined
    → scan before (state joined old) bytes
    ≡ rest_of (before + taken) (next_of turn (joined ++ data_of old bytes) new) (drop taken bytes)

-- what bytes led to, of which this many were taken up to this turn
abbrev pub outcome_of : ℕ → Turn → List ℕ → Position → Outcome
outcome_of taken turns.Goes joined new = More (state joined new)
outcome_of taken turns.Ends joined new = Made taken joined
outcome_of taken turns.Faults joined new = Fault taken

-- how many bytes are taken up to this outcome, and its last turn
abbrev pub walk_to : List ℕ → Outcome → ℕ × Turn
walk_to bytes (More _) = (length bytes, turns.Goes)
walk_to bytes (Made taken _) = (taken, turns.Ends)
walk_to bytes (Fault taken) = (taken, turns.Faults)
