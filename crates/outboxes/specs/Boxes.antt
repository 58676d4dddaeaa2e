-- What waits to be written to connections (our profile).
use Rattle.std.specs.Prelude.{◌≡◌, ℕ, ◌+◌, ◌%◌, ◌^◌, ◌≤◌, ◌⊎◌, refl, List, [], ◌∷◌, ◌++◌, Option, Some, None, drop}
use Rattle.std.specs.Coded.{Coded, code_by, coded×, coded_ℕ}
use Rattle.std.specs.FinMap as maps
use Rattle.std.specs.FinMap.{FinMap, empty, get, insert, remove, len}
use Rattle.std.specs.Ordering.{nat_cmp}
use Rattle.nfs_model.specs.volume.Maps.{changed_at}
use Rattle.outboxes.specs.Messages.{ReplyMessage}

-- How many connections may be open, the number that the next one gets, by how much the one after that
-- is larger, and what waits for each connection that is open, the oldest first.
pub record Boxes : Type 0 where
  pub most : ℕ
  pub next : ℕ
  pub step : ℕ
  pub waiting : FinMap nat_cmp (List ReplyMessage)

-- its code, where replies have one
abbrev pub coded_boxes : Coded (List ReplyMessage) → Coded Boxes
coded_boxes code =
    code_by (ℕ × (ℕ × (ℕ × FinMap nat_cmp (List ReplyMessage))))
    (coded× coded_ℕ (coded× coded_ℕ (coded× coded_ℕ (maps.code coded_ℕ code))))
    (λ b. (b.most, (b.next, (b.step, b.waiting))))
    (λ p. record { most = p.0; next = p.1.0; step = p.1.1.0; waiting = p.1.1.1 }) (λ _. refl)

-- a reply on its way to a connection
pub record Addressed : Type 0 where
  pub connection : ℕ
  pub message : ReplyMessage

abbrev pub addressed : ℕ → ReplyMessage → Addressed
addressed connection message = record { connection = connection; message = message }

-- ---- limits

-- the most connections that are open, where no other number is given
abbrev pub most_open : ℕ
most_open = 64

-- the most numbers that are given
abbrev pub most_numbers : ℕ
most_numbers = 2 ^ 62

-- the most bytes of a record, its header with it
abbrev pub most_bytes : ℕ
most_bytes = 131072

-- no connection can be opened
abbrev pub IsFull : Boxes → Type 0
IsFull b = (b.most ≤ len b.waiting) ⊎ (most_numbers ≤ b.next)

-- ---- lanes

-- a number is one of the lane's
abbrev pub IsNumberOf : ℕ → ℕ → ℕ → Type 0
IsNumberOf lane lanes number = number % lanes ≡ lane

-- these boxes give just the numbers of the lane
abbrev pub AreOfLane : ℕ → ℕ → Boxes → Type 0
AreOfLane lane lanes b = (b.step ≡ lanes) × IsNumberOf lane lanes b.next

-- ---- what calls do

-- before the first connection of one of this many lanes, at which this many may be open
abbrev pub none_of : ℕ → ℕ → ℕ → Boxes
none_of most lane lanes = record { most = most; next = lane; step = lanes; waiting = empty }

-- before the first connection, where there is one lane alone
abbrev pub none_open : Boxes
none_open = none_of most_open 0 1

-- one connection more, under the next number
abbrev pub opened : Boxes → Boxes
opened b = record { most = b.most; next = b.next + b.step; step = b.step; waiting = insert b.waiting b.next [] }

-- a connection closed, and what waited for it gone; nothing where the number isn't open
abbrev pub shut : ℕ → Boxes → Boxes
shut connection b = record b { waiting = remove b.waiting connection }

-- with one more behind all others
abbrev pub with_last : ReplyMessage → List ReplyMessage → List ReplyMessage
with_last m ms = ms ++ m ∷ []

-- a reply behind those that wait for its connection; nothing where the number isn't open
abbrev pub put : Addressed → Boxes → Boxes
put a b = record b { waiting = changed_at (with_last a.message) a.connection b.waiting }

-- the oldest reply of a list
abbrev pub first_of : List ReplyMessage → Option ReplyMessage
first_of [] = None
first_of (m ∷ ms) = Some m

abbrev pub first_in : Option (List ReplyMessage) → Option ReplyMessage
first_in None = None
first_in (Some ms) = first_of ms

-- the oldest reply that waits for a connection
abbrev pub oldest : ℕ → Boxes → Option ReplyMessage
oldest connection b = first_in (get b.waiting connection)

-- without the oldest reply that waits for a connection
abbrev pub taken : ℕ → Boxes → Boxes
taken connection b = record b { waiting = changed_at (drop 1) connection b.waiting }
