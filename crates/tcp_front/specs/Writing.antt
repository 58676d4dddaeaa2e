-- Bytes and records that are written whole, or up to a failure of the device.
use Rattle.std.specs.Prelude.{◌≡◌, ℕ, ◌+◌, ◌-◌, ◌^◌, ◌<◌, min, List, [], ◌∷◌, ◌++◌, length, take, Option, Result, Ok, Err}
use Rattle.std.specs.Prelude.{MatchResult}
use Rattle.std.specs.Io.KnownBytes.{Appends}
use Rattle.outboxes.specs.Messages.{ReplyMessage, record_of}
use Rattle.tcp_front.specs.declared.counted.Counted.{Counted}
use Rattle.tcp_front.specs.declared.writing.WriteFault.{WriteFault}
use Rattle.tcp_front.specs.Counts.{device_of, HasFailed, HasNotFailed}

-- a writer's failure (our profile)
abbrev pub write_fault_number : ℕ
write_fault_number = 65

-- These bytes went out between the two, over a writer that tells its bytes.
abbrev pub HasSent : {W : Type 0} → (W → Option (List ℕ)) → Counted W → List ℕ → Counted W → Type 0
HasSent contents old bytes new = Appends (contents (device_of old)) (contents (device_of new)) bytes

-- All of the bytes went out; or a beginning of them did, of the size that is told, and the device failed.
abbrev pub IsWritten : {W : Type 0} → (W → Option (List ℕ)) → Counted W → List ℕ → Result (Prim.Unit) ℕ → Counted W → Type 0
IsWritten contents old bytes result new = MatchResult result
    (λ _. HasSent contents old bytes new × HasNotFailed old new)
    (λ sent. (sent < length bytes) × (HasSent contents old (take sent bytes) new × HasFailed old new))

-- the records of replies, one after another
abbrev pub records_of : List ReplyMessage → List ℕ
records_of [] = []
records_of (m ∷ ms) = record_of m ++ records_of ms

-- a count that stays at the last value of its type
abbrev pub counted : ℕ → ℕ
counted n = min n (2 ^ 64 - 1)

-- The records that were taken went out whole, and nothing more was there; or all but the last did, and
-- a beginning of that one, which together have the size that is told, and the device failed.
abbrev pub HasWritten : {W S : Type 0} → (W → Option (List ℕ)) → (S → List ReplyMessage → S → Type 0) → (S → Type 0)
    → Counted W → S → Result (Prim.Unit) WriteFault → Counted W → S → Type 0
HasWritten contents gave is_out writer source (Ok _) writer' source' =
    (ms : List ReplyMessage) × gave source ms source' × is_out source'
    × HasSent contents writer (records_of ms) writer' × HasNotFailed writer writer'
HasWritten contents gave is_out writer source (Err fault) writer' source' =
    (ms : List ReplyMessage) × ((m : ReplyMessage) × ((begun : ℕ) × gave source (ms ++ m ∷ []) source'
    × (begun < length (record_of m))
    × HasSent contents writer (records_of ms ++ take begun (record_of m)) writer'
    × (fault.sent ≡ counted (length (records_of ms) + begun)) × HasFailed writer writer'))
