-- Records that are written many at once.
use Rattle.std.specs.Prelude.{◌≡◌, ℕ, ◌+◌, ◌<◌, List, [], ◌∷◌, ◌++◌, length, take, Option, Result, Ok, Err}
use Rattle.outboxes.specs.Messages.{ReplyMessage}
use Rattle.tcp_front.specs.declared.counted.Counted.{Counted}
use Rattle.tcp_front.specs.declared.joining.Joined.{Joined}
use Rattle.tcp_front.specs.declared.joining.Joined.TheVariants as joins
use Rattle.tcp_front.specs.declared.writing.WriteFault.{WriteFault}
use Rattle.tcp_front.specs.Counts.{HasFailed, HasNotFailed}
use Rattle.tcp_front.specs.Writing.{HasSent, counted, records_of}

-- the record that is left over
abbrev pub over : Joined → List ReplyMessage
over joins.Out = []
over joins.Many = []
over (joins.Over m) = m ∷ []

-- where it is said that the source has none, that is so
abbrev pub IsOutAs : {S : Type 0} → (S → Type 0) → Joined → S → Type 0
IsOutAs is_out joins.Out source = is_out source
IsOutAs is_out joins.Many source = Unit {0}
IsOutAs is_out (joins.Over m) source = Unit {0}

-- Records were taken and stand behind the bytes that were there, but for one that may be left over.
abbrev pub HasJoined : {S : Type 0} → (S → List ReplyMessage → S → Type 0) → (S → Type 0) → S → List ℕ → Joined → S
    → List ℕ → Type 0
HasJoined gave is_out source bytes joined source' bytes' =
    (ms : List ReplyMessage) × gave source (ms ++ over joined) source' × (bytes' ≡ bytes ++ records_of ms)
    × IsOutAs is_out joined source'

-- all of the bytes went out, or a beginning of them, and the count is told with what went out before
abbrev pub HasSentMore : {W : Type 0} → (W → Option (List ℕ)) → Counted W → List ℕ → ℕ → Result ℕ WriteFault → Counted W → Type 0
HasSentMore contents old bytes before (Ok after) new =
    HasSent contents old bytes new × (after ≡ counted (before + length bytes)) × HasNotFailed old new
HasSentMore contents old bytes before (Err fault) new =
    (begun : ℕ) × (begun < length bytes) × HasSent contents old (take begun bytes) new
    × (fault.sent ≡ counted (before + begun)) × HasFailed old new

-- The records that were taken went out whole, and nothing more was there; or a beginning of their bytes did, of
-- the size that is told, and the device failed.
abbrev pub HasWrittenJoined : {W S : Type 0} → (W → Option (List ℕ)) → (S → List ReplyMessage → S → Type 0) → (S → Type 0)
    → Counted W → S → Result (Prim.Unit) WriteFault → Counted W → S → Type 0
HasWrittenJoined contents gave is_out writer source (Ok _) writer' source' =
    (ms : List ReplyMessage) × gave source ms source' × is_out source'
    × HasSent contents writer (records_of ms) writer' × HasNotFailed writer writer'
HasWrittenJoined contents gave is_out writer source (Err fault) writer' source' =
    (ms : List ReplyMessage) × ((n : ℕ) × gave source ms source' × (n < length (records_of ms))
    × HasSent contents writer (take n (records_of ms)) writer' × (fault.sent ≡ counted n) × HasFailed writer writer')
