-- How the writing of a connection stands, and what one call does to it.
use Rattle.std.specs.Prelude.{◌≡◌, ℕ, ◌<◌, ◌≤◌, ◌++◌, ◌⊎◌, Bool, true, false, List, [], length, Option}
use Rattle.std.specs.FinMap.{get}
use Rattle.std.specs.Io.KnownBytes.{Appends}
use Rattle.outboxes.specs.Boxes.{Boxes}
use Rattle.outboxes.specs.Messages.{ReplyMessage}
use Rattle.tcp_front.specs.Writing.{records_of}
use Rattle.connections.specs.declared.connection.Connection.{Connection}
use Rattle.connections.specs.declared.due.Due.{Due}
use Rattle.connections.specs.declared.told.Told.{Told}
use Rattle.connections.specs.declared.told.Told.TheVariants as tolds
use Rattle.connections.specs.declared.watched.Watched.{Watched}
use Rattle.connections.specs.declared.writing.Sent.{Sent}
use Rattle.connections.specs.declared.writing.Sent.TheVariants as sents
use Rattle.connections.specs.Incoming.{Incoming, GivesNone}
use Rattle.connections.specs.Told.{device_of, HasCalled}
use Rattle.connections.specs.Connections.{now_of, number_of}
use Rattle.connections.specs.Owing.{Pays}
use Rattle.connections.specs.Taking.{IsOut, Takes}

-- ---- from the first reply on

-- These bytes were given to the device since it was opened, a beginning of the records of these replies. What isn't
-- given yet is the rest and then what waits, unless the device failed.
pub record IsWrittenTo {D : Type 0} (written : D → Option (List ℕ)) (opened now : D) (rest : List ℕ) (is_broken : Bool)
    (waiting replies : List ReplyMessage) : Type 0 where
  pub given : List ℕ
  pub left : List ℕ
  pub went_out : Appends (written opened) (written now) given
  pub are : given ++ left ≡ records_of replies
  pub whole : is_broken ≡ false → left ≡ rest ++ records_of waiting

-- To the device of this connection, opened as this, these replies go, of which these wait in its outbox.
abbrev pub Writes : {D : Type 0} → (D → Option (List ℕ)) → D → Connection D → List ReplyMessage → List ReplyMessage → Type 0
Writes written opened c waiting replies = IsWrittenTo written opened (now_of c) c.rest c.is_broken waiting replies

-- ---- one write

-- What a write came to, of the bytes that went out and of those that are left. The device was called once, and answered
-- that all that it was offered went out; that some of it did, or that it would have to wait; or that it failed.
abbrev pub ComesTo : {D : Type 0} → Sent → Watched D → List ℕ → List ℕ → Watched D → Type 0
ComesTo sents.All old sent left new = (left ≡ []) × HasCalled old (length sent) (tolds.Moved (length sent)) new
ComesTo sents.More old sent left new = HasCalled old (length sent) (tolds.Moved (length sent)) new × (0 < length sent)
ComesTo sents.Blocked old sent left new =
    (offered : ℕ) × (length sent < offered)
    × ((HasCalled old offered (tolds.Moved (length sent)) new × (0 < length sent))
    ⊎ (HasCalled old offered tolds.Blocked new × (sent ≡ [])))
ComesTo sents.Failed old sent left new =
    (sent ≡ []) × ((offered : ℕ) × (HasCalled old offered (tolds.Moved 0) new ⊎ HasCalled old offered tolds.Failed new))

-- What an answer to a write of this many bytes comes to, and how many went out: none at a failure; and fewer than all, or
-- none where the device would have to wait.
abbrev pub IsOutcome : Told → ℕ → ℕ → Sent → Type 0
IsOutcome (tolds.Moved n) size moved sents.All = ⊥
IsOutcome (tolds.Moved n) size moved sents.More = (moved ≡ size) × (size ≤ n) × (0 < n)
IsOutcome (tolds.Moved n) size moved sents.Blocked = (moved ≡ n) × (n < size) × (0 < n)
IsOutcome (tolds.Moved n) size moved sents.Failed = (moved ≡ 0) × (n ≡ 0)
IsOutcome tolds.Blocked size moved sents.All = ⊥
IsOutcome tolds.Blocked size moved sents.More = ⊥
IsOutcome tolds.Blocked size moved sents.Blocked = moved ≡ 0
IsOutcome tolds.Blocked size moved sents.Failed = ⊥
IsOutcome tolds.Failed size moved sents.All = ⊥
IsOutcome tolds.Failed size moved sents.More = ⊥
IsOutcome tolds.Failed size moved sents.Blocked = ⊥
IsOutcome tolds.Failed size moved sents.Failed = moved ≡ 0

-- what a write came to where nothing else waits
abbrev pub all_of : Sent → Sent
all_of sents.All = sents.All
all_of sents.More = sents.All
all_of sents.Blocked = sents.Blocked
all_of sents.Failed = sents.Failed

-- A beginning of what waits went out, and the others wait still.
pub record HasSent {D : Type 0} (unread : D → Incoming) (written : D → Option (List ℕ)) (old : Watched D) (waiting : List ℕ) (result : Sent)
    (new : Watched D) (waiting' : List ℕ) : Type 0 where
  pub sent : List ℕ
  pub split : waiting ≡ sent ++ waiting'
  pub went_out : Appends (written (device_of old)) (written (device_of new)) sent
  pub apart : GivesNone (unread (device_of old)) (unread (device_of new))
  pub comes_to : ComesTo result old sent waiting' new

-- What a call came to: nothing was there, or there was one write; and what an answer says of the outbox.
abbrev pub TellsSent : {D : Type 0} → Sent → Watched D → List ℕ → List ℕ → Option (List ReplyMessage)
    → Watched D → Type 0
TellsSent sents.All old sent left waiting new =
    IsOut waiting × (((left ≡ []) × (sent ≡ []) × (new ≡ old)) ⊎ ComesTo sents.All old sent left new)
TellsSent sents.More old sent left waiting new = ComesTo sents.More old sent left new
TellsSent sents.Blocked old sent left waiting new = ComesTo sents.Blocked old sent left new
TellsSent sents.Failed old sent left waiting new = ComesTo sents.Failed old sent left new

-- These replies were taken, and are owed no more; and a beginning of the rest and of their records went out.
pub record HasWrittenParts {D : Type 0} (unread : D → Incoming) (written : D → Option (List ℕ)) (number : ℕ) (old : Watched D)
    (rest : List ℕ) (boxes : Boxes) (owed : Due) (result : Sent) (new : Watched D) (rest' : List ℕ) (boxes' : Boxes)
    (owed' : Due) : Type 0 where
  pub taken : List ReplyMessage
  pub sent : List ℕ
  pub takes : Takes number taken boxes boxes'
  pub pays : Pays taken owed owed'
  pub split : rest ++ records_of taken ≡ sent ++ rest'
  pub went_out : Appends (written (device_of old)) (written (device_of new)) sent
  pub apart : GivesNone (unread (device_of old)) (unread (device_of new))
  pub tells : TellsSent result old sent rest' (get boxes'.waiting number) new

-- whether nothing more is written after an answer
abbrev pub breaks : Sent → Bool
breaks sents.All = false
breaks sents.More = false
breaks sents.Blocked = false
breaks sents.Failed = true

-- One call: nothing where the device failed before, and else this.
abbrev pub HasWrittenAs : {D : Type 0} → Bool → (D → Incoming) → (D → Option (List ℕ)) → Connection D → Boxes → Sent
    → Connection D → Boxes → Type 0
HasWrittenAs true unread written old boxes result new boxes' = (result ≡ sents.Failed) × (new ≡ old) × (boxes' ≡ boxes)
HasWrittenAs false unread written old boxes result new boxes' =
    HasWrittenParts unread written (number_of old) old.device old.rest boxes old.owed result new.device new.rest boxes' new.owed
    × (new ≡ record old { device = new.device; rest = new.rest; is_broken = breaks result; owed = new.owed })

abbrev pub HasWritten : {D : Type 0} → (D → Incoming) → (D → Option (List ℕ)) → Connection D → Boxes → Sent
    → Connection D → Boxes → Type 0
HasWritten unread written old boxes result new boxes' = HasWrittenAs old.is_broken unread written old boxes result new boxes'
