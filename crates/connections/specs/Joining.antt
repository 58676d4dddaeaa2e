-- Records that are joined, to go out in one write.
use Rattle.std.specs.Prelude.{◌≡◌, ℕ, List, ◌++◌, Option, Some, None}
use Rattle.std.specs.FinMap.{get}
use Rattle.outboxes.specs.Boxes.{Boxes}
use Rattle.outboxes.specs.Messages.{ReplyMessage}
use Rattle.tcp_front.specs.Writing.{records_of}
use Rattle.connections.specs.declared.due.Due.{Due}
use Rattle.connections.specs.Rests.{list_of}
use Rattle.connections.specs.Owing.{Pays}
use Rattle.connections.specs.Taking.{IsOut, Takes}

-- where no record is handed out, none waits any more
abbrev pub IsOutAs : Option ReplyMessage → Option (List ReplyMessage) → Type 0
IsOutAs None waiting = IsOut waiting
IsOutAs (Some m) waiting = Unit {0}

-- What waited for the connection was taken, and stands behind the bytes that were there, but for a record that may be
-- handed out. All that was taken is owed no more.
pub record HasJoined (number : ℕ) (old : Boxes) (bytes : List ℕ) (owed : Due) (alone : Option ReplyMessage) (new : Boxes)
    (bytes' : List ℕ) (owed' : Due) : Type 0 where
  pub joined : List ReplyMessage
  pub takes : Takes number (joined ++ list_of alone) old new
  pub pays : Pays (joined ++ list_of alone) owed owed'
  pub bytes_are : bytes' ≡ bytes ++ records_of joined
  pub out : IsOutAs alone (get new.waiting number)
