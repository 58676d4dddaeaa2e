-- Who sends a record, and what it may ask (our profile).
use Rattle.std.specs.Prelude.{ℕ, Bool, true, not, ◌&&◌, ◌==◌, if◌then◌else◌}
use Rattle.nfs_model.specs.Types.{Call, Caller, Grow, Stop, Asked, Ask, Refused, Undecoded, AuthError}
use Rattle.nfs_model.specs.Standing.{Standing, standing}
use Rattle.nfs_model.specs.World.{Heard}
use Rattle.nfs_values.specs.Caller.{peer_of}
use Rattle.nfs_values.specs.Standing.{standing_of}
use Rattle.tcp_front.specs.declared.peer.Peer.{Peer}

-- who sends records: whether it may stop the server, its address and port as one number, and how its callers stand
pub record Sender : Type 0 where
  pub privileged : Bool
  pub number : ℕ
  pub standing : Standing

-- that is a peer
abbrev pub sender_of : Peer → Sender
sender_of peer = record { privileged = peer.is_privileged; number = peer_of peer.address; standing = standing_of peer.standing }

-- STOP is for privileged senders: where their callers are checked, for uid 0 as the record bears it, and not for one that only reads
abbrev pub may_stop : Sender → Caller → Bool
may_stop sender caller =
    if sender.standing.checked then sender.privileged && (caller.credential.uid == 0) && not sender.standing.reads_only
    else sender.privileged

-- GROW is everybody's, but where callers are checked it is for whom STOP is
abbrev pub may_grow : Sender → Caller → Bool
may_grow sender caller = if sender.standing.checked then may_stop sender caller else true

-- whether a sender may ask a call, for a caller as the record bears it
abbrev pub may_ask : Sender → Call → Caller → Bool
may_ask sender Stop caller = may_stop sender caller
may_ask sender (Grow volume ranges) caller = may_grow sender caller
may_ask sender call caller = true

-- a caller of this sender
abbrev pub caller_at : Sender → Caller → Caller
caller_at sender caller = standing sender.standing (record caller { peer = sender.number })

-- What a record asks of a sender: its call comes from there. What it may not ask is refused (AUTH_TOOWEAK, RFC 5531 section 9).
abbrev pub asked_from : Sender → Asked → Asked
asked_from sender (Ask call caller) = if may_ask sender call caller then Ask call (caller_at sender caller) else Refused (AuthError 5)
asked_from sender (Refused reply) = Refused reply
asked_from sender Undecoded = Undecoded

-- the record of such a sender
abbrev pub from_peer : Sender → Heard → Heard
from_peer sender h = record { xid = h.xid; asked = asked_from sender h.asked }
