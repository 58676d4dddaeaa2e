-- Records of replies at once are short, and what is given on is what the record comes to.
use Rattle.std.proofs.Common.{◌≡◌, ◌≤◌, ℕ, Bool, true, if◌then◌else◌, List, [], ◌∷◌, Option, Some, None, length, sym, ap, ◌∙◌, arith}
use Rattle.nfs_model.specs.Types as types
use Rattle.nfs_model.specs.Tree.{Affinity, Layout}
use Rattle.nfs_model.specs.Home.{home_of_asked}
use Rattle.scheduler.specs.declared.message.Origin.{Origin}
use Rattle.engine_feed.specs.Admission.{reply_at_once}
use Rattle.engine_feed.specs.Codec.{reply_record}
use Rattle.engine_feed.specs.Limit.{reply_limit}
use Rattle.engine_feed.specs.lemmas.Codec.{reply_record_is}
use Rattle.outboxes.specs.Boxes.{addressed, most_bytes}
use Rattle.outboxes.specs.Messages.{message, record_of}
use Rattle.outboxes.specs.lemmas.Messages.{record_is}
use Rattle.tcp_front.specs.declared.peer.Peer.{Peer}
use Rattle.tcp_front.specs.Arrivals.{Arrival, Waits, Answered, placed}
use Rattle.tcp_front.specs.Peers.{Sender, asked_from, caller_at, may_ask, sender_of}
use Rattle.tcp_front.specs.Steps.{given_of}

pub at-once-fits : (xid : ℕ) (reply : types.Reply) → length (reply_record xid reply) ≤ reply_limit → length (record_of (message xid reply)) ≤ most_bytes
at-once-fits xid reply fits =
    let same = ap (λ (l : List ℕ). length l) (record_is xid reply ∙ sym (reply_record_is xid reply)) in
    omega (arith, same, fits)

-- what a call of a sender asks, where it may ask it
asked-may : (sender : Sender) (call : types.Call) (caller : types.Caller) → may_ask sender call caller ≡ true
    → asked_from sender (types.Ask call caller) ≡ types.Ask call (caller_at sender caller)
asked-may sender call caller may =
    ap (λ (b : Bool). if b then types.Ask call (caller_at sender caller) else types.Refused (types.AuthError 5)) may

-- a call of a sender who may ask it, by who makes it
pub asked-by : (sender : Sender) (call : types.Call) (caller by : types.Caller) → may_ask sender call caller ≡ true
    → by ≡ caller_at sender caller → types.Ask call by ≡ asked_from sender (types.Ask call caller)
asked-by sender call caller by may is =
    ap (λ (k : types.Caller). types.Ask call k) is ∙ sym (asked-may sender call caller may)

module _ (layout : Layout) (peer : Peer) (origin : Origin) (asked from : types.Asked) where
  abbrev given_as : types.Asked → Option Affinity → List Arrival
  given_as a home = placed layout origin.connection.0 origin.number (record { xid = origin.xid; asked = a }) home ∷ []

  given-is : from ≡ asked_from (sender_of peer) asked → (home : Option Affinity) → home_of_asked layout from ≡ home
      → given_as from home ≡ given_of layout peer origin asked
  given-is is home at = ap (given_as from) (sym at) ∙ ap (λ (a : types.Asked). given_as a (home_of_asked layout a)) is

  pub waits-is : from ≡ asked_from (sender_of peer) asked → (affinity : Affinity) → home_of_asked layout from ≡ Some affinity
      → Waits (record { connection = origin.connection.0; number = origin.number; xid = origin.xid; asked = from; affinity = affinity }) ∷ []
      ≡ given_of layout peer origin asked
  waits-is is affinity at = given-is is (Some affinity) at

  pub answered-is : from ≡ asked_from (sender_of peer) asked → home_of_asked layout from ≡ None
      → Answered (addressed origin.connection.0 (message origin.xid (reply_at_once layout from))) ∷ [] ≡ given_of layout peer origin asked
  answered-is is at = given-is is None at
