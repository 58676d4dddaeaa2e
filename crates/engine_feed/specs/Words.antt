-- The words in which the clauses speak of what is done to a connection and to the calls on their way.
use Rattle.std.specs.Prelude.{◌≡◌, Bool, false, ℕ, ◌+◌, ◌-◌, ◌<◌, ◌≤◌, List, [], ◌∷◌, ◌++◌, length, Option, Some, None, slice_get}
use Rattle.std.specs.List.{AllByRecursion, remove}
use Rattle.nfs_model.specs.Types as types
use Rattle.nfs_model.specs.Tree.{Layout}
use Rattle.nfs_model.specs.Replay as replays
use Rattle.nfs_model.specs.World.{Setup, World, finish}
use Rattle.nfs_model.specs.Events.Feed.{Feeds, feeding, heard_in}
use Rattle.nfs_model.specs.Events.Refusals.{is_open}
use Rattle.nfs_laws.specs.Walk.{Walks}
use Rattle.nfs_values.specs.declared.call.Call.{Call}
use Rattle.rpc_msg.specs.declared.offer.Offer.{Offer}
use Rattle.scheduler.specs.declared.message.Message.{Message}
use Rattle.scheduler.specs.declared.message.Origin.{Origin}
use Rattle.engine_feed.specs.declared.stop.Stop.{Stop}
use Rattle.engine_feed.specs.declared.state.ConnectionState.{ConnectionState}
use Rattle.engine_feed.specs.declared.state.CallsState.{CallsState}
use Rattle.engine_feed.specs.Numbers.{stop_number}
use Rattle.engine_feed.specs.Codec.{reply_record}
use Rattle.engine_feed.specs.Limit.{reply_limit}
use Rattle.engine_feed.specs.Seen.{connection_of, owed_by, layout_in, messages_of, message_of, finished_of, running_count}
use Rattle.engine_feed.specs.Streams.{scan_stream}
use Rattle.engine_feed.specs.Within.{IsSetup, Shows, IsPartOf, with_calls, with_part}
use Rattle.engine_feed.specs.Sound.{IsSoundConnection, AreSound, IsAdmitted, IsAnswered, TakesIn}
use Rattle.engine_feed.specs.Feeding.{FeedsPart}

-- ---- feeds

-- its stream has no fault so far, whatever is offered
abbrev pub TakesInput : ConnectionState → Type 0
TakesInput c = (offer : Offer) → (scan_stream offer (connection_of c).stream).fault ≡ None

-- what holds with this offer in every world of which these are a part
abbrev pub InWorlds : Offer → CallsState → ℕ → ConnectionState → (Setup → World → Type 0) → Type 0
InWorlds offer calls number c P = (setup : Setup) (w : World) → IsSetup offer setup calls → IsPartOf calls number c w → P setup w

-- this many of the bytes were taken, and this stopped the taking
abbrev pub HasFed : Offer → CallsState → ConnectionState → ℕ → List ℕ → ℕ → Stop → CallsState → ConnectionState → Type 0
HasFed offer calls c number bytes taken stop calls' c' =
    InWorlds offer calls number c (λ setup w. Feeds setup (feeding number bytes taken (stop_number stop)) w (with_part calls' number c' w))

-- the same, byte by byte
abbrev pub FeedsAll : Offer → CallsState → ConnectionState → ℕ → List ℕ → ℕ → Stop → CallsState → ConnectionState → Type 0
FeedsAll offer calls c number bytes taken stop calls' c' =
    InWorlds offer calls number c (λ setup w. Walks setup (feeding number bytes taken (stop_number stop)) w (with_part calls' number c' w))

-- this many of the bytes were taken, and more may be, or taking stopped
abbrev pub FeedsSome : Offer → CallsState → ConnectionState → ℕ → List ℕ → ℕ → Option Stop → CallsState → ConnectionState → Type 0
FeedsSome offer calls c number bytes taken stop calls' c' =
    InWorlds offer calls number c (λ setup w. FeedsPart setup number w bytes taken stop (with_part calls' number c' w))

-- more may be taken of the bytes
abbrev pub MayTakeMore : List ℕ → ℕ → Option Stop → ConnectionState → Type 0
MayTakeMore bytes taken stop c = stop ≡ None → (0 < taken) × TakesIn c (length bytes - taken)

-- a record of the connection is complete, with whether its decoding was starved
abbrev pub HasHeard : Offer → CallsState → ConnectionState → Origin → types.Asked → Bool → CallsState → ConnectionState → Type 0
HasHeard offer calls c origin asked starved calls' c' =
    InWorlds offer calls origin.connection.0 c (λ setup w.
    with_part calls' origin.connection.0 c' w
    ≡ heard_in setup w origin.connection.0 origin.number (record { xid = origin.xid; asked = asked }) starved)

-- ---- room

-- the room that messages keep
abbrev pub rooms : List (Message Call) → ℕ
rooms [] = 0
rooms (m ∷ ms) = m.room + rooms ms

-- a message of a connection, which keeps no more room than the longest reply has
pub record IsOwn (number : ℕ) (m : Message Call) : Type 0 where
  pub connection : m.origin.connection.0 ≡ number
  pub room : m.room ≤ reply_limit

-- Messages of the connection wait after those that did, and it owes just their rooms more. Nothing begins or ends.
pub record Adds (calls : CallsState) (c : ConnectionState) (number : ℕ) (calls' : CallsState) (c' : ConnectionState) : Type 0 where
  pub more : List (Message Call)
  pub waiting : messages_of calls' ≡ messages_of calls ++ more
  pub own : AllByRecursion (IsOwn number) more
  pub owed : owed_by c' ≡ owed_by c + rooms more
  pub running : running_count calls' ≡ running_count calls
  pub layout : layout_in calls' ≡ layout_in calls

-- And both are sound again.
pub record StaysSound (calls : CallsState) (c : ConnectionState) (number : ℕ) (calls' : CallsState) (c' : ConnectionState) : Type 0 where
  pub adds : Adds calls c number calls' c'
  pub is_sound : IsSoundConnection c'
  pub are_sound : AreSound calls'

-- And what was read of the connection stays.
pub record Keeps (calls : CallsState) (c : ConnectionState) (number : ℕ) (calls' : CallsState) (c' : ConnectionState) : Type 0 where
  pub stays : StaysSound calls c number calls' c'
  pub same : IsAnswered c c'

-- a message waits last, and its connection owes its room
pub record Waits (calls : CallsState) (c : ConnectionState) (m : Message Call) (calls' : CallsState) (c' : ConnectionState) : Type 0 where
  pub waits : calls' ≡ record calls { waiting = calls.waiting ++ m ∷ [] }
  pub owes : c' ≡ record c { owed = c.owed + m.room }

-- a call is finished, and its reply written on its connection, as it is told: so it is by each codec that spells so what is said
abbrev pub Finishes : CallsState → ConnectionState → replays.FinishedCall → types.Reply → CallsState → ConnectionState → Type 0
Finishes calls c e told calls' c' =
    (setup : Setup) (w : World) (reply : types.Reply) → setup.codec.reply_record e.xid reply ≡ reply_record e.xid told → Shows calls w
    → slice_get w.connections e.connection ≡ Some (connection_of c)
    → with_part calls' e.connection c' w ≡ finish setup w e reply

-- ---- messages that begin and end

-- the message at a place left the list, and one more runs
pub record HasBegun (calls : CallsState) (place : ℕ) (m : Message Call) (calls' : CallsState) : Type 0 where
  pub there : slice_get (messages_of calls) place ≡ Some m
  pub admitted : IsAdmitted (layout_in calls) m
  pub left : messages_of calls' ≡ remove (messages_of calls) place
  pub running : running_count calls' ≡ running_count calls + 1
  pub finished : finished_of calls' ≡ finished_of calls
  pub layout : layout_in calls' ≡ layout_in calls
  -- in every world of which the calls are a part
  pub begins : (w : World) → Shows calls w
      → (slice_get w.waiting place ≡ Some (message_of m)) × (with_calls calls' w ≡ record w { waiting = remove w.waiting place })

-- a message that ran waits again, after all others
pub record HasPutBack (calls : CallsState) (m : Message Call) (calls' : CallsState) : Type 0 where
  pub back : messages_of calls' ≡ messages_of calls ++ m ∷ []
  pub running : running_count calls ≡ running_count calls' + 1
  pub finished : finished_of calls' ≡ finished_of calls
  pub layout : layout_in calls' ≡ layout_in calls
  pub waits : (w : World) → Shows calls w → with_calls calls' w ≡ record w { waiting = w.waiting ++ message_of m ∷ [] }

-- a message that ran is finished, with this entry: what waits stays
pub record HasLeft (calls : CallsState) (e : replays.FinishedCall) (calls' : CallsState) : Type 0 where
  pub waiting : messages_of calls' ≡ messages_of calls
  pub finished : finished_of calls' ≡ finished_of calls ++ e ∷ []
  pub running : running_count calls ≡ running_count calls' + 1
  pub layout : layout_in calls' ≡ layout_in calls

-- a call is finished whose connection isn't open, so that its reply is written nowhere
abbrev pub FinishesUnseen : CallsState → replays.FinishedCall → CallsState → Type 0
FinishesUnseen calls e calls' =
    (setup : Setup) (w : World) (reply : types.Reply) → Shows calls w
    → is_open (slice_get w.connections e.connection) ≡ false
    → with_calls calls' w ≡ finish setup w e reply

-- ---- the beginning

-- no calls yet
pub record AreNew (given : Layout) (calls : CallsState) : Type 0 where
  pub layout : layout_in calls ≡ given
  pub waiting : messages_of calls ≡ []
  pub running : running_count calls ≡ 0
  pub finished : finished_of calls ≡ []
