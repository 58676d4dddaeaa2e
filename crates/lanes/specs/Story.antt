-- The whole life of a lane: what came, what ended, and what is known of each connection that it ever had.
use Rattle.std.specs.Prelude.{◌≡◌, ◌≢◌, ◌==◌, ℕ, ◌<◌, ◌≤◌, ◌+◌, ◌*◌, List, [], ◌∷◌, ◌++◌, length, map, slice_get, Option, Some, None, if◌then◌else◌}
use Rattle.std.specs.FinMap.{get}
use Rattle.depot_rule.specs.Sums.{total}
use Rattle.nfs_model.specs.Tree.{Layout}
use Rattle.nfs_model.specs.World.{Heard}
use Rattle.rpc_msg.specs.declared.offer.Offer.{Offer}
use Rattle.rpc_msg.specs.Offer.{form_of}
use Rattle.granted_calls.specs.Telling.{message_told}
use Rattle.outboxes.specs.Boxes.{Addressed, addressed, Boxes}
use Rattle.outboxes.specs.Messages.{ReplyMessage, message}
use Rattle.filer_state.specs.state.Jobs as jobs
use Rattle.service.specs.declared.job.Job.{Job}
use Rattle.service.specs.declared.job.Job.TheVariants.{Serve, Inner}
use Rattle.turns.specs.Jobs.{job_reply_of}
use Rattle.granted_calls.specs.Balance.{FilerEntry, Weight, by_entry, by_key}
use Rattle.granted_calls.specs.Messages as workers
use Rattle.engine_feed.specs.Seen.{message_of}
use Rattle.tcp_front.specs.Admitted.{calls_of}
use Rattle.tcp_front.specs.Arrivals.{Arrival, Waits, Answered, arrivals}
use Rattle.connections.specs.Incoming.{Incoming}
use Rattle.connections.specs.declared.connection.Connection.{Connection}
use Rattle.connections.specs.Connections.{sender_at, number_of}
use Rattle.lanes.specs.Intakes.{answered_of}
use Rattle.connections.specs.Reading.{Reads}
use Rattle.connections.specs.Writing.{Writes}

-- ---- what came of one connection

abbrev pub comes_of : Arrival → ℕ
comes_of (Waits message) = message.connection
comes_of (Answered reply) = reply.connection

-- these of a connection, in order
abbrev pub of_connection : ℕ → List Arrival → List Arrival
of_connection number [] = []
of_connection number (x ∷ xs) = if comes_of x == number then x ∷ of_connection number xs else of_connection number xs

-- ---- what ended

-- a call that the lane's worker finished, by its entry in the history; or a reply at once
pub data Ending : Type 0 where
  Served : (entry : FilerEntry) → Ending
  AtOnce : (reply : Addressed) → Ending

-- The reply of an entry, under the xid of its call and to its connection. An inner call has none.
abbrev pub answer_to : Job → jobs.JobReply → Option Addressed
answer_to (Serve call) (jobs.Replied reply) = Some (addressed call.connection.0 (message call.xid reply))
answer_to job reply = None

abbrev pub said_by : Ending → Option Addressed
said_by (Served e) = answer_to e.call (job_reply_of e.reply)
said_by (AtOnce reply) = Some reply

abbrev pub with_reply : ℕ → Option Addressed → List ReplyMessage → List ReplyMessage
with_reply number None ms = ms
with_reply number (Some a) ms = if a.connection == number then a.message ∷ ms else ms

-- the replies to a connection among what ended, in order
abbrev pub replies_to : ℕ → List Ending → List ReplyMessage
replies_to number [] = []
replies_to number (x ∷ xs) = with_reply number (said_by x) (replies_to number xs)

-- these, as what is offered tells them
abbrev pub told_to : Offer → ℕ → List Ending → List ReplyMessage
told_to offer number xs = map (message_told (form_of offer)) (replies_to number xs)

-- the entries of what ended, and the replies at once
abbrev pub served_of : List Ending → List FilerEntry
served_of [] = []
served_of (Served e ∷ xs) = e ∷ served_of xs
served_of (AtOnce reply ∷ xs) = served_of xs

abbrev pub at_once_of : List Ending → List Addressed
at_once_of [] = []
at_once_of (Served e ∷ xs) = at_once_of xs
at_once_of (AtOnce reply ∷ xs) = reply ∷ at_once_of xs

-- the entries that answer calls
abbrev pub with_served : FilerEntry → Job → List FilerEntry → List FilerEntry
with_served e (Serve call) es = e ∷ es
with_served e (Inner call) es = es

abbrev pub served_in : List FilerEntry → List FilerEntry
served_in [] = []
served_in (e ∷ es) = with_served e e.call (served_in es)

-- ---- connections

-- A connection, as it is or as it was when it was closed: the records of the bytes that were read of it, from its opening on, are
-- by what is offered and by whether its peer may stop the server just what came of it, all in all; and the bytes that were given to its device are a beginning of the records of all replies to it
-- among what had ended, as what is offered tells them, in that order. The others waited.
pub record IsServed {D : Type 0} (unread : D → Incoming) (written : D → Option (List ℕ)) (layout : Layout) (offer : Offer) (came : List Arrival)
    (ended : List Ending) (waiting : List ReplyMessage) (c : Connection D) : Type 0 where
  pub heard : List Heard
  pub arrived : of_connection (number_of c) came ≡ arrivals layout (number_of c) (sender_at c) 0 heard
  pub reads : Reads offer unread c.opened.value c heard
  pub writes : Writes written c.opened.value c waiting (told_to offer (number_of c) ended)

-- What became of a connection: it is open under a key; or it is among those that were closed, at this place, and when it was closed,
-- this waited for it, and this had ended.
pub data Life : Type 0 where
  Open : (key : ℕ) → Life
  Closed : (at : ℕ) → (waiting : List ReplyMessage) → (ended : List Ending) → Life

-- The connection of a number is served by what came and what ended, those that had ended when it was closed.
abbrev pub HasLived : {D : Type 0} → (D → Incoming) → (D → Option (List ℕ)) → Layout → Offer → List Arrival → List Ending → Boxes
    → (ℕ → Option (Connection D)) → List (Connection D) → ℕ → Life → Type 0
HasLived {D} unread written layout offer came endings boxes slots closed number (Open key) =
    (c : Connection D) × (waiting : List ReplyMessage) × (slots key ≡ Some c) × (number_of c ≡ number)
    × (get boxes.waiting number ≡ Some waiting) × IsServed unread written layout offer came endings waiting c
HasLived {D} unread written layout offer came endings boxes slots closed number (Closed at waiting ended) =
    (last : Connection D) × (later : List Ending) × (slice_get closed at ≡ Some last) × (number_of last ≡ number)
    × (endings ≡ ended ++ later) × IsServed unread written layout offer came ended waiting last

-- it is the closed one at this place
abbrev pub IsClosedAt : ℕ → Life → Type 0
IsClosedAt at (Open key) = ⊥
IsClosedAt at (Closed place waiting ended) = place ≡ at

-- those that were closed, and then this one, if it is one
abbrev pub with_closed : {D : Type 0} → Option (Connection D) → List (Connection D) → List (Connection D)
with_closed None closed = closed
with_closed (Some c) closed = closed ++ c ∷ []

-- the number of a lane's connection, of which there were this many before: the lane's own at first, and each larger by the count of lanes
abbrev pub number_at : ℕ → ℕ → ℕ → ℕ
number_at lane lanes before = lane + before * lanes

-- ---- the lane

-- What came to one of this many lanes, of all its connections in one order, and what ended, in one order: the calls that came were
-- admitted, in order and each once; the lane's entries are just those that ended, and so are the replies at once that came; no call
-- was finished more often than it was admitted, each by its connection, its number there, its xid, and what it asks. This many
-- connections were opened, each under a number of its own, and it is known what became of each; those that are open are among
-- them, and so are those that were closed, each as it was then; and nothing came under another number.
pub record Story {D : Type 0} (unread : D → Incoming) (written : D → Option (List ℕ)) (layout : Layout) (offer : Offer) (lane lanes : ℕ) (entries : List FilerEntry)
    (put : List workers.Message) (boxes : Boxes) (slots : ℕ → Option (Connection D)) (closed : List (Connection D)) : Type 0 where
  pub came : List Arrival
  pub endings : List Ending
  pub admitted : map message_of put ≡ calls_of came
  pub finished : served_of endings ≡ served_in entries
  pub at_once : at_once_of endings ≡ answered_of came
  pub once : (weight : Weight) → total (by_entry weight) entries ≤ total (by_key weight) put
  pub opened : ℕ
  pub lives : ℕ → Life
  pub within : lane < lanes
  pub step : boxes.step ≡ lanes
  pub next : boxes.next ≡ number_at lane lanes opened
  pub each : (k : ℕ) → k < opened → HasLived unread written layout offer came endings boxes slots closed (number_at lane lanes k) (lives k)
  pub known : (key : ℕ) (c : Connection D) → slots key ≡ Some c → (k : ℕ) × (k < opened) × (lives k ≡ Open key)
  pub gone : (at : ℕ) → at < length closed → (k : ℕ) × (k < opened) × IsClosedAt at (lives k)
  pub only : (number : ℕ) → ((k : ℕ) → k < opened → number ≢ number_at lane lanes k) → of_connection number came ≡ []
