-- What came to a lane's queue and outboxes.
use Rattle.std.specs.Prelude.{◌≡◌, ◌≤◌, ℕ, ◌/◌, Bool, ◌&&◌, nat_lt, List, [], ◌∷◌, ◌++◌, map}
use Rattle.affinity.specs.declared.layout.Layout.{Layout}
use Rattle.rpc_msg.specs.declared.handle_form.HandleForm.{HandleForm}
use Rattle.outboxes.specs.Boxes.{Addressed, Boxes, most_bytes, put}
use Rattle.granted_calls.specs.Telling.{answer_told}
use Rattle.engine_feed.specs.Seen.{message_of}
use Rattle.tcp_front.specs.Admitted.{calls_of}
use Rattle.tcp_front.specs.Arrivals.{Arrival, Waits, Answered}
use Rattle.granted_calls.specs.Messages.{Message}
use Rattle.granted_calls.specs.declared.shared.Filer.{Filer}
use Rattle.granted_calls.specs.declared.shared_waiting.pass.Pass.{Pass}
use Rattle.granted_calls.specs.declared.shared_waiting.pass.SharedWaiting.{SharedWaiting}
use Rattle.granted_calls.specs.shared_waiting.Passes.{known}
use Rattle.turns.specs.declared.worker.Worker.{Worker}
use Rattle.granted_calls.specs.Served.{HasShareOf}
use Rattle.turns.specs.Words.{IsSameWorker}
use Rattle.connections.specs.declared.due.Due.{Due}
use Rattle.connections.specs.Connections.{with_reply}
use Rattle.lanes.specs.declared.intake.Intake.{Intake}

-- the replies among what came
abbrev pub answered_of : List Arrival → List Addressed
answered_of [] = []
answered_of (Waits message ∷ xs) = answered_of xs
answered_of (Answered reply ∷ xs) = reply ∷ answered_of xs

-- replies put into the outboxes, one after another
abbrev pub all_put : List Addressed → Boxes → Boxes
all_put [] b = b
all_put (a ∷ xs) b = all_put xs (put a b)

-- what came is owed: a reply of each, and for that of a call its room, at most that of the largest record
abbrev pub Adds : List Arrival → Due → Due → Type 0
Adds [] due due' = due' ≡ due
Adds (Waits message ∷ xs) due due' = (room : ℕ) × (room ≤ most_bytes) × Adds xs (with_reply room due) due'
Adds (Answered reply ∷ xs) due due' = Adds xs (with_reply 0 due) due'

-- The calls among these were put into the queue, in order and each once, and the replies into the outboxes, in order and with
-- their handles told in this form; nothing else was. Just their replies are owed besides; and as many may wait as before.
pub record Takes (form : HandleForm) (filer : Filer) (queue : SharedWaiting Message Layout) (pass : Pass Message Layout) (worker : Worker)
    (boxes : Boxes) (owed : Due) (most : ℕ) (came : List Arrival) (filer' : Filer) (queue' : SharedWaiting Message Layout)
    (pass' : Pass Message Layout) (worker' : Worker) (boxes' : Boxes) (owed' : Due) (most' : ℕ) (form' : HandleForm) : Type 0 where
  pub form_is : form' ≡ form
  pub filer_is : filer' ≡ filer
  pub queue_is : queue' ≡ queue
  pub put : map message_of (known pass').put ≡ map message_of (known pass).put ++ calls_of came
  pub picked : (known pass').picked ≡ (known pass).picked
  pub share : HasShareOf (known pass) (known pass')
  pub same : IsSameWorker worker worker'
  pub boxes_are : boxes' ≡ all_put (map (answer_told form) (answered_of came)) boxes
  pub adds : Adds came owed owed'
  pub most_is : most' ≡ most

abbrev pub HasTakenIn : {R : Type 0} → Intake R → List Arrival → Intake R → Type 0
HasTakenIn s came t =
    Takes s.handles s.filer.value s.queue s.pass s.worker s.outboxes s.owed s.most came t.filer.value t.queue t.pass t.worker t.outboxes t.owed
    t.most t.handles

-- the share of one of this many lanes: how many messages it may have
abbrev pub share_of : ℕ → ℕ
share_of lanes = 1024 / lanes

-- the most room of the replies that are owed to one connection while it is read
abbrev pub most_owed : ℕ
most_owed = 1048576

-- a message more may wait, of those that a lane may have, and the connection may be owed more
abbrev pub has_room_in : {R : Type 0} → Intake R → Bool
has_room_in s = nat_lt s.waiting s.most && nat_lt s.owed.room most_owed
