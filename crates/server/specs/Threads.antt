-- The threads of a filer's lanes.
use Rattle.std.specs.Prelude.{◌≡◌, ℕ, List, length, All}
use Rattle.std.specs.declared.thread.PromisedHandle.{PromisedHandle}
use Rattle.depot_rule.specs.Sums.{total}
use Rattle.connections.specs.declared.device.Device as devices
use Rattle.lanes.specs.declared.lane.Lane.{Lane}
use Rattle.server.specs.declared.socket.Socket.{Socket}
use Rattle.server.specs.declared.task.Serves.{Serves}
use Rattle.server.specs.declared.task.LaneStart.{LaneStart}
use Rattle.granted_calls.specs.declared.shared.Filer.{Filer}
use Rattle.rpc_msg.specs.declared.offer.Offer.{Offer}
use Rattle.lanes.specs.Words.{filer_in, Identity}
use Rattle.filer_lanes.specs.Lanes.{by_identity, places, seats_of}

-- the thread of a lane
abbrev pub Thread : (R : Type 0) → devices.Ghosts Socket → Type 0
Thread R G = PromisedHandle (Lane Socket R G) (Serves (Lane Socket R G))

module _ {R : Type 0} {G : devices.Ghosts Socket} where
  -- the lane that the thread was started with
  abbrev pub started_with : Thread R G → Lane Socket R G
  started_with thread = thread.promise.lane.value

  -- the thread runs a lane of this filer
  abbrev pub ServesFor : Filer → Thread R G → Type 0
  ServesFor filer thread = filer_in (started_with thread) ≡ filer

  -- the seats of that lane
  abbrev pub seats_with : Thread R G → ℕ
  seats_with thread = seats_of (started_with thread)

  -- which lane that is, weighed
  abbrev pub identity_with : (Identity → ℕ) → Thread R G → ℕ
  identity_with weigh thread = by_identity weigh (started_with thread)

  -- the threads run all lanes of a filer
  pub record AreThreadsOf (filer : Filer) (threads : List (Thread R G)) : Type 0 where
    pub of : All (ServesFor filer) threads
    pub seats : total seats_with threads ≡ 64
    pub each : (weigh : ℕ × ℕ → ℕ) → total (identity_with (λ i. weigh i.0)) threads ≡ total weigh (places (length threads))

  -- each was started with a lane that offers just this
  abbrev pub AllServe : Offer → List (Thread R G) → Type 0
  AllServe offer threads = (weigh : Offer → ℕ) → total (identity_with (λ i. weigh i.1)) threads ≡ total (λ _. weigh offer) threads

  -- These lanes are those that the threads were started with, gone on: of each its place among as many, what it offers, and its queue with all that
  -- was ever put into it, as often.
  abbrev pub AreOfThreads : List (Thread R G) → List (Lane Socket R G) → Type 0
  AreOfThreads threads lanes = (weigh : Identity → ℕ) → total (by_identity weigh) lanes ≡ total (identity_with weigh) threads

-- ---- lanes whose threads aren't started yet

module _ {R : Type 0} where
  abbrev pub IsTaskFor : Filer → LaneStart R → Type 0
  IsTaskFor filer task = filer_in task.lane ≡ filer

  abbrev pub seats_for : LaneStart R → ℕ
  seats_for task = seats_of task.lane

  abbrev pub identity_for : (Identity → ℕ) → LaneStart R → ℕ
  identity_for weigh task = by_identity weigh task.lane
