-- The events, what they answer, and the number of a refusal: the first that applies (our profile).
use Rattle.std.specs.Prelude.{ℕ, ◌+◌, ◌/◌, ◌^◌, Bool, true, false, not, ◌&&◌, ◌||◌, nat_lt, nat_le, List}
use Rattle.std.specs.Prelude.{[], ◌∷◌, Option, Some, None, is_some, is_none, slice_get, if◌then◌else◌}
use Rattle.std.specs.List.{list_any}
use Rattle.nfs_model.specs.Types.{Moment, nanoseconds_of_a_second}
use Rattle.nfs_model.specs.Tree.{Affinity, Logical, Vbn, Range, excludes, range_blocks_of}
use Rattle.nfs_model.specs.Server.{VolumeState}
use Rattle.nfs_model.specs.Parts.{Hand, Empty, Fresh, Dead, most_ranges, range_of}
use Rattle.nfs_model.specs.World.{Setup, World, Connection, Message, Running, Worker, all_running, affinities}

-- what may happen to an engine
pub data Event : Type 0 where
  Open : Event
  Feed : (connection : ℕ) (bytes : List ℕ) → Event
  Close : (connection : ℕ) → Event
  Begin : (worker place : ℕ) (moment : Moment) → Event
  Work : (worker : ℕ) → Event
  Finish : (worker : ℕ) → Event
  Fetch : (worker volume range : ℕ) → Event
  Cull : (worker volume : ℕ) → Event
  PutDown : (worker : ℕ) → Event
  Survey : (worker volume : ℕ) → Event

-- what an event answers that wasn't refused
pub data Done : Type 0 where
  Opened : (connection : ℕ) → Done
  Fed : (taken stop : ℕ) → Done
  IsClosed : Done
  Granted : (affinity : Affinity) → Done
  HasReply : Done
  HasMove : (affinity : Affinity) → Done
  IsStarved : Done
  Written : (connection count : ℕ) → Done  -- this many bytes, none where the connection is closed
  IsBack : Done
  HandHas : (count : ℕ) → Done
  HasPut : (count : ℕ) → Done
  Surveyed : (counts : List ℕ) → Done

-- ---- tests

-- a connection that there is and that isn't closed
abbrev pub is_open : Option Connection → Bool
is_open None = false
is_open (Some x) = is_none x.closed

-- how many connections are open
abbrev pub open_count : List Connection → ℕ
open_count [] = 0
open_count (x ∷ xs) = (if is_none x.closed then 1 else 0) + open_count xs

-- open, and its stream has no fault
abbrev pub takes_input : Setup → Option Connection → Bool
takes_input setup None = false
takes_input setup (Some x) = is_none x.closed && is_none (setup.codec.scan x.stream).fault

-- a worker that there is and that runs nothing
abbrev pub is_idle : Option Worker → Bool
is_idle None = false
is_idle (Some k) = is_none k.running

-- a hand without a batch
abbrev pub is_empty_hand : Hand → Bool
is_empty_hand Empty = true
is_empty_hand (Fresh volume blocks) = false
is_empty_hand (Dead volume blocks) = false

-- a worker that there is and that carries nothing
abbrev pub has_empty_hand : Option Worker → Bool
has_empty_hand None = false
has_empty_hand (Some k) = is_empty_hand k.hand

-- a running affinity excludes this one
abbrev pub is_busy : Setup → World → Affinity → Bool
is_busy setup w affinity = list_any (excludes setup.layout affinity) (affinities (all_running w.workers))

-- this many stamps were made that no more can be
abbrev pub is_worn : World → Bool
is_worn w = nat_le (2 ^ 62) w.stamps

-- a moment has fewer than 1,000,000,000 nanoseconds
abbrev pub is_bad_moment : Moment → Bool
is_bad_moment moment = nat_le nanoseconds_of_a_second moment.nanoseconds

-- ---- refusals

-- 21 for busy, then 22 for worn
abbrev pub excluded : Setup → World → Affinity → Option ℕ
excluded setup w affinity = if is_busy setup w affinity then Some 21 else if is_worn w then Some 22 else None

-- 32 for a place where no message waits, then 37 for a bad moment
abbrev pub begin_refusal : Setup → World → Moment → Option Message → Option ℕ
begin_refusal setup w moment None = Some 32
begin_refusal setup w moment (Some m) = if is_bad_moment moment then Some 37 else excluded setup w m.affinity

-- 34 where nothing was begun, or it was worked already
abbrev pub work_refusal : Option Running → Option ℕ
work_refusal None = Some 34
work_refusal (Some r) = if is_some r.outcome then Some 34 else None

-- 34 where nothing was begun, 35 where it wasn't worked
abbrev pub finish_refusal : Option Running → Option ℕ
finish_refusal None = Some 34
finish_refusal (Some r) = if is_some r.outcome then None else Some 35

-- what a worker runs
abbrev pub running_of : Option Worker → Option Running
running_of None = None
running_of (Some k) = k.running

-- a range of a volume that is in use
abbrev pub is_range_in_use : Option VolumeState → ℕ → Bool
is_range_in_use None range = false
is_range_in_use (Some v) range = nat_lt range (v.total / v.range_blocks)

-- 41 for a range that isn't in use, after what excludes
abbrev pub or_not_in_use : Option ℕ → Bool → Option ℕ
or_not_in_use (Some n) used = Some n
or_not_in_use None used = if used then None else Some 41

-- 41 for a volume or range that there isn't, before what excludes
abbrev pub fetch_refusal : Setup → World → ℕ → ℕ → Option VolumeState → Option ℕ
fetch_refusal setup w volume range there =
    if not (is_some there) || nat_le most_ranges range then Some 41
    else or_not_in_use (excluded setup w (Range volume range)) (is_range_in_use there range)

-- 34 for an empty hand; a fresh batch goes to Logical, a dead one to its range
abbrev pub put_refusal : Setup → World → Hand → Option ℕ
put_refusal setup w Empty = Some 34
put_refusal setup w (Fresh volume blocks) = excluded setup w (Logical volume)
put_refusal setup w (Dead volume blocks) =
    excluded setup w (Range volume (range_of (range_blocks_of setup.layout volume) blocks))

-- what a worker carries
abbrev pub hand_of : Option Worker → Hand
hand_of None = Empty
hand_of (Some k) = k.hand

-- The number of a refusal, want of memory aside: 31 at the most connections, 36 for a connection
-- that takes no more, 33 for a worker that isn't there or isn't idle, or whose hand has to be empty and isn't.
abbrev pub refusal : Setup → World → Event → Option ℕ
refusal setup w Open = if nat_le setup.connections (open_count w.connections) then Some 31 else None
refusal setup w (Feed connection bytes) =
    if takes_input setup (slice_get w.connections connection) then None else Some 36
refusal setup w (Close connection) = if is_open (slice_get w.connections connection) then None else Some 36
refusal setup w (Begin worker place moment) =
    if is_idle (slice_get w.workers worker)
    then begin_refusal setup w moment (slice_get w.waiting place) else Some 33
refusal setup w (Work worker) = work_refusal (running_of (slice_get w.workers worker))
refusal setup w (Finish worker) = finish_refusal (running_of (slice_get w.workers worker))
refusal setup w (Fetch worker volume range) =
    if is_idle (slice_get w.workers worker) && has_empty_hand (slice_get w.workers worker)
    then fetch_refusal setup w volume range (slice_get w.server.volumes volume) else Some 33
refusal setup w (Cull worker volume) =
    if is_idle (slice_get w.workers worker) && has_empty_hand (slice_get w.workers worker)
    then (if is_some (slice_get w.server.volumes volume) then excluded setup w (Logical volume) else Some 41)
    else Some 33
refusal setup w (PutDown worker) =
    if is_idle (slice_get w.workers worker)
    then put_refusal setup w (hand_of (slice_get w.workers worker)) else Some 33
refusal setup w (Survey worker volume) =
    if is_idle (slice_get w.workers worker) && has_empty_hand (slice_get w.workers worker)
    then (if is_some (slice_get w.server.volumes volume) then excluded setup w (Vbn volume) else Some 41)
    else Some 33

-- a batch for the stock
abbrev pub is_fresh : Hand → Bool
is_fresh Empty = false
is_fresh (Fresh volume blocks) = true
is_fresh (Dead volume blocks) = false

-- The events that may lack memory; a Feed tells it by its stop. The stock grows, and the marks of
-- the bitmaps are there from the start.
abbrev pub may_lack_memory : World → Event → Bool
may_lack_memory w Open = true
may_lack_memory w (PutDown worker) = is_fresh (hand_of (slice_get w.workers worker))
may_lack_memory w (Survey worker volume) = true
may_lack_memory w event = false
