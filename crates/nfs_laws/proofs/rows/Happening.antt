-- Events: what they answer, and which refusal comes first (our profile).
use Rattle.std.proofs.Common.{◌≡◌, ◌<◌, ℕ, zero, suc, true, false, List, [], ◌∷◌, replicate, Some, None, Ok, Err, refl, inl, inr, arith}
use Rattle.std.specs.Prelude.{take, ◌^◌}
use Rattle.std.specs.FinSet.{union, from_list, empty}
use Rattle.nfs_model.specs.Types.{Moment, Undecoded}
use Rattle.nfs_model.specs.Tree.{Affinity, Serial, Volume, Logical, Stripe, Range}
use Rattle.nfs_model.specs.Server.{start_of_times}
use Rattle.nfs_model.specs.Parts.{Parts, Hand, Empty, Fresh, Dead}
use Rattle.nfs_model.specs.Work.{Outcome, Starved, Moved}
use Rattle.nfs_model.specs.World.{Setup, World, Connection, Message, Running, Worker, counts_of}
use Rattle.nfs_model.specs.Headline.{opening_world}
use Rattle.nfs_model.specs.Events.Refusals.{Open, Feed, Close, Begin, Work, Finish, Fetch, Cull, PutDown, Survey, Opened, Fed, IsClosed, Granted, HasMove}
use Rattle.nfs_model.specs.Events.Refusals.{IsStarved, Written, IsBack, HasPut, refusal, may_lack_memory}
use Rattle.nfs_model.specs.Events.Step.{Events, Happens, new_connection}
use Rattle.nfs_laws.specs.lemmas.Evaluate.{evaluate}
use Rattle.nfs_laws.proofs.rows.Cases.{layout, verifier, at, holding, with_file, file, no_blocks}
use Rattle.nfs_laws.proofs.rows.Toy.{asked, scan, toy}

-- two workers and 64 connections
abbrev pub setup : Setup
setup = record { codec = toy; layout = layout; verifier = verifier; workers = 2; connections = 64 }

-- ---- worlds

abbrev pub heard : List ℕ → Connection
heard stream = record { stream = stream; closed = None; output = [] }

abbrev pub opened : World
opened = record (opening_world setup) { connections = heard [] ∷ [] }

-- record 0 of connection 0, of a byte, under an affinity
abbrev pub message : ℕ → Affinity → Message
message byte affinity = record { connection = 0; number = 0; xid = byte; asked = asked byte; affinity = affinity }

abbrev pub begun : ℕ → Affinity → Running
begun byte affinity = record { message = message byte affinity; moment = at 1; outcome = None }

abbrev pub came_to : Outcome → Running → Running
came_to outcome r = record r { outcome = Some outcome }

abbrev pub idle : Worker
idle = record { running = None; hand = Empty }

abbrev pub runs : Running → Worker
runs r = record { running = Some r; hand = Empty }

abbrev carries : Hand → Worker
carries hand = record { running = None; hand = hand }

abbrev pub with_workers : Worker → Worker → World
with_workers first second = record opened { workers = first ∷ (second ∷ []) }

abbrev waiting : List Message → World → World
waiting ms w = record w { waiting = ms }

abbrev bad : Moment
bad = record { seconds = 1; nanoseconds = 1000000000 }

-- a world in which 2^62 stamps were made
abbrev worn : World → World
worn w = record w { stamps = 2 ^ 62 }

-- ---- connections

first_connection_is_0 : Events setup (opening_world setup) Open (Ok (Opened 0)) (record (opening_world setup) { connections = new_connection ∷ [] })
first_connection_is_0 = (refl, (refl, refl))

number_of_a_closed_connection_is_not_given_again : Happens setup (record opened { connections = record (heard []) { closed = Some 0 } ∷ [] }) Open (Opened 1)
    (record opened { connections = record (heard []) { closed = Some 0 } ∷ (new_connection ∷ []) })
number_of_a_closed_connection_is_not_given_again = (refl, refl)

sixty_four_connections_are_all : refusal setup (record opened { connections = replicate 64 new_connection }) Open ≡ Some 31
sixty_four_connections_are_all = refl

closed_connections_do_not_count : refusal setup (record opened { connections = record (heard []) { closed = Some 0 } ∷ replicate 63 new_connection }) Open
    ≡ None
closed_connections_do_not_count = refl

-- a connection on which one call was answered
abbrev answered_one : World
answered_one = record opened {
  connections = record (heard (7 ∷ [])) { output = 7 ∷ [] } ∷ [];
  finished = record { connection = 0; number = 0; xid = 7; asked = asked 7; affinity = None; moment = start_of_times; starved = false } ∷ [];
}

close_counts_the_finished_calls : Events setup answered_one (Close 0) (Ok IsClosed) (record answered_one {
  connections = record { stream = 7 ∷ []; closed = Some 1; output = 7 ∷ [] } ∷ [];
})
close_counts_the_finished_calls = (refl, (refl, refl))

close_of_an_unknown_connection : refusal setup opened (Close 1) ≡ Some 36
close_of_an_unknown_connection = refl

close_of_a_closed_connection : refusal setup (record opened { connections = record (heard []) { closed = Some 0 } ∷ [] }) (Close 0) ≡ Some 36
close_of_a_closed_connection = refl

close_of_a_connection_at_a_fault : refusal setup (record opened { connections = heard (255 ∷ []) ∷ [] }) (Close 0) ≡ None
close_of_a_connection_at_a_fault = refl

feed_of_an_unknown_connection : refusal setup opened (Feed 1 []) ≡ Some 36
feed_of_an_unknown_connection = refl

feed_of_a_closed_connection : refusal setup (record opened { connections = record (heard []) { closed = Some 0 } ∷ [] }) (Feed 0 []) ≡ Some 36
feed_of_a_closed_connection = refl

feed_of_a_connection_at_a_fault : refusal setup (record opened { connections = heard (255 ∷ []) ∷ [] }) (Feed 0 []) ≡ Some 36
feed_of_a_connection_at_a_fault = refl

-- ---- feeds

abbrev crowded : World
crowded = waiting (replicate 1024 (message 200 (Logical 0))) opened

none_before : (P : ℕ → Type 0) (n : ℕ) → n < 0 → P n
none_before P n l = absurd (omega (arith, l))

first_alone : (P : ℕ → Type 0) → P 0 → (n : ℕ) → n < 1 → P n
first_alone P p zero l = p
first_alone P p (suc n) l = absurd (omega (arith, l))

null_as_the_1025th_record_waits_for_a_place : Happens setup crowded (Feed 0 (7 ∷ [])) (Fed 0 31) crowded
null_as_the_1025th_record_waits_for_a_place =
    (0, 31, refl, record { within = omega arith; sound = none_before _; heard = []; complete = refl; hears = refl; stops = inr (inl (refl, refl)) })

fault_of_a_record_waits_for_a_place : Happens setup crowded (Feed 0 (255 ∷ [])) (Fed 0 31) crowded
fault_of_a_record_waits_for_a_place =
    (0, 31, refl, record { within = omega arith; sound = none_before _; heard = []; complete = refl; hears = refl; stops = inr (inl (refl, refl)) })

-- a running call takes a place too
running_calls_take_places : Happens setup (waiting (replicate 1023 (message 200 (Logical 0))) (with_workers (runs (begun 200 (Logical 0))) idle))
    (Feed 0 (7 ∷ [])) (Fed 0 31)
    (waiting (replicate 1023 (message 200 (Logical 0))) (with_workers (runs (begun 200 (Logical 0))) idle))
running_calls_take_places =
    (0, 31, refl, record { within = omega arith; sound = none_before _; heard = []; complete = refl; hears = refl; stops = inr (inl (refl, refl)) })

fault_of_a_header_needs_no_place : Happens setup crowded (Feed 0 (250 ∷ (7 ∷ []))) (Fed 1 11) (record crowded { connections = heard (250 ∷ []) ∷ [] })
fault_of_a_header_needs_no_place =
    (1, 11, refl, record { within = omega arith; sound = first_alone _ refl; heard = []; complete = refl; hears = refl; stops = (refl, refl) })

want_of_memory_stops_a_feed : Happens setup opened (Feed 0 (7 ∷ [])) (Fed 0 90) opened
want_of_memory_stops_a_feed = (
  0,
  90,
  refl,
  record {
    within = omega arith;
    sound = none_before _;
    heard = [];
    complete = refl;
    hears = refl;
    stops = inr
        (inr (refl, (λ e. let k : (7 ∷ []) ≡ [] = e in absurd cc), refl));
  },
)

-- a name that there is no memory for: the call is finished at once, and isn't known
starved_decoding_is_finished_at_once : Happens setup opened (Feed 0 (206 ∷ [])) (Fed 1 0) (record opened {
  connections = record (heard (206 ∷ [])) { output = 206 ∷ [] } ∷ [];
  finished = record { connection = 0; number = 0; xid = 206; asked = Undecoded; affinity = None; moment = start_of_times; starved = true } ∷ [];
})
starved_decoding_is_finished_at_once = (
  1,
  0,
  refl,
  record {
    within = omega arith;
    sound = first_alone _ refl;
    heard = record { xid = 206; asked = asked 206 } ∷ [];
    complete = refl;
    hears =
        (refl, (true, refl, refl));
    stops = inl (refl, refl);
  },
)

-- two records of one feed, under numbers that follow one another
records_are_numbered_in_order : Happens setup opened (Feed 0 (7 ∷ (200 ∷ []))) (Fed 2 0) (record opened {
  connections = record (heard (7 ∷ (200 ∷ []))) { output = 7 ∷ [] } ∷ [];
  finished = record { connection = 0; number = 0; xid = 7; asked = asked 7; affinity = None; moment = start_of_times; starved = false } ∷ [];
  waiting = record (message 200 (Logical 0)) { number = 1 } ∷ [];
})
records_are_numbered_in_order = (
  2,
  0,
  refl,
  record {
    within = omega arith;
    sound = two_before (λ n. (scan (take n (7 ∷ (200 ∷ [])))).fault ≡ None) refl refl;
    heard = record { xid = 7; asked = asked 7 } ∷ (record { xid = 200; asked = asked 200 } ∷ []);
    complete = refl;
    hears = (refl, (false, tt, (refl, (false, tt, refl))));
    stops = inl (refl, refl);
  },
)
  where
    two_before : (P : ℕ → Type 0) → P 0 → P 1 → (n : ℕ) → n < 2 → P n
    two_before P p q zero l = p
    two_before P p q (suc zero) l = q
    two_before P p q (suc (suc n)) l = absurd (omega (arith, l))

-- ---- Begin: the refusals in order

abbrev busy : World
busy = waiting (message 202 (Volume 0) ∷ []) (with_workers (runs (begun 201 (Stripe 0 2))) idle)

unknown_worker_comes_before_the_place : refusal setup busy (Begin 2 9 bad) ≡ Some 33
unknown_worker_comes_before_the_place = refl

busy_worker_comes_before_the_place : refusal setup busy (Begin 0 9 bad) ≡ Some 33
busy_worker_comes_before_the_place = refl

place_comes_before_the_moment : refusal setup busy (Begin 1 1 bad) ≡ Some 32
place_comes_before_the_moment = refl

moment_comes_before_what_excludes : refusal setup busy (Begin 1 0 bad) ≡ Some 37
moment_comes_before_what_excludes = refl

largest_nanosecond_is_good : refusal setup (waiting (message 200 (Logical 0) ∷ []) opened) (Begin 0 0 (record { seconds = 1; nanoseconds = 999999999 })) ≡ None
largest_nanosecond_is_good = refl

what_excludes_comes_before_the_stamps : refusal setup (worn busy) (Begin 1 0 (at 1)) ≡ Some 21
what_excludes_comes_before_the_stamps = refl

no_stamp_is_left : refusal setup (worn (waiting (message 200 (Logical 0) ∷ []) opened)) (Begin 0 0 (at 1)) ≡ Some 22
no_stamp_is_left = refl

one_stamp_is_left : refusal setup (record (waiting (message 200 (Logical 0) ∷ []) opened) { stamps = 4611686018427387903 }) (Begin 0 0 (at 1)) ≡ None
one_stamp_is_left = refl

worker_with_a_hand_may_begin : refusal setup (waiting (message 200 (Logical 0) ∷ []) (with_workers (carries (Fresh 0 (3 ∷ []))) idle)) (Begin 0 0 (at 1)) ≡ None
worker_with_a_hand_may_begin = refl

-- ---- READ of file 2 runs in its stripe; FSSTAT of volume 0, GETATTR of volume 1 and CENSUS wait

abbrev read_runs : World
read_runs = waiting (message 202 (Volume 0) ∷ (message 203 (Logical 1) ∷ (message 204 Serial ∷ []))) (with_workers (runs (begun 201 (Stripe 0 2))) idle)

fsstat_of_its_volume_is_excluded : refusal setup read_runs (Begin 1 0 (at 1)) ≡ Some 21
fsstat_of_its_volume_is_excluded = refl

census_is_excluded : refusal setup read_runs (Begin 1 2 (at 1)) ≡ Some 21
census_is_excluded = refl

getattr_of_the_other_volume_begins : Events setup read_runs (Begin 1 1 (at 2)) (Ok (Granted (Logical 1)))
    (waiting (message 202 (Volume 0) ∷ (message 204 Serial ∷ []))
    (with_workers (runs (begun 201 (Stripe 0 2))) (runs (record (begun 203 (Logical 1)) { moment = at 2 }))))
getattr_of_the_other_volume_begins = (refl, (message 203 (Logical 1), refl, refl, refl))

two_stripes_of_a_volume_run_at_one_time : refusal setup (waiting (message 205 (Stripe 0 3) ∷ []) (with_workers (runs (begun 201 (Stripe 0 2))) idle))
    (Begin 1 0 (at 1)) ≡ None
two_stripes_of_a_volume_run_at_one_time = refl

-- ---- Work and Finish

work_of_an_unknown_worker : refusal setup busy (Work 2) ≡ Some 34
work_of_an_unknown_worker = refl

work_of_an_idle_worker : refusal setup busy (Work 1) ≡ Some 34
work_of_an_idle_worker = refl

work_of_a_worked_call : refusal setup (with_workers (runs (came_to Starved (begun 207 (Logical 0)))) idle) (Work 0) ≡ Some 34
work_of_a_worked_call = refl

finish_of_an_idle_worker : refusal setup busy (Finish 1) ≡ Some 34
finish_of_an_idle_worker = refl

finish_before_work : refusal setup busy (Finish 0) ≡ Some 35
finish_before_work = refl

-- a WRITE that fills a block leaves its stripe, and nothing changes
abbrev empty_file : World → World
empty_file w = record w { server = with_file (file [] no_blocks) }

write_in_its_stripe_moves : Happens setup (empty_file (with_workers (runs (begun 205 (Stripe 0 2))) idle)) (Work 0) (HasMove (Logical 0))
    (empty_file (with_workers (runs (came_to (Moved (Logical 0)) (begun 205 (Stripe 0 2)))) idle))
write_in_its_stripe_moves = (_, begun 205 (Stripe 0 2), Moved (Logical 0), _, refl, refl, (simp evaluate refl, refl), refl, refl)

-- it waits again, behind the others, and is neither finished nor stamped
moved_call_waits_again : Events setup (waiting (message 200 (Logical 0) ∷ [])
    (with_workers (runs (came_to (Moved (Logical 0)) (begun 205 (Stripe 0 2)))) idle)) (Finish 0) (Ok IsBack)
    (waiting (message 200 (Logical 0) ∷ (message 205 (Logical 0) ∷ [])) (with_workers idle idle))
moved_call_waits_again = (refl, (_, _, _, refl, refl, refl, refl, refl))

-- READDIR may lack memory: nothing changes
starved_work_changes_nothing : Happens setup (with_workers (runs (begun 207 (Logical 0))) idle) (Work 0) IsStarved
    (with_workers (runs (came_to Starved (begun 207 (Logical 0)))) idle)
starved_work_changes_nothing = (_, begun 207 (Logical 0), Starved, _, refl, refl, (refl, simp evaluate refl, refl), refl, refl)

starved_call_is_finished : Events setup (with_workers (runs (came_to Starved (begun 207 (Logical 0)))) idle) (Finish 0) (Ok (Written 0 1))
    (record (with_workers idle idle) {
      connections = record (heard []) { output = 207 ∷ [] } ∷ [];
      finished = record { connection = 0; number = 0; xid = 207; asked = asked 207; affinity = Some (Logical 0); moment = at 1; starved = true } ∷ [];
      stamps = 1;
    })
starved_call_is_finished = (refl, (_, _, _, refl, refl, refl, refl, refl))

-- Close, then Finish: finished and stamped, and nothing is written
finish_after_close_writes_nothing : Events setup
    (record (with_workers (runs (came_to Starved (begun 207 (Logical 0)))) idle) { connections = record (heard []) { closed = Some 0 } ∷ [] }) (Finish 0)
    (Ok (Written 0 0)) (record (with_workers idle idle) {
      connections = record (heard []) { closed = Some 0 } ∷ [];
      finished = record { connection = 0; number = 0; xid = 207; asked = asked 207; affinity = Some (Logical 0); moment = at 1; starved = true } ∷ [];
      stamps = 1;
    })
finish_after_close_writes_nothing = (refl, (_, _, _, refl, refl, refl, refl, refl))

-- ---- Fetch, Cull, PutDown and Survey: the refusals in order

abbrev full_hand : World
full_hand = with_workers (carries (Fresh 0 (3 ∷ []))) idle

fetch_by_an_unknown_worker : refusal setup full_hand (Fetch 2 9 16) ≡ Some 33
fetch_by_an_unknown_worker = refl

fetch_by_a_full_hand : refusal setup full_hand (Fetch 0 9 16) ≡ Some 33
fetch_by_a_full_hand = refl

fetch_by_a_busy_worker : refusal setup busy (Fetch 0 9 16) ≡ Some 33
fetch_by_a_busy_worker = refl

abbrev volume_runs : World
volume_runs = with_workers (runs (begun 202 (Volume 0))) idle

fetch_of_no_volume : refusal setup volume_runs (Fetch 1 2 0) ≡ Some 41
fetch_of_no_volume = refl

fetch_of_no_range : refusal setup volume_runs (Fetch 1 0 16) ≡ Some 41
fetch_of_no_range = refl

fetch_of_an_excluded_range : refusal setup (worn volume_runs) (Fetch 1 0 15) ≡ Some 21
fetch_of_an_excluded_range = refl

fetch_without_a_stamp_left : refusal setup (worn opened) (Fetch 1 0 15) ≡ Some 22
fetch_without_a_stamp_left = refl

fetch_of_a_range_that_is_not_in_use : refusal setup opened (Fetch 1 0 1) ≡ Some 41
fetch_of_a_range_that_is_not_in_use = refl

fetch_beside_logical : refusal setup (with_workers (runs (begun 200 (Logical 0))) idle) (Fetch 1 0 0) ≡ None
fetch_beside_logical = refl

cull_by_a_full_hand : refusal setup full_hand (Cull 0 9) ≡ Some 33
cull_by_a_full_hand = refl

cull_of_no_volume : refusal setup volume_runs (Cull 1 2) ≡ Some 41
cull_of_no_volume = refl

cull_beside_a_stripe : refusal setup (worn busy) (Cull 1 0) ≡ Some 21
cull_beside_a_stripe = refl

cull_without_a_stamp_left : refusal setup (worn opened) (Cull 1 0) ≡ Some 22
cull_without_a_stamp_left = refl

put_down_by_an_unknown_worker : refusal setup full_hand (PutDown 2) ≡ Some 33
put_down_by_an_unknown_worker = refl

put_down_by_a_busy_worker : refusal setup (with_workers (record (runs (begun 200 (Logical 1))) { hand = Fresh 0 (3 ∷ []) }) idle) (PutDown 0) ≡ Some 33
put_down_by_a_busy_worker = refl

put_down_of_nothing : refusal setup (worn busy) (PutDown 1) ≡ Some 34
put_down_of_nothing = refl

fresh_batch_is_put_under_logical : refusal setup (worn (with_workers (runs (begun 201 (Stripe 0 2))) (carries (Fresh 0 (3 ∷ []))))) (PutDown 1) ≡ Some 21
fresh_batch_is_put_under_logical = refl

dead_batch_is_put_beside_logical : refusal setup (with_workers (runs (begun 200 (Logical 0))) (carries (Dead 0 (3 ∷ [])))) (PutDown 1) ≡ None
dead_batch_is_put_beside_logical = refl

dead_batch_is_put_under_its_range : refusal setup (with_workers (runs (begun 200 (Range 0 1))) (carries (Dead 0 (1024 ∷ [])))) (PutDown 1) ≡ Some 21
dead_batch_is_put_under_its_range = refl

put_down_without_a_stamp_left : refusal setup (worn full_hand) (PutDown 0) ≡ Some 22
put_down_without_a_stamp_left = refl

survey_by_a_full_hand : refusal setup full_hand (Survey 0 9) ≡ Some 33
survey_by_a_full_hand = refl

survey_of_no_volume : refusal setup volume_runs (Survey 1 2) ≡ Some 41
survey_of_no_volume = refl

survey_of_an_excluded_volume : refusal setup (worn volume_runs) (Survey 1 0) ≡ Some 21
survey_of_an_excluded_volume = refl

survey_beside_logical : refusal setup (with_workers (runs (begun 200 (Logical 0))) idle) (Survey 1 0) ≡ None
survey_beside_logical = refl

survey_without_a_stamp_left : refusal setup (worn opened) (Survey 1 0) ≡ Some 22
survey_without_a_stamp_left = refl

-- ---- what workers carry

abbrev parts : Parts → World → World
parts p w = record w { parts = p ∷ [] }

-- a batch put down leaves the hand, and is stamped
batch_is_put_down : Happens setup (parts (record { files = empty; stock = empty; dead = empty; free = empty }) full_hand) (PutDown 0) (HasPut 1)
    (record (parts (record { files = empty; stock = union empty (from_list (3 ∷ [])); dead = empty; free = empty }) (with_workers idle idle)) { stamps = 1 })
batch_is_put_down = (
  record { parts = record { files = empty; stock = empty; dead = empty; free = empty }; hand = Fresh 0 (3 ∷ []) },
  _,
  1,
  (_, refl, refl, refl),
  (refl, refl),
  refl,
  refl,
)

hands_are_counted : counts_of (record (parts (record { files = empty; stock = empty; dead = empty; free = empty }) full_hand) { server = holding 2 [] }) 0
    ≡ Some (record { files = 0; stock = 0; dead = 0; free = 0; hands = 1; total = 1024 })
hands_are_counted = simp evaluate refl

-- ---- want of memory

open_may_lack_memory : may_lack_memory opened Open ≡ true
open_may_lack_memory = refl

close_may_not : may_lack_memory opened (Close 0) ≡ false
close_may_not = refl

begin_may_not : may_lack_memory opened (Begin 0 0 (at 1)) ≡ false
begin_may_not = refl

finish_may_not : may_lack_memory opened (Finish 0) ≡ false
finish_may_not = refl

fetch_may_not : may_lack_memory opened (Fetch 0 0 0) ≡ false
fetch_may_not = refl

cull_may_not : may_lack_memory opened (Cull 0 0) ≡ false
cull_may_not = refl

fresh_batch_may_lack_room_in_the_stock : may_lack_memory full_hand (PutDown 0) ≡ true
fresh_batch_may_lack_room_in_the_stock = refl

dead_batch_has_its_marks : may_lack_memory (with_workers (carries (Dead 0 (3 ∷ []))) idle) (PutDown 0) ≡ false
dead_batch_has_its_marks = refl

survey_may_lack_memory : may_lack_memory opened (Survey 0 0) ≡ true
survey_may_lack_memory = refl

refused_for_want_of_memory : Events setup opened Open (Err 90) opened
refused_for_want_of_memory = (inr (refl, refl, refl), refl)
