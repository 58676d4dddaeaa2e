-- A call from its bytes to its reply: fed, begun, worked, finished (our profile).
use Rattle.std.proofs.Common.{◌≡◌, ℕ, zero, suc, ◌<◌, take, arith, false, [], ◌∷◌, replicate, Some, None, Ok, refl, inl, inr}
use Rattle.nfs_model.specs.Types.{Moment, Shown, DirectoryKind, GetattrDone, Null, Success, Ask}
use Rattle.nfs_model.specs.Tree.{Layout, Logical, Volume}
use Rattle.nfs_model.specs.Server.{opening, opening_volume, start_of_times, root_of_root}
use Rattle.nfs_model.specs.Moves.{Stored}
use Rattle.nfs_model.specs.Work.{Replied}
use Rattle.nfs_model.specs.Replay.{FinishedCall}
use Rattle.nfs_model.specs.World.{Setup, World, Message, Worker}
use Rattle.nfs_model.specs.Parts.{Empty}
use Rattle.nfs_model.specs.Events.Refusals.{Open, Feed, Begin, Work, Finish, Opened, Fed, Granted, HasReply, Written, refusal}
use Rattle.nfs_model.specs.Events.Step.{Events, new_connection}
use Rattle.nfs_model.specs.Headline.{opening_world, opening_parts}
use Rattle.nfs_laws.specs.lemmas.Evaluate.{evaluate}
use Rattle.nfs_laws.proofs.rows.Toy.{asked, scan, toy}
use Rattle.nfs_laws.proofs.rows.Cases.{nobody}

abbrev layout : Layout
layout = record { spare = 1 ∷ []; volumes = record { aggregate = 0; ranges = 1; stripes = 8; mebibytes = 16; range_blocks = 1024; inodes = 65536; most_steps = 4; begun = start_of_times; root = root_of_root; remembered = 0 } ∷ [] }

abbrev setup : Setup
setup = record { codec = toy; layout = layout; verifier = replicate 8 1; workers = 2; connections = 64 }

abbrev at : ℕ → Moment
at seconds = record { seconds = seconds; nanoseconds = 0 }

abbrev opened : World
opened = record (opening_world setup) { connections = new_connection ∷ [] }

open_gives_a_number : Events setup (opening_world setup) Open (Ok (Opened 0)) opened
open_gives_a_number = (refl, (refl, refl))

abbrev null_entry : FinishedCall
null_entry = record { connection = 0; number = 0; xid = 7; asked = Ask Null nobody; affinity = None; moment = start_of_times; starved = false }

only_zero : (P : ℕ → Type 0) → P 0 → (n : ℕ) → n < 1 → P n
only_zero P p zero l = p
only_zero P p (suc n) l = absurd (omega (arith, l))

-- NULL is answered in its feed
null_is_answered_in_its_feed : Events setup opened (Feed 0 (7 ∷ [])) (Ok (Fed 1 0))
    (record opened { connections = record { stream = 7 ∷ []; closed = None; output = 7 ∷ [] } ∷ []; finished = null_entry ∷ [] })
null_is_answered_in_its_feed = (
  refl,
  (
    1,
    0,
    refl,
    record {
      within = omega arith;
      sound = only_zero (λ n. (scan (take n (7 ∷ []))).fault ≡ None) refl;
      heard = record { xid = 7; asked = asked 7 } ∷ [];
      complete = refl;
      hears = (refl, (false, tt, refl));
      stops = inl (refl, refl);
    },
  ),
)

-- the fault's byte is taken, and none after it
byte_of_a_fault_is_taken : Events setup opened (Feed 0 (255 ∷ (9 ∷ []))) (Ok (Fed 1 12))
    (record opened { connections = record { stream = 255 ∷ []; closed = None; output = [] } ∷ [] })
byte_of_a_fault_is_taken = (
  refl,
  (
    1,
    12,
    refl,
    record {
      within = omega arith;
      sound = only_zero (λ n. (scan (take n (255 ∷ (9 ∷ [])))).fault ≡ None) refl;
      heard = [];
      complete = refl;
      hears = refl;
      stops = (refl, refl);
    },
  ),
)

-- a faulted connection takes no more
faulted_connection_takes_no_more : refusal setup (record opened { connections = record { stream = 255 ∷ []; closed = None; output = [] } ∷ [] }) (Feed 0 [])
    ≡ Some 36
faulted_connection_takes_no_more = refl

abbrev getattr_message : Message
getattr_message = record { connection = 0; number = 0; xid = 200; asked = asked 200; affinity = Logical 0 }

abbrev waits : World
waits = record opened { connections = record { stream = 200 ∷ []; closed = None; output = [] } ∷ []; waiting = getattr_message ∷ [] }

getattr_waits : Events setup opened (Feed 0 (200 ∷ [])) (Ok (Fed 1 0)) waits
getattr_waits = (
  refl,
  (
    1,
    0,
    refl,
    record {
      within = omega arith;
      sound = only_zero (λ n. (scan (take n (200 ∷ []))).fault ≡ None) refl;
      heard = record { xid = 200; asked = asked 200 } ∷ [];
      complete = refl;
      hears = (refl, (false, tt, refl));
      stops = inl (refl, refl);
    },
  ),
)

abbrev idle : Worker
idle = record { running = None; hand = Empty }

abbrev begun : World
begun = record opened {
  connections = record { stream = 200 ∷ []; closed = None; output = [] } ∷ [];
  workers = record { running = Some (record { message = getattr_message; moment = at 1; outcome = None }); hand = Empty } ∷ (idle ∷ []);
}

getattr_begins : Events setup waits (Begin 0 0 (at 1)) (Ok (Granted (Logical 0))) begun
getattr_begins = (refl, (getattr_message, refl, refl, refl))

-- what runs in Logical excludes the volume, and not another stripe's sibling
volume_is_busy_under_logical : refusal setup (record begun { waiting = record getattr_message { affinity = Volume 0 } ∷ [] }) (Begin 1 0 (at 1)) ≡ Some 21
volume_is_busy_under_logical = refl

other_volume_is_not_excluded : refusal setup (record begun { waiting = record getattr_message { affinity = Logical 1 } ∷ [] }) (Begin 1 0 (at 1)) ≡ None
other_volume_is_not_excluded = refl

-- 1,024 wait: the byte that would complete a record isn't taken
abbrev crowded : World
crowded = record opened { waiting = replicate 1024 getattr_message }

crowded_engine_takes_no_last_byte : Events setup crowded (Feed 0 (200 ∷ [])) (Ok (Fed 0 31)) crowded
crowded_engine_takes_no_last_byte = (
  refl,
  (
    0,
    31,
    refl,
    record {
      within = omega arith;
      sound = λ n l. absurd (omega (arith, l));
      heard = [];
      complete = refl;
      hears = refl;
      stops = inr (inl (refl, refl));
    },
  ),
)

abbrev root_shown : Shown
root_shown =
    record {
      kind = DirectoryKind;
      mode = 493;
      links = 2;
      uid = 0;
      gid = 0;
      size = 4096;
      used = 0;
      fsid = 0;
      fileid = 1;
      atime = at 0;
      mtime = at 0;
      ctime = at 0;
    }

abbrev worked : World
worked =
    record begun {
      workers = record {
        running = Some
            (record { message = getattr_message; moment = at 1; outcome = Some (Replied (Success (GetattrDone root_shown))) });
        hand = Empty;
      } ∷ (idle ∷ []);
    }

abbrev opened_volume : Stored
opened_volume = record {
  volume = opening_volume (replicate 8 1) 0 (record { aggregate = 0; ranges = 1; stripes = 8; mebibytes = 16; range_blocks = 1024; inodes = 65536; most_steps = 4; begun = start_of_times; root = root_of_root; remembered = 0 });
  parts = opening_parts (record { aggregate = 0; ranges = 1; stripes = 8; mebibytes = 16; range_blocks = 1024; inodes = 65536; most_steps = 4; begun = start_of_times; root = root_of_root; remembered = 0 });
}

getattr_is_worked : Events setup begun (Work 0) (Ok HasReply) worked
getattr_is_worked = (
  refl,
  (
    record { running = Some (record { message = getattr_message; moment = at 1; outcome = None }); hand = Empty },
    record { message = getattr_message; moment = at 1; outcome = None },
    Replied (Success (GetattrDone root_shown)),
    record {
      server = opening layout (replicate 8 1);
      parts = opening_parts (record { aggregate = 0; ranges = 1; stripes = 8; mebibytes = 16; range_blocks = 1024; inodes = 65536; most_steps = 4; begun = start_of_times; root = root_of_root; remembered = 0 }) ∷ [];
    },
    refl,
    refl,
    (
      refl,
      simp evaluate refl,
      simp evaluate refl,
      record { before = opened_volume; after = opened_volume; volume_before = refl; volume_after = refl; parts_before = refl; change = refl; parts = refl },
    ),
    refl,
    refl,
  ),
)

getattr_is_finished : Events setup worked (Finish 0) (Ok (Written 0 1)) (record opened {
  connections = record { stream = 200 ∷ []; closed = None; output = 200 ∷ [] } ∷ [];
  finished = record { connection = 0; number = 0; xid = 200; asked = asked 200; affinity = Some (Logical 0); moment = at 1; starved = false } ∷ [];
  stamps = 1;
})
getattr_is_finished = (refl, (_, _, _, refl, refl, refl, refl, refl))

-- its connection was closed before: it is finished, and nothing is written
abbrev closed_worked : World
closed_worked = record worked { connections = record { stream = 200 ∷ []; closed = Some 0; output = [] } ∷ [] }

finish_after_close_writes_nothing : Events setup closed_worked (Finish 0) (Ok (Written 0 0)) (record opened {
  connections = record { stream = 200 ∷ []; closed = Some 0; output = [] } ∷ [];
  finished = record { connection = 0; number = 0; xid = 200; asked = asked 200; affinity = Some (Logical 0); moment = at 1; starved = false } ∷ [];
  stamps = 1;
})
finish_after_close_writes_nothing = (refl, (_, _, _, refl, refl, refl, refl, refl))
