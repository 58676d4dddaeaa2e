-- Two workers that overwrite bytes in two stripes of a volume at one time, and finish in either order (our profile).
use Rattle.std.proofs.Common.{ℕ, List, false, [], ◌∷◌, Some, Ok, refl}
use Rattle.nfs_model.specs.Types.{Success, WriteDone}
use Rattle.nfs_model.specs.Tree.{Affinity, Stripe}
use Rattle.std.specs.FinMap.{insert}
use Rattle.std.specs.FinSet as sets
use Rattle.nfs_model.specs.Server.{Node, VolumeState, Server, opening_volume}
use Rattle.nfs_model.specs.Work.{Replied}
use Rattle.nfs_model.specs.Replay.{FinishedCall}
use Rattle.nfs_model.specs.World.{World, Running, Worker}
use Rattle.nfs_model.specs.Headline.{opening_parts}
use Rattle.nfs_model.specs.Events.Refusals.{Work, Finish, HasReply, Written}
use Rattle.nfs_model.specs.Events.Step.{Events}
use Rattle.nfs_laws.specs.lemmas.Evaluate.{evaluate}
use Rattle.nfs_laws.proofs.rows.Cases.{one_range, verifier, at, a, b, entry, block_0, file, touched_file, root_with, holding, volume_with}
use Rattle.nfs_laws.proofs.rows.Toy.{asked}
use Rattle.nfs_laws.proofs.rows.Happening.{setup, heard, begun, came_to, idle, runs, with_workers}

-- the volume has the files `a` and `b`, of one byte each, whose first spans lie in stripes 2 and 3
abbrev nodes : List (ℕ × Node)
nodes = (1, root_with 5 (entry 3 a 2 ∷ (entry 4 b 3 ∷ []))) ∷ ((2, file (1 ∷ []) block_0) ∷ ((3, file (2 ∷ []) block_0) ∷ []))

abbrev unwritten : Server
unwritten = holding 4 nodes

-- the volume with another node; its block is filled as before
abbrev with_a : VolumeState → VolumeState
with_a v = record v { nodes = insert v.nodes 2 (touched_file 1 (7 ∷ []) (sets.insert block_0 0)) }

abbrev with_b : VolumeState → VolumeState
with_b v = record v { nodes = insert v.nodes 3 (touched_file 1 (8 ∷ []) (sets.insert block_0 0)) }

-- the first is written, and then the second
abbrev volume : VolumeState
volume = volume_with 1024 16777216 4 nodes

abbrev holding_volume : VolumeState → Server
holding_volume v = record unwritten { volumes = v ∷ (opening_volume verifier 1 one_range ∷ []) }

abbrev one_written : Server
one_written = holding_volume (with_a volume)

abbrev both_written : Server
both_written = holding_volume (with_b (with_a volume))

abbrev first : Running
first = begun 205 (Stripe 0 2)

abbrev second : Running
second = begun 208 (Stripe 0 3)

abbrev answered : Running → Running
answered r = came_to (Replied (Success (WriteDone 1 verifier))) r

-- two workers, and the server as it is
abbrev running : Worker → Worker → Server → World
running one other server = record (with_workers one other) { server = server }

first_is_worked_beside_the_second : Events setup (running (runs first) (runs second) unwritten) (Work 0) (Ok HasReply)
    (running (runs (answered first)) (runs second) one_written)
first_is_worked_beside_the_second = (
  refl,
  (
    runs first,
    first,
    Replied (Success (WriteDone 1 verifier)),
    record { server = one_written; parts = opening_parts one_range ∷ (opening_parts one_range ∷ []) },
    refl,
    refl,
    (
      simp evaluate refl,
      simp evaluate refl,
      simp evaluate refl,
      record {
        before = record { volume = volume; parts = opening_parts one_range };
        after = record { volume = with_a volume; parts = opening_parts one_range };
        volume_before = refl;
        volume_after = refl;
        parts_before = refl;
        change = (simp evaluate refl, refl);
        parts = refl;
      },
    ),
    refl,
    refl,
  ),
)

second_is_worked_beside_the_first : Events setup (running (runs (answered first)) (runs second) one_written) (Work 1) (Ok HasReply)
    (running (runs (answered first)) (runs (answered second)) both_written)
second_is_worked_beside_the_first = (
  refl,
  (
    runs second,
    second,
    Replied (Success (WriteDone 1 verifier)),
    record { server = both_written; parts = opening_parts one_range ∷ (opening_parts one_range ∷ []) },
    refl,
    refl,
    (
      simp evaluate refl,
      simp evaluate refl,
      simp evaluate refl,
      record {
        before = record { volume = with_a volume; parts = opening_parts one_range };
        after = record { volume = with_b (with_a volume); parts = opening_parts one_range };
        volume_before = refl;
        volume_after = refl;
        parts_before = refl;
        change = (simp evaluate refl, refl);
        parts = refl;
      },
    ),
    refl,
    refl,
  ),
)

-- a finished overwrite
abbrev entry_of : ℕ → Affinity → FinishedCall
entry_of byte affinity =
    record { connection = 0; number = 0; xid = byte; asked = asked byte; affinity = Some affinity; moment = at 1; starved = false }

-- both files are written, whichever call is finished first
first_is_finished_first : Events setup (running (runs (answered first)) (runs (answered second)) both_written) (Finish 0) (Ok (Written 0 1))
    (record (running idle (runs (answered second)) both_written) {
      connections = record (heard []) { output = 205 ∷ [] } ∷ [];
      finished = entry_of 205 (Stripe 0 2) ∷ [];
      stamps = 1;
    })
first_is_finished_first = (refl, (_, _, _, refl, refl, refl, refl, refl))

second_is_finished_first : Events setup (running (runs (answered first)) (runs (answered second)) both_written) (Finish 1) (Ok (Written 0 1))
    (record (running (runs (answered first)) idle both_written) {
      connections = record (heard []) { output = 208 ∷ [] } ∷ [];
      finished = entry_of 208 (Stripe 0 3) ∷ [];
      stamps = 1;
    })
second_is_finished_first = (refl, (_, _, _, refl, refl, refl, refl, refl))

second_is_finished_last : Events setup
    (record (running idle (runs (answered second)) both_written) {
      connections = record (heard []) { output = 205 ∷ [] } ∷ [];
      finished = entry_of 205 (Stripe 0 2) ∷ [];
      stamps = 1;
    }) (Finish 1) (Ok (Written 0 1))
    (record (running idle idle both_written) {
      connections = record (heard []) { output = 205 ∷ (208 ∷ []) } ∷ [];
      finished = entry_of 205 (Stripe 0 2) ∷ (entry_of 208 (Stripe 0 3) ∷ []);
      stamps = 2;
    })
second_is_finished_last = (refl, (_, _, _, refl, refl, refl, refl, refl))

first_is_finished_last : Events setup
    (record (running (runs (answered first)) idle both_written) {
      connections = record (heard []) { output = 208 ∷ [] } ∷ [];
      finished = entry_of 208 (Stripe 0 3) ∷ [];
      stamps = 1;
    }) (Finish 0) (Ok (Written 0 1))
    (record (running idle idle both_written) {
      connections = record (heard []) { output = 208 ∷ (205 ∷ []) } ∷ [];
      finished = entry_of 208 (Stripe 0 3) ∷ (entry_of 205 (Stripe 0 2) ∷ []);
      stamps = 2;
    })
first_is_finished_last = (refl, (_, _, _, refl, refl, refl, refl, refl))
