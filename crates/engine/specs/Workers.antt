-- A worker of the list, which runs or carries another thing from now on.
use Rattle.std.specs.Prelude.{◌≡◌, ℕ, Some}
use Rattle.std.specs.Global.{Vec}
use Rattle.std.specs.List.{slice_get}
use Rattle.std.specs.Vec.{with_item}
use Rattle.nfs_model.specs.Parts.{Hand, Empty}
use Rattle.engine.specs.declared.worker.Worker.{Worker}
use Rattle.engine.specs.declared.worker.WorkerRun.{WorkerRun}
use Rattle.engine.specs.declared.worker.WorkerRun.TheVariants.{Idle}

-- a worker that runs and carries this
abbrev pub worker_with : WorkerRun → Hand → Worker
worker_with run hand = record { run = run; hand = hand }

-- a worker that runs and carries nothing
abbrev pub idle_worker : Worker
idle_worker = worker_with Idle Empty

-- a worker runs this, and carries what it did
abbrev pub RunSet : Vec Worker → ℕ → WorkerRun → Vec Worker → Type 0
RunSet old i run new =
    (was : WorkerRun) × (hand : Hand) × (slice_get old.items i ≡ Some (worker_with was hand)) × (new ≡ with_item old i (worker_with run hand))

-- a worker ran this, and runs nothing
abbrev pub RunTaken : Vec Worker → ℕ → WorkerRun → Vec Worker → Type 0
RunTaken old i run new = (hand : Hand) × (slice_get old.items i ≡ Some (worker_with run hand)) × (new ≡ with_item old i (worker_with Idle hand))

-- a worker carries this, and runs what it did
abbrev pub HandSet : Vec Worker → ℕ → Hand → Vec Worker → Type 0
HandSet old i hand new =
    (run : WorkerRun) × (was : Hand) × (slice_get old.items i ≡ Some (worker_with run was)) × (new ≡ with_item old i (worker_with run hand))

-- a worker carried this, and carries nothing
abbrev pub HandTaken : Vec Worker → ℕ → Hand → Vec Worker → Type 0
HandTaken old i hand new = (run : WorkerRun) × (slice_get old.items i ≡ Some (worker_with run hand)) × (new ≡ with_item old i (worker_with run Empty))
