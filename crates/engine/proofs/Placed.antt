-- Where messages are placed, and the room that they keep on connections.
use Rattle.std.proofs.Common.{◌≡◌, ◌≢◌, ◌≤◌, ℕ, ◌+◌, List, [], ◌∷◌, refl, arith}
use Rattle.std.proofs.lemmas.Bool.Decides.{nat_tests}
use Rattle.std.specs.List.{AllByRecursion}
use Rattle.nfs_model.specs.Tree.{Layout}
use Rattle.nfs_values.specs.declared.call.Call.{Call}
use Rattle.scheduler.specs.declared.message.Message.{Message}
use Rattle.depot_rule.specs.Sums.{total}
use Rattle.engine.specs.laws.lemmas.Feeding.{all-append}
use Rattle.engine.specs.declared.worker.Worker.{Worker}
use Rattle.engine.specs.declared.worker.WorkerRun.{WorkerRun}
use Rattle.engine.specs.declared.worker.WorkerRun.TheVariants.{Idle, Begun, Worked}
use Rattle.engine.specs.Sound.{IsPlaced, IsRunReady, IsReady, messages_in, running_messages, room_on}

-- ---- where more connections were opened

pub placed-later : (layout : Layout) (n k : ℕ) → n ≤ k → (m : Message Call) → IsPlaced layout n m → IsPlaced layout k m
placed-later layout n k h m p = record { admitted = p.admitted; known = let q = p.known in omega (arith, h, q); run = p.run }

run-later : (layout : Layout) (n k : ℕ) → n ≤ k → (run : WorkerRun) → IsRunReady layout n run → IsRunReady layout k run
run-later layout n k h Idle p = tt
run-later layout n k h (Begun r) p = placed-later layout n k h r.message p
run-later layout n k h (Worked r outcome) p = (placed-later layout n k h r.message p.0, p.1)

pub ready-later : (layout : Layout) (n k : ℕ) → n ≤ k → (w : Worker) → IsReady layout n w → IsReady layout k w
ready-later layout n k h w p = (run-later layout n k h w.run p.0, p.1)

-- what workers run is placed
ready-placed : (layout : Layout) (n : ℕ) (run : WorkerRun) → IsRunReady layout n run → AllByRecursion (IsPlaced layout n) (messages_in run)
ready-placed layout n Idle p = tt
ready-placed layout n (Begun r) p = (p, tt)
ready-placed layout n (Worked r outcome) p = (p.0, tt)

all-ready-placed : (layout : Layout) (n : ℕ) (ws : List Worker) → AllByRecursion (IsReady layout n) ws
    → AllByRecursion (IsPlaced layout n) (running_messages ws)
all-ready-placed layout n [] p = tt
all-ready-placed layout n (w ∷ ws) p =
    all-append (IsPlaced layout n) (messages_in w.run) (running_messages ws) (ready-placed layout n w.run p.0.0) (all-ready-placed layout n ws p.1)

-- ---- rooms

-- the room that messages which wait, and those that workers run, keep on a connection
abbrev pub kept_on : ℕ → List (Message Call) → List Worker → ℕ
kept_on c ms ws = total (room_on c) ms + total (room_on c) (running_messages ws)

pub room-own : (c : ℕ) (m : Message Call) → m.origin.connection.0 ≡ c → room_on c m ≡ m.room
room-own c m e = grind (arith, nat_tests, e)

pub room-other : (c : ℕ) (m : Message Call) → m.origin.connection.0 ≢ c → room_on c m ≡ 0
room-other c m e = grind (arith, nat_tests, e)

-- a connection that isn't opened yet is owed nothing
nothing-kept : (layout : Layout) (n : ℕ) (ms : List (Message Call)) → AllByRecursion (IsPlaced layout n) ms → total (room_on n) ms ≡ 0
nothing-kept layout n [] all = refl
nothing-kept layout n (m ∷ ms) all =
    let this = room-other n m (λ e. let k = all.0.known in omega (arith, e, k)) in
    let rest = nothing-kept layout n ms all.1 in
    omega (arith, this, rest)

pub nothing-owed : (layout : Layout) (n : ℕ) (ms : List (Message Call)) (ws : List Worker) → AllByRecursion (IsPlaced layout n) ms
    → AllByRecursion (IsReady layout n) ws → kept_on n ms ws ≡ 0
nothing-owed layout n ms ws waiting workers =
    let a = nothing-kept layout n ms waiting in
    let b = nothing-kept layout n (running_messages ws) (all-ready-placed layout n ws workers) in
    omega (arith, a, b)
