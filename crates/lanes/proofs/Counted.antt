-- How many messages wait in a queue of which both passes are known.
use Rattle.std.proofs.Common.{◌≡◌, ◌<◌, ◌≤◌, ℕ, ◌+◌, List, [], ◌∷◌, length, refl, ap, arith}
use Rattle.std.specs.Prelude.{Option, Some, None}
use Rattle.crossbeam_queue.specs.Fifo.{Held}
use Rattle.affinity.specs.declared.layout.Layout as layouts
use Rattle.depot_rule.specs.Sums.{total}
use Rattle.depot_rule.specs.lemmas.Sums.{total-append}
use Rattle.granted_calls.specs.Balance.{Passed, Weight, by_key, by_entry, by_kept, FilerEntry, IsEven}
use Rattle.granted_calls.specs.Served.{Standing}
use Rattle.turns.specs.Turns.{standing_of}
use Rattle.turns.specs.Tends.{kept_in}
use Rattle.turns.specs.Words.{entries_in, passed}
use Rattle.granted_calls.specs.Messages.{Message}
use Rattle.granted_calls.specs.declared.shared_waiting.pass.Pass.{Pass}
use Rattle.turns.specs.declared.worker.Worker.{Worker}
use Rattle.granted_calls.specs.shared_waiting.Balance.{IsWhole, Leaves, both}
use Rattle.granted_calls.specs.shared_waiting.Passes.{known}
use Rattle.lanes.specs.Queues.{HasBoth, IsCounted, count_kept}
use Rattle.lanes.proofs.Idle.{turned-round}

ones : (xs : List Message) → total (λ (m : Message). 1) xs ≡ length xs
ones [] = refl
ones (x ∷ xs) = let e = ones xs in omega (arith, e)

-- this many are there, where two passes are all that there are
held-count : (v w : Passed) (n : ℕ) → IsWhole (both v w) → Held n (Leaves (both v w))
    → length v.put + length w.put ≡ (length v.picked + length w.picked) + n
held-count v w n whole (items, count, leaves) =
    let e = leaves whole (λ (m : Message). 1) in
    let a = total-append (λ (m : Message). 1) v.put w.put in
    let b = total-append (λ (m : Message). 1) v.picked w.picked in
    let p = ones v.put in
    let q = ones w.put in
    let r = ones v.picked in
    let s = ones w.picked in
    let i = ones items in omega (arith, a, b, e, p, q, r, s, i, count)

-- fewer than 1,024 that wait don't fill the queue
pub not-full : (pass : Pass Message layouts.Layout) (worker : Worker) (waiting most : ℕ) → HasBoth pass worker
    → IsCounted pass worker waiting → waiting < most → most ≤ 1024
    → Held 1024 (Leaves (both (known pass) (passed worker))) → ⊥
not-full pass worker waiting most h counted less few held =
    let e = held-count (known pass) (passed worker) 1024 h.0 held in omega (arith, e, counted, less, few)

-- as many, by other passes that know the same
pub counted-same : (pass pass' : Pass Message layouts.Layout) (worker worker' : Worker) (waiting : ℕ) → known pass' ≡ known pass
    → passed worker' ≡ passed worker → kept_in worker' ≡ kept_in worker → IsCounted pass worker waiting → IsCounted pass' worker' waiting
counted-same pass pass' worker worker' waiting p w kept counted =
    let a : length (known pass').put ≡ length (known pass).put = ap (λ (v : Passed). length v.put) p in
    let b : length (known pass').picked ≡ length (known pass).picked = ap (λ (v : Passed). length v.picked) p in
    let c : length (passed worker').put ≡ length (passed worker).put = ap (λ (v : Passed). length v.put) w in
    let d : length (passed worker').picked ≡ length (passed worker).picked = ap (λ (v : Passed). length v.picked) w in
    let k : count_kept (kept_in worker') ≡ count_kept (kept_in worker) = ap count_kept kept in
    omega (arith, a, b, c, d, k, counted)

-- what was counted by both passes, and what the worker keeps
pub counted-anew : (pass pass' : Pass Message layouts.Layout) (worker worker' : Worker) (queued kept : ℕ) → HasBoth pass worker
    → Held queued (Leaves (both (passed worker) (known pass))) → known pass' ≡ known pass
    → standing_of worker' ≡ standing_of worker → kept ≡ count_kept (kept_in worker') → IsCounted pass' worker' (queued + kept)
counted-anew pass pass' worker worker' queued kept h held p stands is =
    let v = known pass in
    let w = passed worker in
    let e = held-count w v queued (turned-round _ _ v.halvings w.halvings h.0) held in
    let a : length (known pass').put ≡ length (known pass).put = ap (λ (x : Passed). length x.put) p in
    let b : length (known pass').picked ≡ length (known pass).picked = ap (λ (x : Passed). length x.picked) p in
    let c : length (passed worker').put ≡ length (passed worker).put = ap (λ (x : Standing). length x.pass.put) stands in
    let d : length (passed worker').picked ≡ length (passed worker).picked = ap (λ (x : Standing). length x.pass.picked) stands in
    omega (arith, a, b, c, d, e, is)

one-each : (o : Option Message) → by_kept (λ a b c d. 1) o ≡ count_kept o
one-each None = refl
one-each (Some m) = refl

ones-by-key : (xs : List Message) → total (by_key (λ a b c d. 1)) xs ≡ length xs
ones-by-key [] = refl
ones-by-key (x ∷ xs) = let e = ones-by-key xs in omega (arith, e)

-- none at the start, when nothing was put and nothing was finished
pub counted-none : (pass : Pass Message layouts.Layout) (worker : Worker) → (known pass).put ≡ [] → (known pass).picked ≡ []
    → entries_in worker ≡ [] → IsEven (passed worker) (entries_in worker) worker.kept → IsCounted pass worker 0
counted-none pass worker put picked none even =
    let w = passed worker in
    let a : length (known pass).put ≡ 0 = ap (λ (l : List Message). length l) put in
    let b : length (known pass).picked ≡ 0 = ap (λ (l : List Message). length l) picked in
    let weight : Weight = λ a b c d. 1 in
    let e = even weight in
    let z : total (by_entry weight) (entries_in worker) ≡ 0 = ap (λ (l : List FilerEntry). total (by_entry weight) l) none in
    let p = ones-by-key w.put in
    let q = ones-by-key w.picked in
    let k = one-each worker.kept in omega (arith, a, b, e, z, p, q, k)
