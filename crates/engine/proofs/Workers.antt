-- What workers run, where one of them runs another thing.
use Rattle.std.proofs.Common.{◌≡◌, ℕ, zero, suc, ◌+◌, ◌<◌, Bool, List, [], ◌∷◌, ◌++◌, map, length, Option, Some, None, true, refl, sym, ap, ◌∙◌, arith}
use Rattle.std.specs.Prelude.{is_none, slice_get, slice_set, slice_index_or, option_map, vec_len}
use Rattle.std.proofs.lemmas.List.{length-append}
use Rattle.std.specs.Global.{Vec}
use Rattle.std.specs.Vec.{with_item}
use Rattle.std.proofs.lemmas.Option.{slice_get-map, slice_get_read, slice_get_within}
use Rattle.nfs_model.specs.Parts.{Hand, Empty, Fresh, Dead}
use Rattle.nfs_model.specs.World.{Setup, World, changed_at, with_running, with_hand, with_held, all_running}
use Rattle.nfs_model.specs.Events.Refusals.{Work, Finish, is_idle, is_empty_hand, refusal}
use Rattle.nfs_values.specs.declared.call.Call.{Call}
use Rattle.scheduler.specs.declared.message.Message.{Message}
use Rattle.depot_rule.specs.Sums.{total}
use Rattle.depot_rule.specs.lemmas.Sums.{total-append}
use Rattle.service.specs.declared.outcome.Outcome.{Outcome}
use Rattle.engine.specs.declared.worker.Running.{Running}
use Rattle.engine.specs.declared.worker.Worker.{Worker}
use Rattle.engine.specs.declared.worker.WorkerRun.{WorkerRun}
use Rattle.engine.specs.declared.worker.WorkerRun.TheVariants.{Idle, Begun, Worked}
use Rattle.engine.specs.Seen.{running_seen, worker_seen}
use Rattle.engine.specs.Sound.{messages_in, running_messages}
use Rattle.engine.specs.Workers.{worker_with, RunSet, RunTaken}
use Rattle.engine.proofs.Lists.{inner, none-some, set-here, set-twice, set-same}

-- what an index of a vector found
pub index-found : (v : Vec Worker) (i : ℕ) (k : Worker) → i < vec_len v → k ≡ slice_index_or v.items i k → slice_get v.items i ≡ Some k
index-found v i k within read = slice_get_read v.items (length v.items) i k refl (let size = v.ok.0 in omega (arith, within, size)) read

-- a worker as it is seen
pub seen-at : (ks : List Worker) (i : ℕ) (k : Worker) → slice_get ks i ≡ Some k → slice_get (map worker_seen ks) i ≡ Some (worker_seen k)
seen-at ks i k there = slice_get-map worker_seen ks i ∙ ap (λ o. option_map worker_seen o) there

-- a worker that runs another thing, as it is seen
pub seen-ran : (ks : List Worker) (i : ℕ) (was run : WorkerRun) (hand : Hand) → slice_get ks i ≡ Some (worker_with was hand)
    → map worker_seen (slice_set ks i (worker_with run hand)) ≡ changed_at (with_running (running_seen run)) (map worker_seen ks) i
seen-ran [] i was run hand there = refl
seen-ran (k ∷ ks) zero was run hand there =
    ap (λ (x : Worker). worker_seen (worker_with run x.hand) ∷ map worker_seen ks) (sym (inner k (worker_with was hand) there))
seen-ran (k ∷ ks) (suc i) was run hand there = ap (λ ws. worker_seen k ∷ ws) (seen-ran ks i was run hand there)

-- a worker that carries another thing, as it is seen
pub seen-carried : (ks : List Worker) (i : ℕ) (run : WorkerRun) (was hand : Hand) → slice_get ks i ≡ Some (worker_with run was)
    → map worker_seen (slice_set ks i (worker_with run hand)) ≡ changed_at (with_hand hand) (map worker_seen ks) i
seen-carried [] i run was hand there = refl
seen-carried (k ∷ ks) zero run was hand there =
    ap (λ (x : Worker). worker_seen (worker_with x.run hand) ∷ map worker_seen ks) (sym (inner k (worker_with run was) there))
seen-carried (k ∷ ks) (suc i) run was hand there = ap (λ ws. worker_seen k ∷ ws) (seen-carried ks i run was hand there)

-- why a worker's message isn't worked or finished
module _ (ks : List Worker) (i : ℕ) (setup : Setup) (w : World) (seen : w.workers ≡ map worker_seen ks) where
  stands : slice_get w.workers i ≡ option_map worker_seen (slice_get ks i)
  stands = ap (λ zs. slice_get zs i) seen ∙ slice_get-map worker_seen ks i

  -- nothing was begun
  module _ (none : slice_get ks i ≡ None) where
    pub work-nobody : refusal setup w (Work i) ≡ Some 34
    work-nobody = rw (stands, none) refl

    pub finish-nobody : refusal setup w (Finish i) ≡ Some 34
    finish-nobody = rw (stands, none) refl

  module _ (hand : Hand) (there : slice_get ks i ≡ Some (worker_with Idle hand)) where
    pub work-idle : refusal setup w (Work i) ≡ Some 34
    work-idle = rw (stands, there) refl

    pub finish-idle : refusal setup w (Finish i) ≡ Some 34
    finish-idle = rw (stands, there) refl

  -- it was worked already, or wasn't
  pub work-again : (r : Running) (outcome : Outcome) (hand : Hand) → slice_get ks i ≡ Some (worker_with (Worked r outcome) hand)
      → refusal setup w (Work i) ≡ Some 34
  work-again r outcome hand there = rw (stands, there) refl

  pub finish-early : (r : Running) (hand : Hand) → slice_get ks i ≡ Some (worker_with (Begun r) hand) → refusal setup w (Finish i) ≡ Some 35
  finish-early r hand there = rw (stands, there) refl

-- a place in a vector, and in one that was changed there
pub in-vector : (v : Vec Worker) (i : ℕ) (k : Worker) → slice_get v.items i ≡ Some k → i < vec_len v
in-vector v i k there =
    let within = slice_get_within v.items i k there in
    let size = v.ok.0 in
    omega (arith, within, size)

pub in-room : (v w : Vec Worker) (i : ℕ) (k x : Worker) → slice_get v.items i ≡ Some k → w ≡ with_item v i x → i < vec_len w
in-room v w i k x there are =
    let within = in-vector v i k there in
    let same : vec_len w ≡ vec_len v = ap (λ (y : Vec Worker). vec_len y) are in
    omega (arith, within, same)

-- an idle worker is there
idle-at : (o : Option Worker) → is_idle (option_map worker_seen o) ≡ true → (hand : Hand) × (o ≡ Some (worker_with Idle hand))
idle-at None e = absurd cc
idle-at (Some k) e = (k.hand, ap (λ r. Some (worker_with r k.hand)) (by k.run e))
  where
    by : (run : WorkerRun) → is_none (running_seen run) ≡ true → run ≡ Idle
    by Idle e = refl
    by (Begun r) e = absurd cc
    by (Worked r outcome) e = absurd cc

-- what was asked of a list is so of it
pub idle-there : (ks xs : List Worker) (i : ℕ) (b : Bool) → xs ≡ ks → b ≡ is_idle (slice_get (map worker_seen xs) i) → b ≡ true
    → is_idle (slice_get (map worker_seen ks) i) ≡ true
idle-there ks xs i b are told yes_so = ap (λ zs. is_idle (slice_get (map worker_seen zs) i)) (sym are) ∙ sym told ∙ yes_so

pub idle-asked : (ks xs : List Worker) (i : ℕ) (b : Bool) → xs ≡ ks → b ≡ is_idle (slice_get (map worker_seen xs) i)
    → is_idle (slice_get (map worker_seen ks) i) ≡ b
idle-asked ks xs i b are told = ap (λ zs. is_idle (slice_get (map worker_seen zs) i)) (sym are) ∙ sym told

pub idle-worker : (ks : List Worker) (i : ℕ) → is_idle (slice_get (map worker_seen ks) i) ≡ true
    → (hand : Hand) × (slice_get ks i ≡ Some (worker_with Idle hand))
idle-worker ks i free = idle-at (slice_get ks i) (ap is_idle (sym (slice_get-map worker_seen ks i)) ∙ free)

-- and carries nothing
pub empty-hand : (hand : Hand) → is_empty_hand hand ≡ true → hand ≡ Empty
empty-hand Empty e = refl
empty-hand (Fresh volume blocks) e = absurd cc
empty-hand (Dead volume blocks) e = absurd cc

-- a worker is one
pub one-worker : (o : Option Worker) (run other : WorkerRun) (hand more : Hand) → o ≡ Some (worker_with run hand) → o ≡ Some (worker_with other more)
    → (run ≡ other) × (hand ≡ more)
one-worker o run other hand more there again =
    let same = inner (worker_with run hand) (worker_with other more) (sym there ∙ again) in
    (ap (λ (k : Worker). k.run) same, ap (λ (k : Worker). k.hand) same)

-- a worker whose message was taken out runs another thing
pub runs-then : (ks taken new : List Worker) (i : ℕ) (was run mid : WorkerRun) (hand other : Hand) → slice_get ks i ≡ Some (worker_with was hand)
    → taken ≡ slice_set ks i (worker_with Idle hand) → slice_get taken i ≡ Some (worker_with mid other) → new ≡ slice_set taken i (worker_with run other)
    → new ≡ slice_set ks i (worker_with run hand)
runs-then ks taken new i was run mid hand other there are at put =
    let here = set-here ks i (worker_with was hand) (worker_with Idle hand) there in
    let same = one-worker (slice_get taken i) mid Idle other hand at (ap (λ xs. slice_get xs i) are ∙ here) in
    put ∙ ap (λ xs. slice_set xs i (worker_with run other)) are ∙ set-twice ks i (worker_with Idle hand) (worker_with run other)
    ∙ ap (λ h. slice_set ks i (worker_with run h)) same.1

-- a worker of whom a run was taken out runs that again, or ran nothing
module _ (old mid : Vec Worker) (i : ℕ) (run : WorkerRun) (taken : RunTaken old i run mid) where
  pub taken-there : (was : WorkerRun) → run ≡ was → slice_get old.items i ≡ Some (worker_with was taken.0)
  taken-there was is = taken.1 ∙ ap (λ (x : WorkerRun). Some (worker_with x taken.0)) is

  taken-items : mid.items ≡ slice_set old.items i (worker_with Idle taken.0)
  taken-items = ap (λ (v : Vec Worker). v.items) taken.2

  pub idle-same : run ≡ Idle → mid.items ≡ old.items
  idle-same is = taken-items ∙ set-same old.items i (worker_with Idle taken.0) (taken-there Idle is)

  pub runs-again : (was : WorkerRun) (new : Vec Worker) → run ≡ was → RunSet mid i was new → new.items ≡ old.items
  runs-again was new is put =
      runs-then old.items mid.items new.items i was was put.0 taken.0 put.1 (taken-there was is) taken-items put.2
      (ap (λ (v : Vec Worker). v.items) put.3)
      ∙ set-same old.items i (worker_with was taken.0) (taken-there was is)

-- a worker whose hand was taken out carries another thing
pub carries-then : (ks taken new : List Worker) (i : ℕ) (run other : WorkerRun) (was hand mid : Hand) → slice_get ks i ≡ Some (worker_with run was)
    → taken ≡ slice_set ks i (worker_with run Empty) → slice_get taken i ≡ Some (worker_with other mid) → new ≡ slice_set taken i (worker_with other hand)
    → new ≡ slice_set ks i (worker_with run hand)
carries-then ks taken new i run other was hand mid there are at put =
    let here = set-here ks i (worker_with run was) (worker_with run Empty) there in
    let same = one-worker (slice_get taken i) other run mid Empty at (ap (λ xs. slice_get xs i) are ∙ here) in
    put ∙ ap (λ xs. slice_set xs i (worker_with other hand)) are ∙ set-twice ks i (worker_with run Empty) (worker_with other hand)
    ∙ ap (λ r. slice_set ks i (worker_with r hand)) same.0

-- the messages that run, weighed, where a worker runs another thing
pub messages-changed : (weigh : Message Call → ℕ) (ks : List Worker) (i : ℕ) (k x : Worker) → slice_get ks i ≡ Some k
    → total weigh (running_messages (slice_set ks i x)) + total weigh (messages_in k.run) ≡ total weigh (running_messages ks) + total weigh (messages_in x.run)
messages-changed weigh [] i k x there = absurd (none-some k there)
messages-changed weigh (y ∷ ks) zero k x there =
    let left = total-append weigh (messages_in x.run) (running_messages ks) in
    let right = total-append weigh (messages_in y.run) (running_messages ks) in
    let same : total weigh (messages_in y.run) ≡ total weigh (messages_in k.run) = ap (λ z. total weigh (messages_in z.run)) (inner y k there) in
    omega (arith, left, right, same)
messages-changed weigh (y ∷ ks) (suc i) k x there =
    let left = total-append weigh (messages_in y.run) (running_messages (slice_set ks i x)) in
    let right = total-append weigh (messages_in y.run) (running_messages ks) in
    let others = messages-changed weigh ks i k x there in
    omega (arith, left, right, others)

-- how many run
pub count-changed : (ks : List Worker) (i : ℕ) (k x : Worker) → slice_get ks i ≡ Some k
    → length (running_messages (slice_set ks i x)) + length (messages_in k.run) ≡ length (running_messages ks) + length (messages_in x.run)
count-changed [] i k x there = absurd (none-some k there)
count-changed (y ∷ ks) zero k x there =
    let left = length-append (messages_in x.run) (running_messages ks) in
    let right = length-append (messages_in y.run) (running_messages ks) in
    let same : length (messages_in y.run) ≡ length (messages_in k.run) = ap (λ z. length (messages_in z.run)) (inner y k there) in
    omega (arith, left, right, same)
count-changed (y ∷ ks) (suc i) k x there =
    let left = length-append (messages_in y.run) (running_messages (slice_set ks i x)) in
    let right = length-append (messages_in y.run) (running_messages ks) in
    let others = count-changed ks i k x there in
    omega (arith, left, right, others)

-- all that run, as they are seen
pub count-running : (ks : List Worker) → length (all_running (map worker_seen ks)) ≡ length (running_messages ks)
count-running [] = refl
count-running (k ∷ ks) = one k.run (count-running ks)
  where
    one : (run : WorkerRun) → length (all_running (map worker_seen ks)) ≡ length (running_messages ks)
        → length (with_held (running_seen run) (all_running (map worker_seen ks))) ≡ length (messages_in run ++ running_messages ks)
    one Idle others = others
    one (Begun r) others = ap suc others
    one (Worked r outcome) others = ap suc others
