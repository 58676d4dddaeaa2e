-- Lanes whose threads are started, and come back.
use Rattle.std.proofs.Common.{◌≡◌, ℕ, ◌+◌, List, [], All, length, ap, ◌∙◌, sym, arith}
use Rattle.depot_rule.specs.Sums.{total}
use Rattle.lanes.specs.declared.lane.Lane.{Lane}
use Rattle.rpc_msg.specs.declared.offer.Offer.{Offer}
use Rattle.granted_calls.specs.declared.shared.Filer.{Filer}
use Rattle.server.specs.contracts.socket.SocketDevice.TheImpl.{ghosts}
use Rattle.server.specs.declared.socket.Socket.{Socket}
use Rattle.server.specs.declared.task.LaneStart.{LaneStart}
use Rattle.lanes.specs.Words.{Identity}
use Rattle.filer_lanes.specs.Lanes.{by_identity, places, seats_of, AllOffer, AreLanesOf, IsLaneOf}
use Rattle.server.specs.Threads.{identity_for, identity_with, seats_for, seats_with, AllServe, AreOfThreads, AreThreadsOf, IsTaskFor, ServesFor, Thread}
use Rattle.tends.proofs.Lists.{all-none, total-none, total-one}

-- the same places, taken by others
same-places : {X Y : Type 0} (f : (Identity → ℕ) → X → ℕ) (g : (Identity → ℕ) → Y → ℕ) (xs : List X) (ys : List Y)
    → ((weigh : Identity → ℕ) → total (g weigh) ys ≡ total (f weigh) xs) → length ys ≡ length xs
    → ((weigh : ℕ × ℕ → ℕ) → total (f (λ i. weigh i.0)) xs ≡ total weigh (places (length xs)))
    → (weigh : ℕ × ℕ → ℕ) → total (g (λ i. weigh i.0)) ys ≡ total weigh (places (length ys))
same-places f g xs ys same count each weigh = same (λ i. weigh i.0) ∙ each weigh ∙ ap (λ n. total weigh (places n)) (sym count)

module _ {R : Type 0} (filer : Filer) where
  module _ (lanes : List (Lane Socket R ghosts)) (none tasks : List (LaneStart R)) (vacant threads : List (Thread R ghosts)) (no-task : none ≡ [])
      (no-thread : vacant ≡ [])
      (manned : (weigh : Identity → ℕ) → total (identity_for weigh) tasks ≡ total (identity_for weigh) none + total (by_identity weigh) lanes)
      (started : (weigh : Identity → ℕ) → total (identity_with weigh) threads ≡ total (identity_with weigh) vacant + total (identity_for weigh) tasks) where
    all-started : (weigh : Identity → ℕ) → total (identity_with weigh) threads ≡ total (by_identity weigh) lanes
    all-started weigh =
        let a = manned weigh in
        let b = started weigh in
        let d = total-none (identity_for weigh) none no-task in
        let e = total-none (identity_with weigh) vacant no-thread in omega (arith, a, b, d, e)

    -- as many threads as lanes
    pub as-many : length threads ≡ length lanes
    as-many = let a = all-started (λ _. 1) in let b = total-one threads in let d = total-one lanes in omega (arith, a, b, d)

    -- they offer what the lanes do
    pub all-serve : (offer : Offer) → AllOffer offer lanes → AllServe offer threads
    all-serve offer are weigh = all-started (λ i. weigh i.1) ∙ are weigh ∙ sym (all-started (λ _. weigh offer))

    -- each lane has a task, and each task a thread
    pub threads-of : AreLanesOf filer lanes
        → (All (IsLaneOf filer) lanes → All (IsTaskFor filer) none → All (IsTaskFor filer) tasks)
        → (All (IsTaskFor filer) tasks → All (ServesFor filer) vacant → All (ServesFor filer) threads)
        → total seats_for tasks ≡ total seats_for none + total seats_of lanes
        → total seats_with threads ≡ total seats_with vacant + total seats_for tasks
        → AreThreadsOf filer threads
    threads-of are given run seats more = record {
      of = run (given are.of (all-none (IsTaskFor filer) none no-task)) (all-none (ServesFor filer) vacant no-thread);
      seats =
          let a = are.seats in
          let b = total-none seats_for none no-task in
          let d = total-none seats_with vacant no-thread in
          omega (arith, a, b, d, seats, more);
      each = same-places by_identity identity_with lanes threads all-started as-many are.each;
    }

  pub all-back : (threads : List (Thread R ghosts)) (none lanes : List (Lane Socket R ghosts)) → none ≡ []
      → ((weigh : Identity → ℕ) → total (by_identity weigh) lanes ≡ total (by_identity weigh) none + total (identity_with weigh) threads)
      → AreOfThreads threads lanes
  all-back threads none lanes no-lane back weigh =
      let a = back weigh in let b = total-none (by_identity weigh) none no-lane in omega (arith, a, b)

  -- the threads give their lanes back
  pub lanes-back : (threads : List (Thread R ghosts)) (none lanes : List (Lane Socket R ghosts)) → AreThreadsOf filer threads → none ≡ []
      → (All (ServesFor filer) threads → All (IsLaneOf filer) none → All (IsLaneOf filer) lanes)
      → total seats_of lanes ≡ total seats_of none + total seats_with threads
      → ((weigh : Identity → ℕ) → total (by_identity weigh) lanes ≡ total (by_identity weigh) none + total (identity_with weigh) threads)
      → length lanes ≡ length threads
      → AreLanesOf filer lanes
  lanes-back threads none lanes are no-lane joined seats back count = record {
    of = joined are.of (all-none (IsLaneOf filer) none no-lane);
    seats = let a = are.seats in let b = total-none seats_of none no-lane in omega (arith, a, b, seats);
    each = same-places identity_with by_identity threads lanes (all-back threads none lanes no-lane back) count are.each;
  }

-- they offer what their threads were started with
pub lanes-offer : {R : Type 0} (offer : Offer) (threads : List (Thread R ghosts)) (lanes : List (Lane Socket R ghosts)) → AreOfThreads threads lanes
    → AllServe offer threads → AllOffer offer lanes
lanes-offer offer threads lanes back serve weigh = back (λ i. weigh i.1) ∙ serve weigh ∙ sym (back (λ _. weigh offer))
