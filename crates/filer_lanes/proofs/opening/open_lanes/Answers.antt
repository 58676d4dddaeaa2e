use Rattle.std.proofs.Common.{◌≡◌, ◌∙◌, ℕ, suc, ◌+◌, List, [], ◌∷◌, ◌++◌, length, ap, arith, subst, sym}
use Rattle.std.specs.Arc.{arc_value}
use Rattle.depot.specs.Words.{IsSeatHere}
use Rattle.granted_calls.specs.declared.shared.Filer.{Filer}
use Rattle.turns.specs.declared.worker.Worker.{Worker}
use Rattle.granted_calls.specs.shared_waiting.Balance.{both, IsWhole}
use Rattle.granted_calls.specs.shared_waiting.Passes.{known}
use Rattle.granted_calls.specs.Balance.{Passed}
use Rattle.turns.specs.Words.{seats_in, IsAt}
use Rattle.rpc_msg.specs.declared.offer.Offer.{Offer}
use Rattle.lanes.specs.Words.{Identity}
use Rattle.connections.specs.declared.device.Device as devices
use Rattle.lanes.specs.declared.lane.Lane.{Lane}
use Rattle.filer_lanes.specs.Lanes.{by_offer, by_place, places, places_below, seats_of, IsLaneOf}
use Rattle.depot_rule.specs.Sums.{total}
use Rattle.filer_lanes.specs.Queues.{IsNewQueue}
use Rattle.tends.proofs.Handed.{all-pushed}
use Rattle.tends.proofs.Lists.{total-last}
use Rattle.filer_lanes.proofs.opening.open_lanes.Goals as goal

one-place : (weigh : ℕ × ℕ → ℕ) (count n : ℕ) → total weigh (places_below count (n + 1)) ≡ weigh (n, count) + total weigh (places_below count n)
one-place weigh count n = let e : n + 1 ≡ suc n = omega arith in ap (λ m. total weigh (places_below count m)) e

-- one lane more that offers the same
offers-more : {D R : Type 0} {G : devices.Ghosts D} (weigh : Offer → ℕ) (offer : Offer) (xs ys : List (Lane D R G)) (x : Lane D R G)
    → ys ≡ xs ++ x ∷ [] → by_offer weigh x ≡ weigh offer → total (by_offer weigh) xs ≡ total (λ _. weigh offer) xs
    → total (by_offer weigh) ys ≡ total (λ _. weigh offer) ys
offers-more weigh offer xs ys x is same before =
    let a = total-last (by_offer weigh) ys xs x is in
    let b = total-last (λ _. weigh offer) ys xs x is in
    omega (arith, a, b, same, before)

pub start-worker-requires-clause-seat : goal.start-worker-requires-clause-seat
start-worker-requires-clause-seat g c =
    subst (λ (f : Filer). IsSeatHere f.depot c.in_ok-filer.seat) (sym (c.deref-2.ensures ∙ c.in_ok-filer-2.ensures.ok)) c.in_ok-filer.ensures.seat

pub open_lane-requires-clause-ready : goal.open_lane-requires-clause-ready
open_lane-requires-clause-ready g c =
    let q = c.in_ok-theirs.field-0 in
    let s = c.split_with-first.ensures in
    let new = subst (λ (f : Filer). IsNewQueue f q) c.deref-in-loop-index.ensures c.in_ok-theirs.ensures in
    record {
      new = new.admits;
      inside = subst (λ (f : Filer). IsAt f q.queue c.split_with-first.result.1) c.deref-in-loop-index-2.ensures s.second;
      both = subst (λ (v : Passed). IsWhole (both (known q.admits) v) × ((known q.admits).key ≡ v.key)) (sym s.passes.1) (new.whole, new.key);
      none = s.entries.1;
    }

pub open_lane-requires-2-clause-ready : goal.open_lane-requires-2-clause-ready
open_lane-requires-2-clause-ready g c =
    let q = c.in_ok-queue.field-0 in
    let i = c.loop-index.invariant in
    record {
      new = (subst (λ (f : Filer). IsNewQueue f q) c.deref.ensures c.in_ok-queue.ensures).admits;
      inside = i.inside;
      both = i.both;
      none = i.none;
    }

pub loop-index-preserved : goal.loop-index-preserved
loop-index-preserved g c =
    let i = c.loop-index.invariant in
    let filer = arc_value c.in_ok-filer-2.filer in
    let s = c.split_with-first.ensures in
    let x = c.in_ok-lane.lane in
    let xs = c.loop-index.lanes.items in
    let ys = c.push_reserved.new.self.items in
    let is = c.push_reserved.ensures.items in
    let n = c.push_reserved.ensures.len in
    record {
      inside = subst (λ (f : Filer). IsAt f c.in_ok-queue.field-0.queue c.split_with-first.result.0) c.deref-in-loop-index-2.ensures s.first;
      both = subst (λ (v : Passed). IsWhole (both (known c.in_ok-queue.field-0.admits) v) × ((known c.in_ok-queue.field-0.admits).key ≡ v.key))
          (sym s.passes.0) i.both;
      none = s.entries.0 ∙ i.none;
      of = all-pushed (IsLaneOf filer) xs ys x is i.of c.in_ok-lane.ensures.of;
      offer = λ weigh. offers-more weigh c.args.offer xs ys x is (ap (λ (j : Identity). weigh j.1) c.in_ok-lane.ensures.identity) (i.offer weigh);
      len = let a = i.len in omega (arith, n, a);
      room = c.push_reserved.ensures.capacity ∙ i.room;
      left = let a = i.left in let b = s.seats.0 in omega (arith, n, a, b);
      seats =
          let a = total-last seats_of ys xs x is in
          let b = s.seats.0 in
          let d = s.seats.1 in
          let e = ap (λ (w : Worker). seats_in w) c.in_ok-lane.ensures.worker in
          let k = i.seats in
          omega (arith, a, b, d, e, k);
      each = λ weigh.
          let a = total-last (by_place weigh) ys xs x is in
          let p = ap (λ (i : Identity). weigh i.0) c.in_ok-lane.ensures.identity in
          let e = i.each weigh in
          let m = one-place weigh c.args.count c.loop-index.index in
          omega (arith, a, p, e, m);
    }

pub returns-clause-lanes : goal.returns-clause-lanes
returns-clause-lanes g c =
    let i = c.loop-index.invariant in
    let x = c.in_ok-lane-2.lane in
    let xs = c.loop-index.lanes.items in
    let ys = c.push_reserved-2.new.self.items in
    let is = c.push_reserved-2.ensures.items in
    record {
      of = all-pushed (IsLaneOf (arc_value c.in_ok-filer-2.filer)) xs ys x is i.of c.in_ok-lane-2.ensures.of;
      seats =
          let a = total-last seats_of ys xs x is in
          let e = ap (λ (w : Worker). seats_in w) c.in_ok-lane-2.ensures.worker in
          let k = i.seats in
          omega (arith, a, e, k);
      each = λ weigh.
          let a = total-last (by_place weigh) ys xs x is in
          let p = ap (λ (i : Identity). weigh i.0) c.in_ok-lane-2.ensures.identity in
          let e = i.each weigh in
          let n = c.push_reserved-2.ensures.len in
          let l = i.len in
          let t = c.loop-index-test.false in
          let o = c.push_reserved-2.new.self.ok.0 in
          let q = c.requires.count.0 in
          let last : c.loop-index.index ≡ c.args.count = omega (arith, t, q) in
          let m : length ys ≡ c.args.count = omega (arith, n, l, last, o) in
          let u : total weigh (places_below c.args.count c.loop-index.index) ≡ total weigh (places (length ys)) =
          ap (λ k. total weigh (places_below c.args.count k)) last ∙ ap (λ k. total weigh (places k)) (sym m) in
          omega (arith, a, p, e, u);
    }

pub returns-clause-offer : goal.returns-clause-offer
returns-clause-offer g c = λ weigh.
    offers-more weigh c.args.offer c.loop-index.lanes.items c.push_reserved-2.new.self.items c.in_ok-lane-2.lane c.push_reserved-2.ensures.items
    (ap (λ (j : Identity). weigh j.1) c.in_ok-lane-2.ensures.identity) (c.loop-index.invariant.offer weigh)

pub returns-clause-count : goal.returns-clause-count
returns-clause-count g c =
    let n = c.push_reserved-2.ensures.len in
    let a = c.loop-index.invariant.len in
    let t = c.loop-index-test.false in
    omega (arith, n, a, t)
