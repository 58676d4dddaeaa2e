use Rattle.std.proofs.Common.{◌≡◌, [], ◌∷◌, ◌++◌, List, map, ap, ◌∙◌, arith, refl, subst, sym}
use Rattle.std.proofs.lemmas.List.{append-nil, append_assoc}
use Rattle.depot.specs.Words.{view}
use Rattle.depot_rule.specs.Placed.{HasPlaced}
use Rattle.granted_calls.specs.Balance.{FilerEntry}
use Rattle.depot_rule.specs.Sums.{total}
use Rattle.filer_lanes.specs.Lanes.{admitted_by, entries_by, finished_by, seats_of, IsLaneOf}
use Rattle.tends.proofs.Lists.{all-popped, none-left, total-last}
use Rattle.filer_lanes.proofs.gathering.join_all.Goals as goal

pub join-remains-requires-clause-of : goal.join-remains-requires-clause-of
join-remains-requires-clause-of g c =
    (all-popped (IsLaneOf c.args.filer.now) c.loop-lane.lanes.items c.pop.new.self.items c.in-Some.lane c.in-Some.ensures.items
    c.loop-lane.invariant.of).1

pub loop-lane-preserved : goal.loop-lane-preserved
loop-lane-preserved g c =
    let i = c.loop-lane.invariant in
    let x = c.in-Some.lane in
    let is = c.in-Some.ensures.items in
    let all = c.loop-lane.lanes.items in
    let rest = c.pop.new.self.items in
    let e = c.join-remains.ensures in
    let l = c.in-Some.ensures.len in
    record {
      inside = e.inside;
      of = (all-popped (IsLaneOf c.args.filer.now) all rest x is i.of).0;
      hands_room = let a = e.room.0 in let b = e.len.0 in let r = i.hands_room in omega (arith, a, b, l, r);
      kept_room = let a = e.room.1 in let b = e.len.1 in let r = i.kept_room in omega (arith, a, b, l, r);
      waiting_room = let a = e.room.2 in let b = e.len.2 in let r = i.waiting_room in omega (arith, a, b, l, r);
      seats = let a = total-last seats_of all rest x is in let b = e.seats in let s = i.seats in omega (arith, a, b, s);
      calls = λ weight. let a = total-last (admitted_by weight) all rest x is in let b = e.calls weight in let s = i.calls weight in
          omega (arith, a, b, s);
      entries = λ weight. let a = total-last (finished_by weight) all rest x is in let b = e.entries weight in let s = i.entries weight in
          omega (arith, a, b, s);
      placed = (
        x ∷ i.placed.0,
        i.placed.1 ∙ (ap (λ l. l ++ i.placed.0) is ∙ append_assoc rest (x ∷ []) i.placed.0),
        λ lists placed. e.placed (map entries_by i.placed.0 ++ lists) (i.placed.2 lists placed),
      );
    }

pub returns-clause-placed : goal.returns-clause-placed
returns-clause-placed g c lists placed =
    let i = c.loop-lane.invariant in
    let none = none-left c.loop-lane.lanes.items (let z = c.in_default.ensures.cases.0 in let o = c.loop-lane.lanes.ok.0 in omega (arith, z, o)) in
    let all : c.args.lanes.items ≡ i.placed.0 = i.placed.1 ∙ ap (λ l. l ++ i.placed.0) none in
    subst (λ ls. HasPlaced (view c.loop-lane.remains.seat) (map entries_by ls ++ lists)) (sym all) (i.placed.2 lists placed)

pub returns-clause-seats : goal.returns-clause-seats
returns-clause-seats g c =
    let none = ap (total seats_of)
    (none-left c.loop-lane.lanes.items (let z = c.in_default.ensures.cases.0 in let o = c.loop-lane.lanes.ok.0 in omega (arith, z, o))) in
    let s = c.loop-lane.invariant.seats in
    omega (arith, none, s)

pub returns-clause-calls : goal.returns-clause-calls
returns-clause-calls g c weight =
    let none = ap (total (admitted_by weight))
    (none-left c.loop-lane.lanes.items (let z = c.in_default.ensures.cases.0 in let o = c.loop-lane.lanes.ok.0 in omega (arith, z, o))) in
    let s = c.loop-lane.invariant.calls weight in
    omega (arith, none, s)

pub returns-clause-entries : goal.returns-clause-entries
returns-clause-entries g c weight =
    let none = ap (total (finished_by weight))
    (none-left c.loop-lane.lanes.items (let z = c.in_default.ensures.cases.0 in let o = c.loop-lane.lanes.ok.0 in omega (arith, z, o))) in
    let s = c.loop-lane.invariant.entries weight in
    omega (arith, none, s)

pub loop-lane-init : goal.loop-lane-init
loop-lane-init g c =
    let r = c.requires in
    record {
      inside = r.inside;
      of = r.of;
      hands_room = r.room.0;
      kept_room = r.room.1;
      waiting_room = r.room.2;
      seats = refl;
      calls = λ weight. refl;
      entries = λ weight. refl;
      placed = ([], sym (append-nil c.args.lanes.items), λ lists placed. placed);
    }
