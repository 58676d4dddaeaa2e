use Rattle.std.proofs.Common.{[], ◌∷◌, map, ap, ◌∙◌, arith, subst, sym}
use Rattle.std.proofs.lemmas.List.{map-append}
use Rattle.depot.specs.Words.{view}
use Rattle.depot_rule.specs.Placed.{HasPlaced}
use Rattle.depot_rule.specs.Sums.{total}
use Rattle.filer_lanes.specs.Lanes.{admitted_by, entries_by, finished_by, seats_of, IsLaneOf}
use Rattle.tends.proofs.Lists.{all-popped, none-left, total-last}
use Rattle.filer_lanes.proofs.gathering.gather_lanes.Goals as goal

pub begin-first-requires-clause-of : goal.begin-first-requires-clause-of
begin-first-requires-clause-of g c =
    (all-popped (IsLaneOf c.args.filer.now) c.args.lanes.items c.pop.new.self.items c.in-Some.lane c.in-Some.ensures.items c.requires.lanes.of).1

pub unreachable-requires : goal.unreachable-requires
unreachable-requires g c =
    let z = c.in-None.ensures.cases.0 in
    let o = c.args.lanes.ok.0 in
    let none = ap (total seats_of) (none-left c.args.lanes.items (omega (arith, z, o))) in
    let s = c.requires.lanes.seats in
    omega (arith, none, s)

pub join_all-seat-requires-clause-of : goal.join_all-seat-requires-clause-of
join_all-seat-requires-clause-of g c =
    (all-popped (IsLaneOf c.args.filer.now) c.args.lanes.items c.pop.new.self.items c.in-Some.lane c.in-Some.ensures.items c.requires.lanes.of).0

pub join_all-seat-requires-clause-room : goal.join_all-seat-requires-clause-room
join_all-seat-requires-clause-room g c =
    let most = c.requires.room in
    let l = c.in-Some.ensures.len in
    let e = c.begin-first.ensures in
    let h = e.len.0 in
    let k = e.len.1 in
    let w = e.len.2 in
    let hands = e.room.0 in
    let kept = e.room.1 in
    let waiting = e.room.2 in
    (omega (arith, most, l, h, hands), omega (arith, most, l, k, kept), omega (arith, most, l, w, waiting))

pub returns : goal.returns
returns g c =
    let all = c.args.lanes.items in
    let rest = c.pop.new.self.items in
    let x = c.in-Some.lane in
    let is = c.in-Some.ensures.items in
    let b = c.begin-first.ensures in
    let e = c.join_all-seat.ensures in
    record {
      leaves = record {
        seat = e.inside.seat;
        opened = e.inside.opened;
        only =
            let s = total-last seats_of all rest x is in
            let a = c.requires.lanes.seats in
            let p = b.seats in
            let q = e.seats in
            omega (arith, s, a, p, q);
        none_open = c.join_all-seat.result.none_open;
        hands = c.join_all-seat.result.in_hand;
      };
      lanes_are = c.requires.lanes;
      calls = λ weight.
          let s = total-last (admitted_by weight) all rest x is in
          let p = b.calls weight in
          let q = e.calls weight in
          omega (arith, s, p, q);
      entries = λ weight.
          let s = total-last (finished_by weight) all rest x is in
          let p = b.entries weight in
          let q = e.entries weight in
          omega (arith, s, p, q);
      placed = subst (λ ls. HasPlaced (view c.join_all-seat.result.seat) ls) (sym (ap (map entries_by) is ∙ map-append entries_by rest (x ∷ [])))
          (e.placed (entries_by x ∷ []) b.placed);
    }
