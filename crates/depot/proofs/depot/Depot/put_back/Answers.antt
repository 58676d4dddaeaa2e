use Rattle.std.proofs.Common.{rules, ◌≡◌, ◌∷◌, [], refl, sym, ap, ◌∙◌, subst, length}
use Rattle.affinity.specs.Ancestors.{IsTree}
use Rattle.affinity.specs.Numbers as numbers
use Rattle.affinity.specs.lemmas.Standing.{parents-tree}
use Rattle.depot_rule.specs.Seats.{view_of}
use Rattle.depot.specs.Calls.{known}
use Rattle.depot.specs.Holds.{IsGathered}
use Rattle.depot.specs.Grants.{IsEnded}
use Rattle.depot.specs.Words.{view, layout_in, number_in, parcels_in}
use Rattle.depot.proofs.Moves.{placed-one, one-of}
use Rattle.depot.proofs.Apart.{less-apart}
use Rattle.depot.proofs.Begun.{seat-still}
use Rattle.depot.proofs.Between.{between}
use Rattle.depot.proofs.Ended.{HasOpen, open-so, open-taken, put-gathered, ended-views}
use Rattle.depot.proofs.depot.Depot.put_back.Given.{Over}
use Rattle.depot.proofs.depot.Depot.put_back.Goals.{After-into_seat-place, After-into_badge}
use Rattle.depot.proofs.depot.Depot.put_back.Goals as goal

-- ---- what several goals share

start : (g : Over) (c : After-into_seat-place g) → HasOpen g.M.Parcel.HasKind.kind (layout_in c.args.self.now)
    (number_in (layout_in c.args.self.now) c.args.grant)
    (parcels_in g.N.Node.parcels (layout_in c.args.self.now) c.args.grant) c.args.seat.now.badge.views c.into_seat-place.result.me.0
start g c =
    let seat = c.args.seat.now in
    let is : seat.badge.views ≡ c.into_seat-place.result.me.0 ∷ [] = search rules in
    open-so g.M.Parcel.HasKind.kind (layout_in c.args.self.now) _ _ seat.badge.views _ is c.requires.as_granted c.requires.seat.1 seat.gathered
    seat.idle.1 seat.idle.2

ended : (g : Over) (c : After-into_badge g) → IsEnded (view c.args.seat.now) (number_in (layout_in c.args.self.now) c.args.grant)
    (view_of c.give_home-place.result.me.0)
ended g c =
    let is : c.args.seat.now.badge.views ≡ c.into_seat-place.result.me.0 ∷ [] = search rules in
    subst (λ l. IsEnded (known l) (number_in (layout_in c.args.self.now) c.args.grant) (view_of c.give_home-place.result.me.0))
    (sym is) c.give_home-place.ensures.ended.1

-- ---- the answers

pub into_seat-place-requires : goal.into_seat-place-requires
into_seat-place-requires g c =
    one-of c.replace.result.views (ap (λ b. length b.views) c.replace.ensures.value ∙ c.args.seat.now.one.0)

pub give_home-place-requires-clause-ready : goal.give_home-place-requires-clause-ready
give_home-place-requires-clause-ready g c =
    let o = start g (goal.at.give_home-place-requires-clause-ready g c).After-into_seat-place in
    let none : c.into_seat-place.result.me.1 ≡ [] = search rules in
    let parents : c.deref.result.now ≡ numbers.parents (layout_in c.args.self.now) = search rules in
    (placed-one o.is c.args.seat.now.one.1, none, o.out, o.path, o.still.0 ∙ sym parents)

pub give_home-place-requires-clause-listed : goal.give_home-place-requires-clause-listed
give_home-place-requires-clause-listed g c = (start g (goal.at.give_home-place-requires-clause-listed g c).After-into_seat-place).listed

pub give_home-place-requires-clause-taken : goal.give_home-place-requires-clause-taken
give_home-place-requires-clause-taken g c =
    open-taken g.M.Parcel.HasKind.kind (layout_in c.args.self.now) _ _ c.args.seat.now.badge.views _
    (start g (goal.at.give_home-place-requires-clause-taken g c).After-into_seat-place)

pub invariant_of-seat : goal.invariant_of-seat
invariant_of-seat g c =
    let at = goal.at.invariant_of-seat g c in
    let seat = c.args.seat.now in let n = number_in (layout_in c.args.self.now) c.args.grant in
    let o = start g at.After-into_seat-place in
    let badge : c.into_badge.result.views ≡ c.give_home-place.result.me.0 ∷ [] = search rules in
    let full = ended-views (view seat) n c.give_home-place.result.me.0 c.into_badge.result.views badge c.give_home-place.ensures.ended.0
    (ended g at.After-into_badge) in
    let tree : IsTree (view seat).tree = subst IsTree (sym c.requires.seat.1.0) (parents-tree (layout_in c.args.self.now) c.args.self.now.layout.lawful) in
    let gathered = put-gathered seat.badge.views c.into_seat-place.result.me.0 c.give_home-place.result.me.0 n o.is tree seat.gathered
    c.give_home-place.ensures.ended.1 c.give_home-place.ensures.apart c.give_home-place.ensures.others in
    let now = sym (ap known badge) ∙ ap known full in
    let b = between _ c.into_badge.result.views seat.splits full (seat.idle.0, seat.idle.1, seat.idle.2, refl) seat.parts
    (subst IsGathered now gathered) (less-apart (view seat).tree (view seat).held n seat.apart) in
    record { one = b.one; idle = b.idle; parts = b.parts; gathered = b.gathered; apart = b.apart }

pub returns-clause-seat : goal.returns-clause-seat
returns-clause-seat g c =
    let e = ended g (goal.at.returns-clause-seat g c).After-into_badge in
    let badge : c.into_badge.result.views ≡ c.give_home-place.result.me.0 ∷ [] = search rules in
    let now = ap known badge ∙ e.2 in (
      search rules,
      seat-still g.M.Parcel.HasKind.kind (layout_in c.args.self.now) (view c.args.seat.now) (known c.into_badge.result.views)
          (ap (λ v. v.tree) now) (ap (λ v. v.first) now) c.requires.seat.1,
    )

pub returns-clause-ended : goal.returns-clause-ended
returns-clause-ended g c =
    let e = ended g (goal.at.returns-clause-ended g c).After-into_badge in
    let badge : c.into_badge.result.views ≡ c.give_home-place.result.me.0 ∷ [] = search rules in (e.0, e.1, ap known badge ∙ e.2)
