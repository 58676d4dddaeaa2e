use Rattle.std.proofs.Common.{rules, ◌≡◌, ◌<◌, ◌∷◌, ℕ, List, [], length, refl, sym, ap, ◌∙◌, subst, arith}
use Rattle.affinity.specs.Affinity.{affinity_of}
use Rattle.affinity.specs.Ancestors.{IsTree, Covers}
use Rattle.affinity.specs.Numbers as numbers
use Rattle.affinity.specs.lemmas.Standing.{parents-tree}
use Rattle.depot_rule.specs.Parcels.{has_out}
use Rattle.depot_rule.specs.Seats.{view_of}
use Rattle.depot.specs.Calls.{known}
use Rattle.depot.specs.Holds.{IsGathered}
use Rattle.depot.specs.Grants.{IsStep, HasInHand, IsFinished}
use Rattle.depot.specs.Words.{served_by, view, layout_in, node_of, held_in, number_in, parcels_in, entry_with}
use Rattle.depot.proofs.Moves.{one-of}
use Rattle.depot.proofs.Apart.{less-apart}
use Rattle.depot.proofs.Begun.{seat-still}
use Rattle.depot.proofs.Between.{between}
use Rattle.depot.proofs.Ended.{HasOpen, open-so, open-taken, HasStamped, has-stamped, stamp-fits, ended-gathered, finished-known, finished-views}
use Rattle.depot.proofs.depot.Depot.finish.Given.{Over}
use Rattle.depot.proofs.depot.Depot.finish.Goals.{After-into_seat-place, After-stamp_call, After-into_badge}
use Rattle.depot.proofs.depot.Depot.finish.Goals as goal

-- ---- what several goals share

start : (g : Over) (c : After-into_seat-place g) → HasOpen g.M.Parcel.HasKind.kind (layout_in c.args.self.now)
    (number_in (layout_in c.args.self.now) c.args.grant)
    c.requires.step.0 c.args.seat.now.badge.views c.into_seat-place.result.me.0
start g c =
    let seat = c.args.seat.now in
    let is : seat.badge.views ≡ c.into_seat-place.result.me.0 ∷ [] = search rules in
    open-so g.M.Parcel.HasKind.kind (layout_in c.args.self.now) _ c.requires.step.0 seat.badge.views _ is c.requires.step.1 c.requires.seat.1
    seat.gathered seat.idle.1 seat.idle.2

stamped : (g : Over) (c : After-stamp_call g) (o : HasOpen g.M.Parcel.HasKind.kind (layout_in c.args.self.now)
    (number_in (layout_in c.args.self.now) c.args.grant)
    c.requires.step.0 c.args.seat.now.badge.views c.into_seat-place.result.me.0)
    → HasStamped g.M.Parcel.HasKind.kind (layout_in c.args.self.now) (number_in (layout_in c.args.self.now) c.args.grant)
    (parcels_in g.N.Node.parcels (layout_in c.args.self.now) c.args.grant) c.stamp_call.new.place.me.0
stamped g c o =
    has-stamped (served_by g.M.Machine) g.M.Parcel.HasKind.kind (layout_in c.args.self.now) c.args.self.now.layout.lawful
    (affinity_of (node_of c.args.grant)) c.requires.node
    c.requires.step.0 (parcels_in g.N.Node.parcels (layout_in c.args.self.now) c.args.grant) c.requires.exact
    (g.C.Entered.entered c.args.call.now) (g.A.Entered.entered c.args.reply.now) c.args.seat.now.badge.views _ _ o
    c.stamp_call.ensures.stamped.0 c.stamp_call.ensures.stamped.1

done : (g : Over) (c : After-into_badge g) → IsFinished (served_by g.M.Machine) (view c.args.seat.now) (number_in (layout_in c.args.self.now) c.args.grant)
    (entry_with g.N.Node.parcels (layout_in c.args.self.now) c.args.grant (g.C.Entered.entered c.args.call.now) (g.A.Entered.entered c.args.reply.now))
    (known c.into_badge.result.views)
done g c =
    let is : c.args.seat.now.badge.views ≡ c.into_seat-place.result.me.0 ∷ [] = search rules in
    let badge : c.into_badge.result.views ≡ c.give_home-place.result.me.0 ∷ [] = search rules in
    finished-known (served_by g.M.Machine) c.args.seat.now.badge.views c.into_seat-place.result.me.0 c.stamp_call.new.place.me.0
    c.give_home-place.result.me.0 c.into_badge.result.views
    (entry_with g.N.Node.parcels (layout_in c.args.self.now) c.args.grant (g.C.Entered.entered c.args.call.now) (g.A.Entered.entered c.args.reply.now))
    c.stamp_call.ensures.stamped.0 is badge c.stamp_call.ensures.stamped.1 c.give_home-place.ensures.ended.1

-- ---- the answers

pub into_seat-place-requires : goal.into_seat-place-requires
into_seat-place-requires g c =
    one-of c.replace.result.views (ap (λ b. length b.views) c.replace.ensures.value ∙ c.args.seat.now.one.0)

pub stamp_call-requires-clause-tree : goal.stamp_call-requires-clause-tree
stamp_call-requires-clause-tree g c = let o = start g (goal.at.stamp_call-requires-clause-tree g c).After-into_seat-place in o.still.0

pub stamp_call-requires-clause-step : goal.stamp_call-requires-clause-step
stamp_call-requires-clause-step g c =
    let L = layout_in c.args.self.now in let grant = c.args.grant in
    let o = start g (goal.at.stamp_call-requires-clause-step g c).After-into_seat-place in
    subst (λ l. IsStep (served_by g.M.Machine) (known l) (number_in L grant) (g.C.Entered.entered c.args.call.now) (g.A.Entered.entered c.args.reply.now)
    (parcels_in g.N.Node.parcels L grant)) o.is c.requires.step

pub stamp_call-requires-clause-hand : goal.stamp_call-requires-clause-hand
stamp_call-requires-clause-hand g c =
    let o = start g (goal.at.stamp_call-requires-clause-hand g c).After-into_seat-place in
    subst (λ l. HasInHand (served_by g.M.Machine) (known l) (g.C.Entered.entered c.args.call.now) (g.A.Entered.entered c.args.reply.now)) o.is c.requires.hand

pub stamp_call-requires-clause-taken : goal.stamp_call-requires-clause-taken
stamp_call-requires-clause-taken g c =
    let L = layout_in c.args.self.now in
    let o = start g (goal.at.stamp_call-requires-clause-taken g c).After-into_seat-place in
    let v = view_of c.into_seat-place.result.me.0 in
    let parents : c.args.self.now.table.shared.key.value.parents.items ≡ numbers.parents L = search rules in
    subst (λ (ps : List ℕ). (k : ℕ) → 0 < k → k < length ps → Covers ps (number_in L c.args.grant) k → 0 < has_out k v) (o.still.0 ∙ sym parents)
    (λ k pos lt cover. let t = open-taken g.M.Parcel.HasKind.kind L _ _ c.args.seat.now.badge.views _ o k pos lt cover in omega arith)

pub stamp_call-requires-clause-fits : goal.stamp_call-requires-clause-fits
stamp_call-requires-clause-fits g c =
    let L = layout_in c.args.self.now in
    let o = start g (goal.at.stamp_call-requires-clause-fits g c).After-into_seat-place in
    let parents : c.args.self.now.table.shared.key.value.parents.items ≡ numbers.parents L = search rules in
    stamp-fits g.M.Parcel.HasKind.kind L c.args.self.now.layout.lawful (affinity_of (node_of c.args.grant)) c.requires.node
    (view_of c.into_seat-place.result.me.0) o.still
    (parcels_in g.N.Node.parcels L c.args.grant) c.requires.exact c.args.self.now.table.shared.key.value.parents.items parents

pub give_home-place-requires-clause-ready : goal.give_home-place-requires-clause-ready
give_home-place-requires-clause-ready g c =
    let at = goal.at.give_home-place-requires-clause-ready g c in
    let s = stamped g at.After-stamp_call (start g at.After-into_seat-place) in
    let none : c.into_seat-place.result.me.1 ≡ [] = search rules in
    let parents : c.deref.result.now ≡ numbers.parents (layout_in c.args.self.now) = search rules in
    (s.one, c.stamp_call.ensures.seat.1 ∙ none, s.out, s.path, s.tree ∙ sym parents)

pub give_home-place-requires-clause-node : goal.give_home-place-requires-clause-node
give_home-place-requires-clause-node g c = (
  c.requires.node,
  g.met.N.Node.of_kind (layout_in c.args.self.now) (affinity_of (node_of c.args.grant)) (held_in c.args.grant) c.requires.node
      c.requires.exact,
)

pub give_home-place-requires-clause-listed : goal.give_home-place-requires-clause-listed
give_home-place-requires-clause-listed g c =
    let at = goal.at.give_home-place-requires-clause-listed g c in
    (stamped g at.After-stamp_call (start g at.After-into_seat-place)).listed

pub give_home-place-requires-clause-taken : goal.give_home-place-requires-clause-taken
give_home-place-requires-clause-taken g c =
    let at = goal.at.give_home-place-requires-clause-taken g c in
    let s = stamped g at.After-stamp_call (start g at.After-into_seat-place) in
    λ k pos lt cover. s.gathered (number_in (layout_in c.args.self.now) c.args.grant) k s.listed.0 s.listed.1 pos lt cover

pub returns-clause-finished : goal.returns-clause-finished
returns-clause-finished g c = done g (goal.at.returns-clause-finished g c).After-into_badge

pub returns-clause-seat : goal.returns-clause-seat
returns-clause-seat g c =
    let now = (done g (goal.at.returns-clause-seat g c).After-into_badge).3 in (
      search rules,
      seat-still g.M.Parcel.HasKind.kind (layout_in c.args.self.now) (view c.args.seat.now) (known c.into_badge.result.views)
          (ap (λ v. v.tree) now) (ap (λ v. v.first) now) c.requires.seat.1,
    )

pub invariant_of-seat : goal.invariant_of-seat
invariant_of-seat g c =
    let at = goal.at.invariant_of-seat g c in
    let L = layout_in c.args.self.now in let seat = c.args.seat.now in let n = number_in L c.args.grant in
    let s = stamped g at.After-stamp_call (start g at.After-into_seat-place) in
    let badge : c.into_badge.result.views ≡ c.give_home-place.result.me.0 ∷ [] = search rules in
    let e = entry_with g.N.Node.parcels L c.args.grant (g.C.Entered.entered c.args.call.now) (g.A.Entered.entered c.args.reply.now) in
    let full = finished-views (served_by g.M.Machine) (view seat) n e c.give_home-place.result.me.0 c.into_badge.result.views badge
    c.give_home-place.ensures.ended.0 (done g at.After-into_badge) in
    let tree : IsTree (view_of c.stamp_call.new.place.me.0).tree = subst IsTree (sym s.tree) (parents-tree L c.args.self.now.layout.lawful) in
    let gathered = ended-gathered (view_of c.stamp_call.new.place.me.0) (view_of c.give_home-place.result.me.0) n tree s.gathered
    c.give_home-place.ensures.ended.1 c.give_home-place.ensures.apart c.give_home-place.ensures.others in
    let now = sym (ap known badge) ∙ ap known full in
    let b = between _ c.into_badge.result.views seat.splits full (seat.idle.0, seat.idle.1, seat.idle.2, refl) seat.parts
    (subst IsGathered now gathered) (less-apart (view seat).tree (view seat).held n seat.apart) in
    record { one = b.one; idle = b.idle; parts = b.parts; gathered = b.gathered; apart = b.apart }
