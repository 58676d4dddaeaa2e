use Rattle.std.proofs.Common.{rules, ◌≡◌, ◌<◌, ◌∷◌, ℕ, List, [], length, refl, sym, ap, ◌∙◌, subst, arith}
use Rattle.affinity.specs.Affinity.{affinity_of}
use Rattle.affinity.specs.Ancestors.{Covers}
use Rattle.affinity.specs.Numbers as numbers
use Rattle.depot_rule.specs.Parcels.{has_out}
use Rattle.depot_rule.specs.Shares.{worn}
use Rattle.depot_rule.specs.Seats.{view_of}
use Rattle.depot_rule.proofs.Places.{one-view}
use Rattle.depot_rule.proofs.Looking.{looks}
use Rattle.depot.specs.Calls.{known}
use Rattle.depot.specs.Grants.{IsStep, HasInHand}
use Rattle.depot.specs.Words.{served_by, view, layout_in, node_of, number_in, parcels_in, entry_with}
use Rattle.depot.proofs.Moves.{one-of, placed-one}
use Rattle.depot.proofs.Between.{between}
use Rattle.depot.proofs.Begun.{some-parents, HasLookedAt, looked-at, idle-as, seat-still}
use Rattle.depot.proofs.Ended.{stamp-fits}
use Rattle.depot.proofs.Renewed.{HasStopped, stopped, HasRenewed, goes-on}
use Rattle.depot.proofs.depot.Depot.go_on.Given.{Over}
use Rattle.depot.proofs.depot.Depot.go_on.Goals.{After-load-ticket, After-into_badge, After-into_badge-2}
use Rattle.depot.proofs.depot.Depot.go_on.Goals as goal

-- ---- what several goals share

below-worn : (ticket : ℕ) → ticket < 4611686018427387903 → ticket < worn
below-worn ticket lt = omega arith

looked : (g : Over) (c : After-load-ticket g) → HasLookedAt (view c.args.seat.now) c.load-ticket.result c.load-ticket.new.seat.me.0
looked g c =
    let is = sym (ap (λ b. b.views) c.replace.ensures.value) ∙ c.into_seat-place.ensures.2 in
    looked-at _ c.args.seat.now.badge.views c.into_seat-place.result.me.0 c.load-ticket.new.seat.me.0 c.load-ticket.result is c.args.seat.now.one.1
    c.load-ticket.ensures.2.0

stop : (g : Over) (c : After-into_badge g) → HasStopped (view c.args.seat.now) c.into_badge.result.views
stop g c =
    let seat = c.args.seat.now in
    let is = sym (ap (λ b. b.views) c.replace.ensures.value) ∙ c.into_seat-place.ensures.2 in
    let look = looked-at _ seat.badge.views c.into_seat-place.result.me.0 c.load-ticket.new.seat.me.0 c.load-ticket.result is seat.one.1
    c.load-ticket.ensures.2.0 in
    let badge : c.into_badge.result.views ≡ c.load-ticket.new.seat.me.0 ∷ [] = search rules in
    stopped (view seat) c.load-ticket.result c.load-ticket.new.seat.me.0 c.into_badge.result.views badge c.if-ticket.true look seat.gathered seat.apart

gone : (g : Over) (c : After-into_badge-2 g) → HasRenewed (served_by g.M.Machine) (view c.args.seat.now)
    (number_in (layout_in c.args.self.now) c.args.grant.now)
    (parcels_in g.N.Node.parcels (layout_in c.args.self.now) c.args.grant.now)
    (entry_with g.N.Node.parcels (layout_in c.args.self.now) c.args.grant.now (g.C.Entered.entered c.args.call.now) (g.A.Entered.entered c.args.reply.now))
    c.into_badge-2.result.views
gone g c =
    let seat = c.args.seat.now in
    let L = layout_in c.args.self.now in
    let is = sym (ap (λ b. b.views) c.replace.ensures.value) ∙ c.into_seat-place.ensures.2 in
    let look = looked-at _ seat.badge.views c.into_seat-place.result.me.0 c.load-ticket.new.seat.me.0 c.load-ticket.result is seat.one.1
    c.load-ticket.ensures.2.0 in
    let low = below-worn c.load-ticket.result c.if-ticket.false in
    let badge : c.into_badge-2.result.views ≡ c.renew.new.place.me.0 ∷ [] = search rules in
    goes-on (served_by g.M.Machine) g.M.Parcel.HasKind.kind L c.args.self.now.layout.lawful (affinity_of (node_of c.args.grant.now)) c.requires.node
    (view seat) c.requires.seat.1 c.requires.step.0 (parcels_in g.N.Node.parcels L c.args.grant.now) c.requires.step.1 c.requires.exact
    (g.C.Entered.entered c.args.call.now) (g.A.Entered.entered c.args.reply.now) seat.idle.3 seat.gathered seat.apart c.load-ticket.result
    c.stamp_call.ensures.stamped.0 c.renew.result
    c.load-ticket.new.seat.me.0 c.stamp_call.new.place.me.0 c.renew.new.place.me.0 c.into_badge-2.result.views
    (look.0 low) c.if-ticket.false look.2 c.stamp_call.ensures.stamped.1 c.renew.ensures.renewed badge

-- ---- the answers

pub into_seat-place-requires : goal.into_seat-place-requires
into_seat-place-requires g c =
    one-of c.replace.result.views (ap (λ b. length b.views) c.replace.ensures.value ∙ c.args.seat.now.one.0)

pub load-ticket-requires : goal.load-ticket-requires
load-ticket-requires g c =
    let key = c.args.self.now.table.shared.key.value in
    let is = sym (ap (λ b. b.views) c.replace.ensures.value) ∙ c.into_seat-place.ensures.2 in
    let words : c.args.self.now.table.shared.table_id.words ≡ length (numbers.parents (layout_in c.args.self.now)) = search rules in (
      search rules,
      subst (λ (n : ℕ). 0 < n) (sym words) (some-parents (layout_in c.args.self.now)),
      looks g.row.M-Parcel.Denot g.row.M-Call.Denot g.row.M-Reply.Denot g.row.M-Batch.Denot g.M.Parcel.HasKind.kind (served_by g.M.Machine)
          key.parents.items key.parcels.items
          _ _ c.into_seat-place.result.me (view_of c.into_seat-place.result.me.0)
          (one-view c.into_seat-place.result.me.0 (placed-one is c.args.seat.now.one.1)),
    )

pub stamp_call-requires-clause-one : goal.stamp_call-requires-clause-one
stamp_call-requires-clause-one g c =
    let look = looked g (goal.at.stamp_call-requires-clause-one g c).After-load-ticket in
    let low = below-worn c.load-ticket.result c.if-ticket.false in
    let now = look.0 low in (ap length now, ap (λ us. (view_of us).stamped) now ∙ c.args.seat.now.idle.3)

pub stamp_call-requires-clause-tree : goal.stamp_call-requires-clause-tree
stamp_call-requires-clause-tree g c =
    let look = looked g (goal.at.stamp_call-requires-clause-tree g c).After-load-ticket in
    let low = below-worn c.load-ticket.result c.if-ticket.false in ap (λ us. (view_of us).tree) (look.0 low) ∙ c.requires.seat.1.0

pub stamp_call-requires-clause-step : goal.stamp_call-requires-clause-step
stamp_call-requires-clause-step g c =
    let L = layout_in c.args.self.now in
    let look = looked g (goal.at.stamp_call-requires-clause-step g c).After-load-ticket in
    let low = below-worn c.load-ticket.result c.if-ticket.false in
    subst (λ us. IsStep (served_by g.M.Machine) (view_of us) (number_in L c.args.grant.now) (g.C.Entered.entered c.args.call.now)
    (g.A.Entered.entered c.args.reply.now) (parcels_in g.N.Node.parcels L c.args.grant.now)) (sym (look.0 low)) c.requires.step

pub stamp_call-requires-clause-hand : goal.stamp_call-requires-clause-hand
stamp_call-requires-clause-hand g c =
    let look = looked g (goal.at.stamp_call-requires-clause-hand g c).After-load-ticket in
    let low = below-worn c.load-ticket.result c.if-ticket.false in
    subst (λ us. HasInHand (served_by g.M.Machine) (view_of us) (g.C.Entered.entered c.args.call.now) (g.A.Entered.entered c.args.reply.now))
    (sym (look.0 low)) c.requires.hand

pub stamp_call-requires-clause-taken : goal.stamp_call-requires-clause-taken
stamp_call-requires-clause-taken g c =
    let seat = c.args.seat.now in let n : ℕ = number_in (layout_in c.args.self.now) c.args.grant.now in
    let look = looked g (goal.at.stamp_call-requires-clause-taken g c).After-load-ticket in
    let low = below-worn c.load-ticket.result c.if-ticket.false in
    let tree : List ℕ = c.args.self.now.table.shared.key.value.parents.items in
    let parents : tree ≡ numbers.parents (layout_in c.args.self.now) = search rules in
    let same : tree ≡ (view seat).tree = parents ∙ sym c.requires.seat.1.0 in
    let grant = c.requires.step.1 in
    subst (λ us. (k : ℕ) → 0 < k → k < length tree → Covers tree n k → 0 < has_out k (view_of us)) (sym (look.0 low)) (λ k pos lt cover.
    let lt_own : k < length (view seat).tree = subst (λ (ps : List ℕ). k < length ps) same lt in
    let out = seat.gathered n k grant.0 grant.1 pos lt_own (subst (λ (ps : List ℕ). Covers ps n k) same cover) in omega arith)

pub stamp_call-requires-clause-fits : goal.stamp_call-requires-clause-fits
stamp_call-requires-clause-fits g c =
    let seat = c.args.seat.now in
    let L = layout_in c.args.self.now in
    let look = looked g (goal.at.stamp_call-requires-clause-fits g c).After-load-ticket in
    let low = below-worn c.load-ticket.result c.if-ticket.false in
    let now = look.0 low in
    let still = seat-still g.M.Parcel.HasKind.kind L (view seat) (view_of c.load-ticket.new.seat.me.0) (ap (λ us. (view_of us).tree) now)
    (ap (λ us. (view_of us).first) now) c.requires.seat.1 in
    let parents : c.args.self.now.table.shared.key.value.parents.items ≡ numbers.parents L = search rules in
    stamp-fits g.M.Parcel.HasKind.kind L c.args.self.now.layout.lawful (affinity_of (node_of c.args.grant.now)) c.requires.node
    (view_of c.load-ticket.new.seat.me.0) still
    (parcels_in g.N.Node.parcels L c.args.grant.now) c.requires.exact c.args.self.now.table.shared.key.value.parents.items parents

pub invariant_of-seat : goal.invariant_of-seat
invariant_of-seat g c =
    let seat = c.args.seat.now in
    let s = stop g (goal.at.invariant_of-seat g c).After-into_badge in
    let b = between s.now c.into_badge.result.views seat.splits s.full (idle-as (view seat) s.now s.idle seat.idle) (s.idle.4 ∙ seat.parts)
    s.gathered s.apart in
    record { one = b.one; idle = b.idle; parts = b.parts; gathered = b.gathered; apart = b.apart }

pub returns-then-ticket-clause-seat : goal.returns-then-ticket-clause-seat
returns-then-ticket-clause-seat g c =
    let s = stop g (goal.at.returns-then-ticket-clause-seat g c).After-into_badge in (
      search rules,
      seat-still g.M.Parcel.HasKind.kind (layout_in c.args.self.now) (view c.args.seat.now) (known c.into_badge.result.views)
          (ap (λ l. (known l).tree) s.full ∙ s.idle.5) (ap (λ l. (known l).first) s.full ∙ s.idle.6) c.requires.seat.1,
    )

pub returns-then-ticket-clause-refused : goal.returns-then-ticket-clause-refused
returns-then-ticket-clause-refused g c =
    let s = stop g (goal.at.returns-then-ticket-clause-refused g c).After-into_badge in (refl, s.last)

pub renew-requires-clause-one : goal.renew-requires-clause-one
renew-requires-clause-one g c =
    let look = looked g (goal.at.renew-requires-clause-one g c).After-load-ticket in
    let low = below-worn c.load-ticket.result c.if-ticket.false in
    let stamped = c.stamp_call.ensures.stamped.1.1 in
    (ap length stamped, ap (λ us. (view_of us).looked) stamped ∙ ap (λ us. (view_of us).looked) (look.0 low))

pub invariant_of-seat-2 : goal.invariant_of-seat-2
invariant_of-seat-2 g c =
    let seat = c.args.seat.now in
    let s = gone g (goal.at.invariant_of-seat-2 g c).After-into_badge-2 in
    let b = between s.now c.into_badge-2.result.views seat.splits s.full (idle-as (view seat) s.now s.idle seat.idle) (s.idle.4 ∙ seat.parts)
    s.gathered s.apart in
    record { one = b.one; idle = b.idle; parts = b.parts; gathered = b.gathered; apart = b.apart }

pub returns-clause-seat : goal.returns-clause-seat
returns-clause-seat g c =
    let s = gone g (goal.at.returns-clause-seat g c).After-into_badge-2 in (
      search rules,
      seat-still g.M.Parcel.HasKind.kind (layout_in c.args.self.now) (view c.args.seat.now) (known c.into_badge-2.result.views)
          (ap (λ l. (known l).tree) s.full ∙ s.idle.5) (ap (λ l. (known l).first) s.full ∙ s.idle.6) c.requires.seat.1,
    )

pub returns-clause-gone_on : goal.returns-clause-gone_on
returns-clause-gone_on g c =
    let s = gone g (goal.at.returns-clause-gone_on g c).After-into_badge-2 in s.gone_on
