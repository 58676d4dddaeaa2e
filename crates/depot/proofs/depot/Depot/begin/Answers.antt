use Rattle.std.proofs.Common.{rules, ◌≡◌, ◌<◌, ◌∷◌, ℕ, [], length, sym, ap, ◌∙◌, subst}
use Rattle.affinity.specs.Affinity.{affinity_of}
use Rattle.affinity.specs.Ancestors.{IsTree}
use Rattle.affinity.specs.Numbers as numbers
use Rattle.affinity.specs.lemmas.Standing.{parents-tree, number-place}
use Rattle.depot_rule.specs.declared.view.Read.{Read}
use Rattle.depot_rule.specs.History.{listed}
use Rattle.depot_rule.specs.Seats.{view_of}
use Rattle.depot_rule.proofs.Places.{one-view}
use Rattle.depot_rule.proofs.Looking.{looks}
use Rattle.depot.specs.Calls.{known}
use Rattle.depot.specs.Words.{served_by, view, layout_in, number_at}
use Rattle.depot.specs.Grants.{IsBegun, IsAfter}
use Rattle.depot.proofs.Moves.{placed-one, one-of}
use Rattle.depot.proofs.Holding.{nothing}
use Rattle.depot.proofs.Home.{none-left}
use Rattle.depot.proofs.Between.{between}
use Rattle.depot.proofs.Begun.{some-parents, refuses-node, seat-still, idle-as, all-there}
use Rattle.depot.proofs.Begun.{HasLookedAt, looked-at, worn-so, GrantedAfter, granted-after, HasBegun, begun-all, RefusedAfter, refused-after, busy-so}
use Rattle.depot.proofs.depot.Depot.begin.Given.{Over}
use Rattle.depot.proofs.depot.Depot.begin.Goals.{After-load-ticket, In-Ok, In-Err, After-into_badge-in-Ok}
use Rattle.depot.proofs.depot.Depot.begin.Goals as goal

-- ---- what several goals share

abbrev ticket : ℕ → Read
ticket found = record { word = 0; value = found; shares = 0 }

looked : (g : Over) (c : After-load-ticket g) → HasLookedAt (view c.args.seat.now) c.load-ticket.result c.load-ticket.new.seat.me.0
looked g c =
    let is = sym (ap (λ b. b.views) c.replace.ensures.value) ∙ c.into_seat-place.ensures.2 in
    looked-at _ c.args.seat.now.badge.views c.into_seat-place.result.me.0 c.load-ticket.new.seat.me.0 c.load-ticket.result is c.args.seat.now.one.1
    c.load-ticket.ensures.2.0

granted : (g : Over) (c : In-Ok g) → GrantedAfter g.M.Parcel.HasKind.kind (view c.args.seat.now) c.number_of-node.result
    (λ u l. IsAfter (served_by g.M.Machine) u c.number_of-node.result (listed l)) (ticket c.load-ticket.result) c.try_claim.new.place.me.0
granted g c =
    let is = sym (ap (λ b. b.views) c.replace.ensures.value) ∙ c.into_seat-place.ensures.2 in
    let low = c.if-ticket-ge-WORN.false in
    let look = looked-at _ c.args.seat.now.badge.views c.into_seat-place.result.me.0 c.load-ticket.new.seat.me.0 c.load-ticket.result is
    c.args.seat.now.one.1 c.load-ticket.ensures.2.0 in
    granted-after g.M.Parcel.HasKind.kind (view c.args.seat.now) c.number_of-node.result
    (λ u l. IsAfter (served_by g.M.Machine) u c.number_of-node.result (listed l)) (λ rs l x. x)
    (ticket c.load-ticket.result) c.load-ticket.new.seat.me.0 c.try_claim.new.place.me.0 (look.0 low) c.in-Ok.ensures.granted

refused : (g : Over) (c : In-Err g) → RefusedAfter (view c.args.seat.now) c.deref.result.now c.number_of-node.result c.in-Err.busy.node c.in-Err.busy.word
    (ticket c.load-ticket.result) c.try_claim.new.place.me.0
refused g c =
    let is = sym (ap (λ b. b.views) c.replace.ensures.value) ∙ c.into_seat-place.ensures.2 in
    let low = c.if-ticket-ge-WORN.false in
    let look = looked-at _ c.args.seat.now.badge.views c.into_seat-place.result.me.0 c.load-ticket.new.seat.me.0 c.load-ticket.result is
    c.args.seat.now.one.1 c.load-ticket.ensures.2.0 in
    refused-after (view c.args.seat.now) c.deref.result.now c.number_of-node.result c.in-Err.busy.node c.in-Err.busy.word (ticket c.load-ticket.result)
    c.load-ticket.new.seat.me.0 c.try_claim.new.place.me.0 (nothing (view c.args.seat.now).path c.args.seat.now.idle.2) (look.0 low) c.in-Err.ensures.refused

begun : (g : Over) (c : After-into_badge-in-Ok g) (q : GrantedAfter g.M.Parcel.HasKind.kind (view c.args.seat.now) c.number_of-node.result
    (λ u l. IsAfter (served_by g.M.Machine) u c.number_of-node.result (listed l)) (ticket c.load-ticket.result) c.try_claim.new.place.me.0)
    → HasBegun (view c.args.seat.now) c.number_of-node.result (g.N.Node.parcels (layout_in c.args.self.now) (affinity_of c.args.affinity)
    c.gather-held.result) q.0.0 c.into_badge-in-Ok.result.views
begun g c q =
    let L = layout_in c.args.self.now in
    let is = sym (ap (λ b. b.views) c.replace.ensures.value) ∙ c.into_seat-place.ensures.2 in
    let low = c.if-ticket-ge-WORN.false in
    let look = looked-at _ c.args.seat.now.badge.views c.into_seat-place.result.me.0 c.load-ticket.new.seat.me.0 c.load-ticket.result is
    c.args.seat.now.one.1 c.load-ticket.ensures.2.0 in
    let badge : c.into_badge-in-Ok.result.views ≡ c.gather-held.new.shelf.place.me.0 ∷ [] = search rules in
    begun-all g.M.Parcel.HasKind.kind L c.args.self.now.layout.lawful (affinity_of c.args.affinity) c.requires.node.0 (view c.args.seat.now) c.requires.seat.1
    c.number_of-node.result c.number_of-node.ensures.number q.0.0 q.0.1 c.try_claim.new.place.me.0 q.0.2
    (g.N.Node.parcels L (affinity_of c.args.affinity) c.gather-held.result) c.gather-held.ensures.exact c.gather-held.new.shelf.node
    c.gather-held.ensures.kept.0
    c.gather-held.new.shelf.place.me.0 c.gather-held.ensures.moved c.gather-held.ensures.kept.2
    q.1 c.load-ticket.result low look.2 q.2 c.args.seat.now.gathered c.args.seat.now.apart c.into_badge-in-Ok.result.views badge

-- ---- the answers

pub into_seat-place-requires : goal.into_seat-place-requires
into_seat-place-requires g c =
    one-of c.replace.result.views (ap (λ b. length b.views) c.replace.ensures.value ∙ c.args.seat.now.one.0)

pub load-ticket-requires : goal.load-ticket-requires
load-ticket-requires g c =
    let key = c.args.self.now.table.shared.key.value in
    let is = sym (ap (λ b. b.views) c.replace.ensures.value) ∙ c.into_seat-place.ensures.2 in
    let words : c.args.self.now.table.shared.table_id.words ≡ length (numbers.parents (layout_in c.args.self.now)) = search rules in (
      search rules,
      subst (λ (n : ℕ). 0 < n) (sym words) (some-parents (layout_in c.args.self.now)),
      looks g.row.M-Parcel.Denot g.row.M-Call.Denot g.row.M-Reply.Denot g.row.M-Batch.Denot g.M.Parcel.HasKind.kind (served_by g.M.Machine)
          key.parents.items key.parcels.items
          _ _ c.into_seat-place.result.me (view_of c.into_seat-place.result.me.0)
          (one-view c.into_seat-place.result.me.0 (placed-one is c.args.seat.now.one.1)),
    )

pub invariant_of-seat : goal.invariant_of-seat
invariant_of-seat g c =
    let seat = c.args.seat.now in
    let badge : c.into_badge.result.views ≡ c.load-ticket.new.seat.me.0 ∷ [] = search rules in
    let full = badge ∙ ap (λ us. us ∷ []) ((looked g (goal.at.invariant_of-seat g c).After-load-ticket).1 c.if-ticket-ge-WORN.true) in
    let s = between _ c.into_badge.result.views seat.splits full seat.idle seat.parts seat.gathered seat.apart in
    record { one = s.one; idle = s.idle; parts = s.parts; gathered = s.gathered; apart = s.apart }

pub returns-then-ticket-ge-WORN-clause-seat : goal.returns-then-ticket-ge-WORN-clause-seat
returns-then-ticket-ge-WORN-clause-seat g c =
    let look = looked g (goal.at.returns-then-ticket-ge-WORN-clause-seat g c).After-load-ticket in
    let badge : c.into_badge.result.views ≡ c.load-ticket.new.seat.me.0 ∷ [] = search rules in
    let now = ap known badge ∙ ap view_of (look.1 c.if-ticket-ge-WORN.true) in (
      search rules,
      seat-still g.M.Parcel.HasKind.kind (layout_in c.args.self.now) (view c.args.seat.now) (known c.into_badge.result.views)
          (ap (λ v. v.tree) now) (ap (λ v. v.first) now) c.requires.seat.1,
    )

pub returns-then-ticket-ge-WORN-clause-refused : goal.returns-then-ticket-ge-WORN-clause-refused
returns-then-ticket-ge-WORN-clause-refused g c =
    let look = looked g (goal.at.returns-then-ticket-ge-WORN-clause-refused g c).After-load-ticket in
    let badge : c.into_badge.result.views ≡ c.load-ticket.new.seat.me.0 ∷ [] = search rules in
    worn-so (view c.args.seat.now) c.load-ticket.result c.into_badge.result.views c.load-ticket.new.seat.me.0 badge c.if-ticket-ge-WORN.true
    (look.1 c.if-ticket-ge-WORN.true) look.2

pub try_claim-requires-clause-table : goal.try_claim-requires-clause-table
try_claim-requires-clause-table g c =
    let L = layout_in c.args.self.now in
    let words : c.args.self.now.table.shared.table_id.words ≡ length (numbers.parents L) = search rules in
    let place = number-place L (affinity_of c.args.affinity) c.requires.node.0 in
    (search rules, subst (λ (x : ℕ × ℕ). x.0 < x.1) (λ i. (sym c.number_of-node.ensures.number i, sym words i)) place.1, search rules)

pub try_claim-requires-clause-tree : goal.try_claim-requires-clause-tree
try_claim-requires-clause-tree g c =
    let parent : c.deref.result.now ≡ numbers.parents (layout_in c.args.self.now) = search rules in
    (search rules, subst IsTree (sym parent) (parents-tree (layout_in c.args.self.now) c.args.self.now.layout.lawful))

pub try_claim-requires-clause-ready : goal.try_claim-requires-clause-ready
try_claim-requires-clause-ready g c =
    let seat = c.args.seat.now in
    let low = c.if-ticket-ge-WORN.false in
    let parent : c.deref.result.now ≡ numbers.parents (layout_in c.args.self.now) = search rules in
    let place = number-place (layout_in c.args.self.now) (affinity_of c.args.affinity) c.requires.node.0 in
    let look = (looked g (goal.at.try_claim-requires-clause-ready g c).After-load-ticket).0 low in (
      ap length look,
      subst (λ (n : ℕ). 0 < n) (sym c.number_of-node.ensures.number) place.0,
      ap (λ us. (view_of us).unsure) look ∙ seat.idle.0,
      ap (λ us. (view_of us).path) look ∙ nothing (view seat).path seat.idle.2,
      ap (λ us. (view_of us).tree) look ∙ (c.requires.seat.1.0 ∙ sym parent),
      ap (λ us. (view_of us).looked) look,
    )

pub invariant_of-hold : goal.invariant_of-hold
invariant_of-hold g c =
    let depot = c.args.self.now in let seat = c.args.seat.now in
    let claimed = (granted g (goal.at.invariant_of-hold g c).In-Ok).0.2.0 in
    let place = c.into_seat-place.ensures.0 ∙ (ap (λ b. b.table_id) c.replace.ensures.value ∙ c.requires.seat.0) in
    record {
      table = (c.try_claim.ensures.seat.0 ∙ (c.load-ticket.ensures.0 ∙ place), depot.words ∙ ap length depot.tree);
      one = (
        ap length claimed,
        ap length (c.try_claim.ensures.seat.1 ∙ (c.load-ticket.ensures.2.1 ∙ c.into_seat-place.ensures.3)),
      );
      free = ap (λ us. (view_of us).out) claimed ∙ seat.idle.1;
      tree = ap (λ us. (view_of us).tree) claimed ∙ (c.requires.seat.1.0 ∙ (sym depot.layout_tree ∙ depot.tree));
    }

pub into_badge-requires-in-Ok : goal.into_badge-requires-in-Ok
into_badge-requires-in-Ok g c = none-left c.gather-held.new.shelf.place.me.1 c.gather-held.new.shelf.one.1

pub returns-in-Ok-clause-exact : goal.returns-in-Ok-clause-exact
returns-in-Ok-clause-exact g c = c.gather-held.ensures.exact

pub gather-held-requires-clause-there : goal.gather-held-requires-clause-there
gather-held-requires-clause-there g c =
    let q = granted g (goal.at.gather-held-requires-clause-there g c).In-Ok in
    all-there g.M.Parcel.HasKind.kind (layout_in c.args.self.now) c.args.self.now.layout.lawful (affinity_of c.args.affinity) c.requires.node.0
    (view c.args.seat.now) c.requires.seat.1
    c.number_of-node.result c.number_of-node.ensures.number q.0.0 q.0.1 c.try_claim.new.place.me.0 q.0.2

pub invariant_of-seat-in-Ok : goal.invariant_of-seat-in-Ok
invariant_of-seat-in-Ok g c =
    let at = goal.at.invariant_of-seat-in-Ok g c in
    let seat = c.args.seat.now in
    let h = begun g at.After-into_badge-in-Ok (granted g at.In-Ok) in
    let s = between h.now c.into_badge-in-Ok.result.views seat.splits h.full (idle-as (view seat) h.now h.idle seat.idle) (h.idle.4 ∙ seat.parts)
    h.gathered h.apart in
    record { one = s.one; idle = s.idle; parts = s.parts; gathered = s.gathered; apart = s.apart }

pub returns-in-Ok-clause-seat : goal.returns-in-Ok-clause-seat
returns-in-Ok-clause-seat g c =
    let at = goal.at.returns-in-Ok-clause-seat g c in
    let h = begun g at.After-into_badge-in-Ok (granted g at.In-Ok) in (
      search rules,
      seat-still g.M.Parcel.HasKind.kind (layout_in c.args.self.now) (view c.args.seat.now) (known c.into_badge-in-Ok.result.views)
          (ap (λ v. v.tree) h.begun.3) (ap (λ v. v.first) h.begun.3) c.requires.seat.1,
    )

pub returns-in-Ok-clause-granted : goal.returns-in-Ok-clause-granted
returns-in-Ok-clause-granted g c =
    let at = goal.at.returns-in-Ok-clause-granted g c in
    let h = begun g at.After-into_badge-in-Ok (granted g at.In-Ok) in
    let f = g.N.Node.parcels (layout_in c.args.self.now) (affinity_of c.args.affinity) c.gather-held.result in
    subst (λ (n : ℕ). IsBegun (view c.args.seat.now) n f (known c.into_badge-in-Ok.result.views)) c.number_of-node.ensures.number h.begun

pub returns-in-Ok-clause-after : goal.returns-in-Ok-clause-after
returns-in-Ok-clause-after g c =
    let at = goal.at.returns-in-Ok-clause-after g c in
    let q = granted g at.In-Ok in
    let h = begun g at.After-into_badge-in-Ok q in
    let seen = q.0.3 in
    let f = g.N.Node.parcels (layout_in c.args.self.now) (affinity_of c.args.affinity) c.gather-held.result in
    subst (λ (n : ℕ). IsAfter (served_by g.M.Machine) (view c.args.seat.now) n f) c.number_of-node.ensures.number
    (seen.0, seen.1, seen.2, seen.3, λ k pos lt cover. sym (h.lists k pos lt cover) ∙ seen.4 k pos lt cover)

pub invariant_of-seat-in-Err : goal.invariant_of-seat-in-Err
invariant_of-seat-in-Err g c =
    let seat = c.args.seat.now in
    let q = refused g (goal.at.invariant_of-seat-in-Err g c).In-Err in
    let badge : c.into_badge-in-Err.result.views ≡ c.try_claim.new.place.me.0 ∷ [] = search rules in
    let s = between _ c.into_badge-in-Err.result.views seat.splits (badge ∙ ap (λ us. us ∷ []) q.1) seat.idle seat.parts seat.gathered seat.apart in
    record { one = s.one; idle = s.idle; parts = s.parts; gathered = s.gathered; apart = s.apart }

pub affinity_at-requires-clause-positive : goal.affinity_at-requires-clause-positive
affinity_at-requires-clause-positive g c =
    let q = refused g (goal.at.affinity_at-requires-clause-positive g c).In-Err in
    let parent : c.deref.result.now ≡ numbers.parents (layout_in c.args.self.now) = search rules in
    (refuses-node (layout_in c.args.self.now) (affinity_of c.args.affinity) c.deref.result.now c.number_of-node.result c.in-Err.busy.node c.in-Err.busy.word
    c.args.self.now.layout.lawful c.requires.node.0 parent c.number_of-node.ensures.number q.3).0

pub affinity_at-requires-clause-within : goal.affinity_at-requires-clause-within
affinity_at-requires-clause-within g c =
    let q = refused g (goal.at.affinity_at-requires-clause-within g c).In-Err in
    let parent : c.deref.result.now ≡ numbers.parents (layout_in c.args.self.now) = search rules in
    (refuses-node (layout_in c.args.self.now) (affinity_of c.args.affinity) c.deref.result.now c.number_of-node.result c.in-Err.busy.node c.in-Err.busy.word
    c.args.self.now.layout.lawful c.requires.node.0 parent c.number_of-node.ensures.number q.3).1

pub returns-in-Err-clause-seat : goal.returns-in-Err-clause-seat
returns-in-Err-clause-seat g c =
    let q = refused g (goal.at.returns-in-Err-clause-seat g c).In-Err in
    let badge : c.into_badge-in-Err.result.views ≡ c.try_claim.new.place.me.0 ∷ [] = search rules in
    let now = ap known badge ∙ ap view_of q.1 in (
      search rules,
      seat-still g.M.Parcel.HasKind.kind (layout_in c.args.self.now) (view c.args.seat.now) (known c.into_badge-in-Err.result.views)
          (ap (λ v. v.tree) now) (ap (λ v. v.first) now) c.requires.seat.1,
    )

pub returns-in-Err-clause-refused : goal.returns-in-Err-clause-refused
returns-in-Err-clause-refused g c =
    let at = goal.at.returns-in-Err-clause-refused g c in
    let L = layout_in c.args.self.now in
    let badge : c.into_badge-in-Err.result.views ≡ c.try_claim.new.place.me.0 ∷ [] = search rules in
    let parent : c.deref.result.now ≡ numbers.parents L = search rules in
    let low = c.if-ticket-ge-WORN.false in (
      c.affinity_at.ensures.node,
      busy-so L (view c.args.seat.now) c.deref.result.now c.number_of-node.result c.in-Err.busy.node c.in-Err.busy.word (number_at L c.args.affinity)
          (number_at L c.affinity_at.result)
          c.try_claim.new.place.me.0 c.into_badge-in-Err.result.views c.load-ticket.result low (looked g at.After-load-ticket).2
          parent c.number_of-node.ensures.number c.affinity_at.ensures.number badge (refused g at.In-Err),
    )
