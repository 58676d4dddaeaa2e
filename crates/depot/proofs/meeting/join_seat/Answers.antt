use Rattle.std.proofs.Common.{arith, ◌≡◌, ℕ, ◌+◌, ◌∷◌, List, [], length, refl, sym, inl, ap, ◌∙◌, subst}
use lib.ListN.{get_elem?}
use Rattle.depot_rule.specs.declared.view.Entry.{Entry}
use Rattle.depot_rule.specs.declared.view.View.{View}
use Rattle.depot_rule.specs.History.{entries_of}
use Rattle.depot_rule.specs.Sums.{total}
use Rattle.depot_rule.specs.Seats.{view_of, merge}
use Rattle.depot_rule.proofs.Joining.{merges-seats, held-first, held-of, held-second}
use Rattle.depot.specs.Calls.{known}
use Rattle.depot.specs.Words.{served_by, view}
use Rattle.depot.proofs.Apart.{Apart, both-apart}
use Rattle.depot.proofs.Between.{between}
use Rattle.depot.proofs.Holding.{nothing}
use Rattle.depot.proofs.Moves.{one-of}
use Rattle.depot.proofs.Seated.{told, told-of, merged-view, merge-gathered, known-known}
use Rattle.depot.proofs.meeting.join_seat.Given.{Over}
use Rattle.depot.proofs.meeting.join_seat.Goals.{After-into_seat-other, After-into_badge}
use Rattle.depot.proofs.meeting.join_seat.Goals as goal

-- ---- what several goals share

-- what the two seats know once they have met
parted : (g : Over) (c : After-into_seat-other g)
    → (c.into_seat-place.result.me.0 ≡ told (view c.args.first) (view c.args.second) (view c.args.first) ∷ [])
    × (c.into_seat-other.result.me.0 ≡ told (view c.args.first) (view c.args.second) (view c.args.second) ∷ [])
parted g c = (
  told-of c.into_seat-place.ensures.2 c.meet.new.one.one.1 c.meet.ensures.one,
  told-of c.into_seat-other.ensures.2 c.meet.new.other.one.1 c.meet.ensures.other,
)

full : (g : Over) (c : After-into_badge g) (p : (c.into_seat-place.result.me.0 ≡ told (view c.args.first) (view c.args.second) (view c.args.first) ∷ [])
    × (c.into_seat-other.result.me.0 ≡ told (view c.args.first) (view c.args.second) (view c.args.second) ∷ []))
    → c.into_badge.result.views ≡ (merge (view c.args.first) (view c.args.second) ∷ []) ∷ []
full g c p =
    known-known c.into_badge.ensures.2 (merged-view (view c.args.first) (view c.args.second) _ _ _ p.0 p.1 (ap (λ m. m.0) c.join_seat.ensures.2))

-- ---- the answers

pub meet-requires : goal.meet-requires
meet-requires g c = record { table = c.requires.table }

pub into_seat-place-requires : goal.into_seat-place-requires
into_seat-place-requires g c = one-of c.meet.new.one.badge.views c.meet.new.one.one.0

pub into_seat-other-requires : goal.into_seat-other-requires
into_seat-other-requires g c = one-of c.meet.new.other.badge.views c.meet.new.other.one.0

pub join_seat-requires : goal.join_seat-requires
join_seat-requires g c =
    let p = parted g (goal.at.join_seat-requires g c).After-into_seat-other in
    let idle = c.args.second.idle in (
      c.into_seat-place.ensures.0 ∙ (c.meet.ensures.table.0 ∙ c.requires.table.0),
      c.into_seat-other.ensures.0 ∙ (c.meet.ensures.table.1 ∙ c.requires.table.1),
      c.into_seat-other.ensures.3,
      c.requires.table.2,
      merges-seats g.row.M-Parcel.Denot g.row.M-Call.Denot g.row.M-Reply.Denot g.row.M-Batch.Denot g.M.Parcel.HasKind.kind (served_by g.M.Machine)
          c.args.board.now.key.value.parents.items c.args.board.now.key.value.parcels.items
          _ c.into_seat-place.result.me.0 _ c.into_seat-other.result.me.0 (ap length p.0) (ap length p.1)
          (ap (λ us. (view_of us).path) p.1 ∙ nothing (view c.args.second).path idle.2)
          (ap (λ us. (view_of us).unsure) p.1 ∙ idle.0)
          (ap (λ us. (view_of us).out) p.1 ∙ idle.1)
          (ap (λ us. (view_of us).stamped) p.1 ∙ idle.3),
    )

pub into_badge-requires : goal.into_badge-requires
into_badge-requires g c = ap (λ m. m.1) c.join_seat.ensures.2 ∙ c.into_seat-place.ensures.3

pub overflow_add-result : goal.overflow_add-result
overflow_add-result g c =
    let fit = c.meet.ensures.alike.1 in let parts = c.args.first.parts in let other_parts = c.args.second.parts in
    let same = c.meet.ensures.splits in omega arith

pub overflow_add-result-2 : goal.overflow_add-result-2
overflow_add-result-2 g c =
    let fit = c.meet.ensures.alike.1 in let parts = c.args.first.parts in let other_parts = c.args.second.parts in
    let same = c.meet.ensures.splits in omega arith

pub invariant_of-result : goal.invariant_of-result
invariant_of-result g c =
    let at = goal.at.invariant_of-result g c in
    let v = view c.args.first in let w = view c.args.second in
    let a = c.meet.ensures.alike in
    let parts : v.parts ≡ c.args.first.splits + 1 = c.args.first.parts in
    let other_parts : w.parts ≡ c.args.second.splits + 1 = c.args.second.parts in
    let b = between (merge v w) c.into_badge.result.views ((c.meet.new.one.splits + c.meet.new.other.splits) + 1)
    (full g at.After-into_badge (parted g at.After-into_seat-other)) c.args.first.idle
    (omega arith)
    (merge-gathered v w (merge v w).reads a.0 c.args.first.gathered c.args.second.gathered)
    (both-apart v.tree v.held w.held c.args.first.apart (subst (λ (ps : List ℕ). Apart ps w.held) (sym a.0) c.args.second.apart) a.2) in
    record { one = b.one; idle = b.idle; parts = b.parts; gathered = b.gathered; apart = b.apart }

pub returns-clause-table : goal.returns-clause-table
returns-clause-table g c = c.into_badge.ensures.0 ∙ (c.join_seat.ensures.0 ∙ (c.into_seat-place.ensures.0 ∙ c.meet.ensures.table.0))

pub returns-clause-joined : goal.returns-clause-joined
returns-clause-joined g c =
    let at = goal.at.returns-clause-joined g c in ap known (full g at.After-into_badge (parted g at.After-into_seat-other))

pub returns-clause-splits : goal.returns-clause-splits
returns-clause-splits g c = let same = c.meet.ensures.splits in omega arith

pub returns-clause-apart : goal.returns-clause-apart
returns-clause-apart g c = c.meet.ensures.alike.2

pub returns-clause-one_history : goal.returns-clause-one_history
returns-clause-one_history g c = c.meet.ensures.one_history

pub returns-clause-entries : goal.returns-clause-entries
returns-clause-entries g c =
    λ weigh. ap (λ (u : View g.row.M-Parcel.Denot (Entry g.row.M-Parcel.Denot g.row.M-Call.Denot g.row.M-Reply.Denot)). total weigh (entries_of u))
    (returns-clause-joined g c) ∙ c.meet.ensures.alike.3.2 weigh

pub returns-clause-grants : goal.returns-clause-grants
returns-clause-grants g c =
    let v = view c.args.first in let w = view c.args.second in
    let joined = returns-clause-joined g c in
    let apart = returns-clause-apart g c in (
      λ b h has. ap (λ u. get_elem? u.held b) joined ∙ held-first v.held w.held b h has,
      λ b h has. ap (λ u. get_elem? u.held b) joined ∙ held-second v.held w.held b h (λ i x y e f. apart i i x y e f (inl refl)) has,
    )

pub returns-clause-no_other : goal.returns-clause-no_other
returns-clause-no_other g c = λ b h has.
    held-of (view c.args.first).held (view c.args.second).held b h (sym (ap (λ u. get_elem? u.held b) (returns-clause-joined g c)) ∙ has)
