use Rattle.std.proofs.Common.{rules, arith, ◌≡◌, ◌+◌, length, sym, ap, ◌∙◌, subst}
use Rattle.depot_rule.specs.Seats.{fresh, view_of}
use Rattle.depot_rule.proofs.Joining.{splits-seat}
use Rattle.depot.specs.Calls.{own_views, known}
use Rattle.depot.specs.Holds.{IsGathered, IsApart}
use Rattle.depot.specs.Words.{served_by}
use Rattle.depot.proofs.Moves.{one-of}
use Rattle.depot.proofs.Apart.{none-apart}
use Rattle.depot.proofs.Seated.{fresh-gathered}
use Rattle.depot.proofs.meeting.split_seat.Goals as goal

pub into_seat-place-requires : goal.into_seat-place-requires
into_seat-place-requires g c =
    one-of c.args.seat.badge.views c.args.seat.one.0

pub split_seat-second-requires : goal.split_seat-second-requires
split_seat-second-requires g c =
    let is = c.into_seat-place.ensures.2 in
    let one : length c.into_seat-place.result.me.0 ≡ 1 = sym (ap (λ l. length (own_views l)) is) ∙ c.args.seat.one.1 in
    let parts : (view_of c.into_seat-place.result.me.0).parts ≡ c.args.seat.splits + 1 = sym (ap (λ l. (known l).parts) is) ∙ c.args.seat.parts in (
      search rules,
      search rules,
      splits-seat g.row.M-Parcel.Denot g.row.M-Call.Denot g.row.M-Reply.Denot g.row.M-Batch.Denot g.M.Parcel.HasKind.kind (served_by g.M.Machine)
          c.args.board.now.key.value.parents.items c.args.board.now.key.value.parcels.items
          _ c.into_seat-place.result.me.0 one (omega arith),
    )

pub invariant_of-result-2-clause-gathered : goal.invariant_of-result-2-clause-gathered
invariant_of-result-2-clause-gathered g c =
    let is : known c.into_badge-2.result.views ≡ fresh (known c.args.seat.badge.views) = search rules in
    subst IsGathered (sym is) (fresh-gathered (known c.args.seat.badge.views))

pub invariant_of-result-2-clause-apart : goal.invariant_of-result-2-clause-apart
invariant_of-result-2-clause-apart g c =
    let is : known c.into_badge-2.result.views ≡ fresh (known c.args.seat.badge.views) = search rules in
    subst IsApart (sym is) (none-apart (known c.args.seat.badge.views).tree (length (known c.args.seat.badge.views).tree))
