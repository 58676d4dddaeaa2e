use Rattle.std.proofs.Common.{rules, refl, ◌≡◌, ◌∷◌, [], length, sym, ap, ◌∙◌, subst}
use Rattle.depot_rule.specs.History.{entries_of}
use Rattle.depot_rule.specs.Seats.{view_of, first_of, others_of}
use Rattle.depot_rule.proofs.Dealing.{meets, parts-again}
use Rattle.depot_rule.proofs.Looking.{alikes}
use Rattle.depot.specs.Calls.{known, own_views}
use Rattle.depot.specs.Holds.{IsGathered, IsApart}
use Rattle.depot.specs.Words.{served_by}
use Rattle.depot.proofs.Seated.{HasMet, met-so, AreAlike, alike-known, told, told-known}
use Rattle.depot.proofs.meeting.meet.Given.{Over}
use Rattle.depot.proofs.meeting.meet.Goals.{After-join_seat, After-load, After-into_badge, After-into_badge-2}
use Rattle.depot.proofs.meeting.meet.Goals as goal

-- ---- what several goals share

met : (g : Over) (c : After-join_seat g) → HasMet c.args.one.now.badge.views c.args.other.now.badge.views c.into_seat-first.result.me.0
    c.into_seat-second.result.me.0 c.join_seat.new.seat.me.0
met g c =
    let is = sym (ap (λ b. b.views) c.replace.ensures.value) ∙ c.into_seat-first.ensures.2 in
    let other_is = sym (ap (λ b. b.views) c.replace-2.ensures.value) ∙ c.into_seat-second.ensures.2 in
    met-so _ _ c.into_seat-first.result.me.0 c.into_seat-second.result.me.0 _ is other_is c.args.one.now.one.1 c.args.other.now.one.1
    (ap (λ m. m.0) c.join_seat.ensures.2)

alike : (g : Over) (c : After-load g) (m : HasMet c.args.one.now.badge.views c.args.other.now.badge.views c.into_seat-first.result.me.0
    c.into_seat-second.result.me.0 c.join_seat.new.seat.me.0)
    → AreAlike (known c.args.one.now.badge.views) (known c.args.other.now.badge.views)
alike g c m = alike-known _ _ _ _ _ m (c.load.ensures.2.1 (view_of c.into_seat-first.result.me.0) (view_of c.into_seat-second.result.me.0) m.both)

one-told : (g : Over) (c : After-into_badge g) (m : HasMet c.args.one.now.badge.views c.args.other.now.badge.views c.into_seat-first.result.me.0
    c.into_seat-second.result.me.0 c.join_seat.new.seat.me.0)
    → ((length c.into_badge.result.views ≡ 1) × (length (own_views c.into_badge.result.views) ≡ 1))
    × (known c.into_badge.result.views ≡ told (known c.args.one.now.badge.views) (known c.args.other.now.badge.views) (known c.args.one.now.badge.views))
one-told g c m =
    let badge : c.into_badge.result.views ≡ c.split_seat-second.new.seat.me.0 ∷ [] = search rules in
    let first = ap (λ m. m.0) c.split_seat-second.ensures.2 ∙ ap first_of (ap (λ m. m.0) c.load.ensures.2.0 ∙ m.both) in (
      (ap length badge, ap (λ b. length (own_views b)) badge ∙ ap length first),
      ap known badge ∙ (ap view_of first ∙ (told-known _ _ _ _ _ m).0),
    )

other-told : (g : Over) (c : After-into_badge-2 g) (m : HasMet c.args.one.now.badge.views c.args.other.now.badge.views c.into_seat-first.result.me.0
    c.into_seat-second.result.me.0 c.join_seat.new.seat.me.0)
    → ((length c.into_badge-2.result.views ≡ 1) × (length (own_views c.into_badge-2.result.views) ≡ 1))
    × (known c.into_badge-2.result.views ≡ told (known c.args.one.now.badge.views) (known c.args.other.now.badge.views) (known c.args.other.now.badge.views))
other-told g c m =
    let badge : c.into_badge-2.result.views ≡ c.split_seat-second.result.me.0 ∷ [] = search rules in
    let second = ap (λ m. m.0) c.split_seat-second.ensures.4 ∙ ap others_of (ap (λ m. m.0) c.load.ensures.2.0 ∙ m.both) in (
      (ap length badge, ap (λ b. length (own_views b)) badge ∙ ap length second),
      ap known badge ∙ (ap view_of second ∙ (told-known _ _ _ _ _ m).1),
    )

-- ---- the answers

pub join_seat-requires : goal.join_seat-requires
join_seat-requires g c = (
  search rules,
  search rules,
  search rules,
  search rules,
  meets g.row.M-Parcel.Denot g.row.M-Call.Denot g.row.M-Reply.Denot g.row.M-Batch.Denot g.M.Parcel.HasKind.kind (served_by g.M.Machine)
      c.args.board.now.key.value.parents.items c.args.board.now.key.value.parcels.items
      _ c.into_seat-first.result.me.0 _ c.into_seat-second.result.me.0,
)

pub load-requires : goal.load-requires
load-requires g c = (
  search rules,
  search rules,
  alikes g.row.M-Parcel.Denot g.row.M-Call.Denot g.row.M-Reply.Denot g.row.M-Batch.Denot g.M.Parcel.HasKind.kind (served_by g.M.Machine)
      c.args.board.now.key.value.parents.items c.args.board.now.key.value.parcels.items
      _ _ c.join_seat.new.seat.me,
)

pub split_seat-second-requires : goal.split_seat-second-requires
split_seat-second-requires g c =
    let m = met g (goal.at.split_seat-second-requires g c).After-join_seat in
    let loaded = ap (λ m. m.0) c.load.ensures.2.0 ∙ m.both in (
      search rules,
      search rules,
      parts-again g.row.M-Parcel.Denot g.row.M-Call.Denot g.row.M-Reply.Denot g.row.M-Batch.Denot g.M.Parcel.HasKind.kind (served_by g.M.Machine)
          c.args.board.now.key.value.parents.items c.args.board.now.key.value.parcels.items
          _ c.load.new.seat.me.0 (ap length loaded),
    )

pub invariant_of-one : goal.invariant_of-one
invariant_of-one g c =
    let now = one-told g c (met g (goal.at.invariant_of-one g c).After-join_seat) in
    let e = now.1 in
    let s = c.args.one.now in
    record {
      one = now.0;
      idle = subst (λ v. (v.unsure ≡ 0) × (v.out ≡ 0) × (length v.path ≡ 0) × (v.stamped ≡ 0)) (sym e) s.idle;
      parts = ap (λ v. v.parts) e ∙ s.parts;
      gathered = subst IsGathered (sym e) s.gathered;
      apart = subst IsApart (sym e) s.apart;
    }

pub invariant_of-other : goal.invariant_of-other
invariant_of-other g c =
    let now = other-told g c (met g (goal.at.invariant_of-other g c).After-join_seat) in
    let e = now.1 in
    let s = c.args.other.now in
    record {
      one = now.0;
      idle = subst (λ v. (v.unsure ≡ 0) × (v.out ≡ 0) × (length v.path ≡ 0) × (v.stamped ≡ 0)) (sym e) s.idle;
      parts = ap (λ v. v.parts) e ∙ s.parts;
      gathered = subst IsGathered (sym e) s.gathered;
      apart = subst IsApart (sym e) s.apart;
    }

pub returns-clause-splits : goal.returns-clause-splits
returns-clause-splits g c = (refl, refl)

pub returns-clause-one : goal.returns-clause-one
returns-clause-one g c =
    let at = goal.at.returns-clause-one g c in (one-told g at.After-into_badge (met g at.After-join_seat)).1

pub returns-clause-other : goal.returns-clause-other
returns-clause-other g c =
    let at = goal.at.returns-clause-other g c in (other-told g at.After-into_badge-2 (met g at.After-join_seat)).1

pub returns-clause-alike : goal.returns-clause-alike
returns-clause-alike g c =
    let at = goal.at.returns-clause-alike g c in
    let a = alike g at.After-load (met g at.After-join_seat) in (a.0, a.1, a.2, a.4)

pub returns-clause-one_history : goal.returns-clause-one_history
returns-clause-one_history g c =
    let at = goal.at.returns-clause-one_history g c in (alike g at.After-load (met g at.After-join_seat)).3

pub returns-clause-entries : goal.returns-clause-entries
returns-clause-entries g c =
    let at = goal.at.returns-clause-entries g c in
    let keep = (alike g at.After-load (met g at.After-join_seat)).4 in
    (ap (λ v. entries_of v) (returns-clause-one g c) ∙ keep.0, ap (λ v. entries_of v) (returns-clause-other g c) ∙ keep.1)
