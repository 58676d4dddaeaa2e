use Rattle.std.proofs.Common.{rules, ◌≡◌, ◌∷◌, [], length, sym, ap, ◌∙◌, subst}
use Rattle.depot.specs.Calls.{known, own_views}
use Rattle.depot.specs.Grants.{IsSeatOf}
use Rattle.depot.specs.Holds.{IsGathered, IsApart}
use Rattle.depot.specs.Words.{layout_in}
use Rattle.depot.proofs.depot.Depot.look_back.Goals as goal

pub invariant_of-seat : goal.invariant_of-seat
invariant_of-seat g c =
    let seat = c.args.seat.now in
    let is = sym (ap (λ b. b.views) c.replace.ensures.value) ∙ c.into_seat-place.ensures.2 in
    let full : c.into_badge.result.views ≡ seat.badge.views =
    c.into_badge.ensures.2 ∙ (ap (λ m. m.0 ∷ []) c.look_back.ensures.seat.1 ∙ sym is) in
    record {
      one = subst (λ vs. (length vs ≡ 1) × (length (own_views vs) ≡ 1)) (sym full) seat.one;
      idle = subst (λ vs. ((known vs).unsure ≡ 0) × ((known vs).out ≡ 0) × (length (known vs).path ≡ 0) × ((known vs).stamped ≡ 0)) (sym full) seat.idle;
      parts = ap (λ vs. (known vs).parts) full ∙ seat.parts;
      gathered = subst (λ vs. IsGathered (known vs)) (sym full) seat.gathered;
      apart = subst (λ vs. IsApart (known vs)) (sym full) seat.apart;
    }

pub returns-clause-seat : goal.returns-clause-seat
returns-clause-seat g c =
    let seat = c.args.seat.now in
    let is = sym (ap (λ b. b.views) c.replace.ensures.value) ∙ c.into_seat-place.ensures.2 in
    let full : c.into_badge.result.views ≡ seat.badge.views =
    c.into_badge.ensures.2 ∙ (ap (λ m. m.0 ∷ []) c.look_back.ensures.seat.1 ∙ sym is) in (
      search rules,
      subst (λ vs. IsSeatOf g.M.Parcel.HasKind.kind (layout_in c.args.self.now) (known vs)) (sym full) c.requires.1,
    )
