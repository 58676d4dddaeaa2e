use Rattle.std.proofs.Common.{◌≡◌, refl, sym, ap, subst, rules}
use Rattle.std.specs.Arc.{arc_value}
use Rattle.turns.specs.Tends.{Tends}
use Rattle.granted_calls.specs.Filers.{layout_in}
use Rattle.turns.specs.Words.{IsAt}
use Rattle.granted_calls.specs.shared_waiting.Passes.{known}
use Rattle.granted_calls.specs.declared.shared.Filer.{Filer}
use Rattle.lanes.proofs.Counted.{counted-same}
use Rattle.lanes.proofs.Inside.{at-inside}
use Rattle.lanes.proofs.Owed.{tends-owed}
use Rattle.lanes.proofs.Steps.{both-kept, tends-told}
use Rattle.lanes.proofs.lane.Lane.tend.Goals as goal

pub tend_in-requires : goal.tend_in-requires
tend_in-requires g c =
    let l = c.args.self.now in
    let same : c.deref.result.now ≡ arc_value l.filer = search rules in
    subst (λ (f : Filer). IsAt f l.intake.queue l.intake.worker) (sym same) (at-inside (arc_value l.filer) l.intake.queue l.intake.worker l.inside)

pub invariant_of-self : goal.invariant_of-self
invariant_of-self g c =
    let l = c.args.self.now in
    let i = l.intake in
    let w = c.tend_in.new.self in
    let same : c.deref.result.now ≡ arc_value l.filer = search rules in (
      (
        i.of,
        (
          i.layout,
          (
            c.tend_in.ensures.inside.pass,
            (
              both-kept i.pass i.pass i.worker w (refl, refl, refl)
                  (ap (λ v. v.share) c.tend_in.ensures.pass, ap (λ v. v.halvings) c.tend_in.ensures.pass, ap (λ v. v.key) c.tend_in.ensures.pass)
                  i.both,
              (counted-same i.pass i.pass i.worker w i.waiting refl c.tend_in.ensures.pass c.tend_in.ensures.kept i.counted, (i.few, tt)),
            ),
          ),
        ),
      ),
      (
        l.filer_is,
        (
          ∣ subst (λ (f : Filer). IsAt f l.intake.queue c.tend_in.new.self) same c.tend_in.ensures.inside ∣₁,
          (
            l.picked,
            (
              l.share,
              (
                tends-told _ _ (layout_in (arc_value l.filer)) l.offer l.index l.count (known l.intake.pass).put l.intake.outboxes _ l.closed.items l.intake.worker
                    c.tend_in.new.self c.args.tend c.tend_in.result
                    (subst (λ (f : Filer). Tends (layout_in f) l.intake.worker c.args.tend c.tend_in.result c.tend_in.new.self) same
                    c.tend_in.ensures.tends) l.story,
                (
                  tends-owed (layout_in (arc_value l.filer)) (known l.intake.pass).put l.intake.outboxes _ l.intake.worker c.tend_in.new.self
                      c.args.tend c.tend_in.result
                      (subst (λ (f : Filer). Tends (layout_in f) l.intake.worker c.args.tend c.tend_in.result c.tend_in.new.self) same
                      c.tend_in.ensures.tends) l.owes,
                  tt,
                ),
              ),
            ),
          ),
        ),
      ),
    )
