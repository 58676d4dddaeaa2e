use Rattle.std.proofs.Common.{◌≡◌, Ok, Err, sym, ap, subst}
use Rattle.affinity.specs.Layout.{layout_of}
use Rattle.service.specs.Works.{batch_call_of}
use Rattle.turns.specs.declared.tend.Tend.{Tend}
use Rattle.turns.specs.declared.tend.TendRefusal.TheVariants.{HandEmpty}
use Rattle.turns.specs.Tends.{call_of, or_empty}
use Rattle.turns.proofs.tending.work_of.Goals as goal

-- ---- into an empty hand

pub returns-else-range-ge-RANGES-clause-hand : goal.returns-else-range-ge-RANGES-clause-hand
returns-else-range-ge-RANGES-clause-hand c = sym (c.is_empty.ensures.empty c.if-not-is_empty.false)

pub returns-else-not-has_volume-2-clause-hand : goal.returns-else-not-has_volume-2-clause-hand
returns-else-not-has_volume-2-clause-hand c = sym (c.is_empty-in-Cull.ensures.empty c.if-not-is_empty-2.false)

-- ---- what is in the hand

pub returns-in-Ok-clause-call : goal.returns-in-Ok-clause-call
returns-in-Ok-clause-call c =
    subst (λ (t : Tend). call_of (layout_of c.args.layout.now) t c.args.hand ≡ Ok (batch_call_of c.in-Ok.work)) (sym c.in-PutDown.is)
    (ap or_empty c.in-Ok.ensures.call)

pub returns-in-Err-clause-call : goal.returns-in-Err-clause-call
returns-in-Err-clause-call c =
    subst (λ (t : Tend). call_of (layout_of c.args.layout.now) t c.args.hand ≡ Err HandEmpty) (sym c.in-PutDown.is)
    (ap or_empty c.in-Err.ensures.call)
