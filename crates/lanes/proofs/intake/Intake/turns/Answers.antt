use Rattle.std.proofs.Common.{◌≡◌, ◌≤◌, refl, sym, ap, subst, ◌∙◌, Some}
use Rattle.crossbeam_queue.specs.Fifo.{Held}
use Rattle.depot_rule.specs.History.{entries_of}
use Rattle.depot_rule.specs.Sums.{total}
use Rattle.granted_calls.specs.Balance.{Passed, Weight, by_entry, by_key}
use Rattle.granted_calls.specs.Chains.{turns_at_most, HasDoneFew, HasPutAll, HasTurnedOn}
use Rattle.granted_calls.specs.Telling.{TookTold}
use Rattle.granted_calls.specs.Served.{HasShareOf, Standing}
use Rattle.turns.specs.Turns.{standing_of}
use Rattle.granted_calls.specs.Filers.{layout_in, layout_known}
use Rattle.turns.specs.Words.{passed, seat_view}
use Rattle.granted_calls.specs.shared_waiting.Balance.{both, Leaves}
use Rattle.granted_calls.specs.shared_waiting.Passes.{known}
use Rattle.lanes.proofs.Counted.{counted-anew}
use Rattle.lanes.proofs.Idle.{finished-once, idle-same, none-left}
use Rattle.lanes.proofs.Steps.{both-kept, same-share}
use Rattle.lanes.proofs.intake.Intake.turns.Goals as goal

pub turns_beside-chained-requires-clause-key : goal.turns_beside-chained-requires-clause-key
turns_beside-chained-requires-clause-key g c = c.args.self.now.both.1

pub count_beside-queued-requires-clause-key : goal.count_beside-queued-requires-clause-key
count_beside-queued-requires-clause-key g c =
    ap (λ (v : Passed). v.key) c.turns_beside-chained.ensures.other.1 ∙ c.args.self.now.both.1 ∙ sym c.turns_beside-chained.ensures.share.2

pub invariant_of-self : goal.invariant_of-self
invariant_of-self g c =
    let s = c.args.self.now in
    let turned = c.turns_beside-chained.new.self in
    let counted = c.count_beside-queued.new.self in
    let stands = c.count_beside-queued.ensures.stands in
    let first = c.turns_beside-chained.ensures.other.1 in
    let kept = c.count_beside-queued.ensures.other.1 ∙ first in
    let share : HasShareOf (passed s.worker) (passed counted) =
    subst (λ (x : Standing). HasShareOf (passed s.worker) x.pass) (sym stands) c.turns_beside-chained.ensures.share in
    let before = both-kept s.pass c.turns_beside-chained.new.other s.worker turned
    (same-share s.pass c.turns_beside-chained.new.other first) c.turns_beside-chained.ensures.share s.both in
    record {
      of = c.count_beside-queued.ensures.other.0;
      layout = subst (λ (v : Passed). layout_known v ≡ Some (layout_in s.filer.value)) (sym kept) s.layout;
      takes = c.count_beside-queued.ensures.inside.pass;
      both = both-kept s.pass c.count_beside-queued.new.other s.worker counted (same-share s.pass c.count_beside-queued.new.other kept) share
          s.both;
      counted = counted-anew c.turns_beside-chained.new.other c.count_beside-queued.new.other turned counted c.count_beside-queued.result
          c.kept_by.result before c.count_beside-queued.ensures.held c.count_beside-queued.ensures.other.1 stands c.kept_by.ensures;
      few = s.few;
    }

pub returns-clause-turned : goal.returns-clause-turned
returns-clause-turned g c =
    let s = c.args.self.now in
    subst (λ (x : Standing). HasTurnedOn (TookTold c.args.handles HasPutAll) (layout_in c.args.filer.now) (standing_of s.worker) c.args.moment s.outboxes
    c.turns_beside-chained.result c.turns_beside-chained.new.sink x) (sym c.count_beside-queued.ensures.stands)
    c.turns_beside-chained.ensures.turned

pub returns-clause-few : goal.returns-clause-few
returns-clause-few g c =
    subst (λ (x : Standing). HasDoneFew (turns_at_most c.args.most) (seat_view c.args.self.now.worker) x.view)
    (sym c.count_beside-queued.ensures.stands) c.turns_beside-chained.ensures.few

pub returns-clause-idle : goal.returns-clause-idle
returns-clause-idle g c idle =
    let s = c.args.self.now in
    none-left s.pass c.count_beside-queued.new.other s.worker c.count_beside-queued.new.self s.both (c.turns_beside-chained.ensures.none idle)
    (c.count_beside-queued.ensures.other.1 ∙ c.turns_beside-chained.ensures.other.1)
    (ap (λ (x : Standing). x.pass) c.count_beside-queued.ensures.stands
    ∙ idle-same _ _ (standing_of s.worker) c.args.moment s.outboxes c.turns_beside-chained.result c.turns_beside-chained.new.sink
    (standing_of c.turns_beside-chained.new.self) c.turns_beside-chained.ensures.turned idle)

pub returns-clause-once : goal.returns-clause-once
returns-clause-once g c =
    let s = c.args.self.now in
    let turned = c.turns_beside-chained.new.self in
    subst (λ (x : Standing). (weight : Weight) → total (by_entry weight) (entries_of x.view) ≤ total (by_key weight) (known s.pass).put)
    (sym c.count_beside-queued.ensures.stands)
    (finished-once s.pass turned c.count_beside-queued.result
    (both-kept s.pass s.pass s.worker turned (refl, refl, refl) c.turns_beside-chained.ensures.share s.both) c.requires.picked
    (subst (λ (v : Passed). Held c.count_beside-queued.result (Leaves (both (passed turned) v))) c.turns_beside-chained.ensures.other.1
    c.count_beside-queued.ensures.held) turned.balance)
