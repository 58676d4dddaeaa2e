use Rattle.std.proofs.Common.{arith, ◌≡◌, ◌+◌, ◌≤◌, refl, sym, subst, ◌∙◌}
use Rattle.engine.specs.Engine.{one_if_refused}
use Rattle.engine.specs.Seen.{answer_of}
use Rattle.engine.specs.Shown.{HasHeadline, HasOutcomes, HasHistory}
use Rattle.engine.proofs.Runs.{run-more-from, refused-counts, done-counts}
use Rattle.engine.proofs.Promised.{sound-history, goes-nowhere, goes-further}
use Rattle.engine.proofs.engine.Engine.run.Goals as goal
use Rattle.engine.proofs.engine.Engine.run.Goals.{then-is_err, else-is_err}

counted : (c : goal.Joined-is_err) → c.if-is_err.refused ≡ c.loop-event.refused + one_if_refused (answer_of c.step.result)
counted c = elim c.if-is_err.branch [
  | then-is_err w ↦ omega (arith, w.refused-is, refused-counts c.step.result (sym c.is_err.ensures.value ∙ w.if-is_err.true))
  | else-is_err w ↦ omega (arith, w.refused-is, done-counts c.step.result (sym c.is_err.ensures.value ∙ w.if-is_err.false))
]

few : (c : goal.Joined-is_err) → c.if-is_err.refused ≤ c.loop-event.event-index + 1
few c = elim c.if-is_err.branch [
  | then-is_err w ↦ omega (arith, w.refused-is, c.loop-event.invariant.2)
  | else-is_err w ↦ omega (arith, w.refused-is, c.loop-event.invariant.2)
]

pub loop-event-preserved : goal.loop-event-preserved
loop-event-preserved c = (
  run-more-from c.args.self.now c.loop-event.self c.step.new.self c.args.events.now c.loop-event.event-index _ c.loop-event.refused
      (answer_of c.step.result) c.if-is_err.refused c.loop-event-test.true c.loop-event.invariant.0 c.loop-event.invariant.1 c.step.ensures.events (counted c),
  c.step.ensures.setup ∙ c.loop-event.invariant.1,
  few c,
  c.step.ensures.headline,
  c.step.ensures.outcomes,
  c.step.ensures.history,
  goes-further c.args.self.now c.loop-event.self c.step.new.self c.args.events.now c.loop-event.event-index _ c.loop-event-test.true
      c.loop-event.invariant.6 c.step.ensures.promise,
)

pub loop-event-init : goal.loop-event-init
loop-event-init c = (
  (refl, refl),
  refl,
  omega arith,
  subst HasHeadline c.self.view_is c.self.invariant.0.1.headline,
  subst HasOutcomes c.self.view_is c.self.invariant.0.1.outcomes,
  subst HasHistory c.self.view_is (sound-history c.self.inside.state c.self.invariant.0.0),
  goes-nowhere c.args.self.now,
)
