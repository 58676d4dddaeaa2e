use Rattle.std.proofs.Common.{◌≡◌, [], subst, sym, ap, ◌∙◌}
use Rattle.nfs_model.specs.World.{Setup, World}
use Rattle.nfs_model.specs.Headline.{Kept, opening_world}
use Rattle.engine.specs.declared.state.State.{State}
use Rattle.engine.specs.counts.Counts.{world_counts}
use Rattle.engine.specs.Seen.{setup_in, world}
use Rattle.engine.specs.Shown.{shown}
use Rattle.engine.proofs.Promised.{sound-history, promised}
use Rattle.engine.proofs.engine.Engine.offering.Goals as goal

-- a run begins within the headline
begins : ((setup : Setup) → Kept setup (opening_world setup)) → (s : State) → world s ≡ opening_world (setup_in s) → Kept (setup_in s) (world s)
begins meets s opens = subst (λ (w : World). Kept (setup_in s) w) (sym opens) (meets (setup_in s))

pub invariant_of-result : goal.invariant_of-result
invariant_of-result c = (
  (
    c.in_ok-state.ensures.sound,
    begins c.opening_meets_headline.ensures c.in_ok-state.state c.in_ok-state.ensures.opening,
  ),
  c.in_ok-counts.ensures c.args.verifier
      ∙ sym (ap world_counts (c.in_ok-state.ensures.opening ∙ ap opening_world c.in_ok-state.ensures.setup)),
)

pub returns-clause-headline : goal.returns-clause-headline
returns-clause-headline c = (begins c.opening_meets_headline.ensures c.in_ok-state.state c.in_ok-state.ensures.opening).headline

pub returns-clause-outcomes : goal.returns-clause-outcomes
returns-clause-outcomes c = (begins c.opening_meets_headline.ensures c.in_ok-state.state c.in_ok-state.ensures.opening).outcomes

pub returns-clause-history : goal.returns-clause-history
returns-clause-history c = sound-history c.in_ok-state.state c.in_ok-state.ensures.sound

pub returns-clause-promise : goal.returns-clause-promise
returns-clause-promise c =
    let kept = begins c.opening_meets_headline.ensures c.in_ok-state.state c.in_ok-state.ensures.opening in
    promised c.streams_are_served.ensures [] (shown c.in_ok-state.state) c.in_ok-state.ensures.opening kept.headline kept.outcomes
    (sound-history c.in_ok-state.state c.in_ok-state.ensures.sound)
