-- For each kind of node: where a handler's change of its set is right, putting in the set's parcels is a step.
use Rattle.std.proofs.Common.{◌≡◌, ◌≢◌, ℕ, ◌<◌, length, Option, None, refl, sym, ◌∙◌, subst}
use Rattle.nfs_model.specs.Tree.{Layout, Affinity, Serial, Aggregate, Volume, Logical, Stripe, Vbn, Range, stripes_of}
use Rattle.affinity.specs.Ancestors.{Covers}
use Rattle.affinity.specs.Fault.{fault_of}
use Rattle.affinity.specs.Tree.{IsNode}
use Rattle.affinity.specs.Numbers.{number_of, parents}
use Rattle.affinity.specs.lemmas.Standing.{covers-under}
use Rattle.parcels.specs.Exact.{Under}
use Rattle.parcels.specs.Sets.{range_parcels, vbn_parcels, stripe_parcels, logical_parcels, volume_parcels, aggregate_parcels, serial_parcels}
use Rattle.parcels.specs.lemmas.Within.{range-within, vbn-within, stripe-within, logical-within, volume-within, aggregate-within, serial-within}
use Rattle.filer_state.specs.state.Jobs.{Job, JobReply}
use Rattle.filer_state.specs.state.Deeds.{FilerSteps}
use Rattle.filer_state.specs.state.Lenses.{stripe_lens, range_lens, vbn_lens, logical_lens, volume_lens, in_volume, aggregate_lens, serial_lens}
use Rattle.filer_state.specs.state.Promises.{IsRight}
use Rattle.filer_state.specs.state.Sets.{FilerRange, FilerStripe, FilerVbn, FilerLogical, FilerVolume, FilerAggregate, FilerSerial}
use Rattle.filer_state.specs.state.Sets.{vbn_set, logical_set, volume_set, aggregate_set, serial_set}
use Rattle.filer_state.specs.laws.lemmas.SeenSets.{stripe-seen, range-seen, vbn-seen, logical-seen, volume-seen, aggregate-seen, serial-seen}
use Rattle.filer_state.specs.laws.lemmas.Steps.{step-by}

-- two sets of a node have nothing at the same numbers: those that the node doesn't cover
nothing-outside : {T : Type 0} (layout : Layout) (lawful : fault_of layout ≡ None) (a : Affinity) (there : IsNode layout a) (f g : ℕ → Option T)
    → ((k : ℕ) → Under layout a (λ b. k ≢ number_of layout b) → f k ≡ None) → ((k : ℕ) → Under layout a (λ b. k ≢ number_of layout b) → g k ≡ None)
    → (k : ℕ) → (Covers (parents layout) (number_of layout a) k → ⊥) → g k ≡ f k
nothing-outside layout lawful a there f g none also k out =
    let under : Under layout a (λ b. k ≢ number_of layout b) =
    λ b below e. out (subst (Covers (parents layout) (number_of layout a)) (sym e) (covers-under layout lawful a b there below)) in
    also k under ∙ sym (none k under)

module _ {P : Type 0} (layout : Layout) (lawful : fault_of layout ≡ None) (job : Job) (reply : JobReply) where
  module _ (v : ℕ) (on : v < length layout.volumes) where
    pub stripe-step : (i : ℕ) → i < stripes_of layout v → (old new : FilerStripe P)
        → IsRight layout (Stripe v i) (in_volume v (stripe_lens i)) job old.own reply new.own
        → FilerSteps (parents layout) (number_of layout (Stripe v i)) job (stripe_parcels layout (Stripe v i) old) reply (stripe_parcels layout
        (Stripe v i) new)
    stripe-step i less old new right =
        let a : Affinity = Stripe v i in
        step-by layout lawful a (on, less) (in_volume v (stripe_lens i)) job reply old.own new.own (stripe_parcels layout a old)
        (stripe_parcels layout a new)
        (stripe-seen layout lawful v on i less old) (stripe-seen layout lawful v on i less new)
        (nothing-outside layout lawful a (on, less) (stripe_parcels layout a old) (stripe_parcels layout a new)
        (λ k. stripe-within layout a old k (on, less) refl) (λ k. stripe-within layout a new k (on, less) refl)) right

    pub range-step : (r : ℕ) → r < 16 → (old new : FilerRange P)
        → IsRight layout (Range v r) (in_volume v (range_lens r)) job old.own reply new.own
        → FilerSteps (parents layout) (number_of layout (Range v r)) job (range_parcels layout (Range v r) old) reply (range_parcels layout (Range v r) new)
    range-step r less old new right =
        let a : Affinity = Range v r in
        step-by layout lawful a (on, less) (in_volume v (range_lens r)) job reply old.own new.own (range_parcels layout a old) (range_parcels layout a new)
        (range-seen layout lawful v on r less old) (range-seen layout lawful v on r less new)
        (nothing-outside layout lawful a (on, less) (range_parcels layout a old) (range_parcels layout a new)
        (λ k. range-within layout a old k (on, less) refl) (λ k. range-within layout a new k (on, less) refl)) right

    pub vbn-step : (old new : FilerVbn P) → IsRight layout (Vbn v) (in_volume v vbn_lens) job (vbn_set old) reply (vbn_set new)
        → FilerSteps (parents layout) (number_of layout (Vbn v)) job (vbn_parcels layout (Vbn v) old) reply (vbn_parcels layout (Vbn v) new)
    vbn-step old new right =
        let a : Affinity = Vbn v in
        step-by layout lawful a on (in_volume v vbn_lens) job reply (vbn_set old) (vbn_set new) (vbn_parcels layout a old) (vbn_parcels layout a new)
        (vbn-seen layout lawful v on old) (vbn-seen layout lawful v on new)
        (nothing-outside layout lawful a on (vbn_parcels layout a old) (vbn_parcels layout a new)
        (λ k. vbn-within layout a old k on refl) (λ k. vbn-within layout a new k on refl)) right

    pub logical-step : (old new : FilerLogical P)
        → IsRight layout (Logical v) (in_volume v logical_lens) job (logical_set (stripes_of layout v) old) reply (logical_set (stripes_of layout v) new)
        → FilerSteps (parents layout) (number_of layout (Logical v)) job (logical_parcels layout (Logical v) old) reply (logical_parcels layout
        (Logical v) new)
    logical-step old new right =
        let a : Affinity = Logical v in
        let n : ℕ = stripes_of layout v in
        step-by layout lawful a on (in_volume v logical_lens) job reply (logical_set n old) (logical_set n new)
        (logical_parcels layout a old) (logical_parcels layout a new)
        (logical-seen layout lawful v on old) (logical-seen layout lawful v on new)
        (nothing-outside layout lawful a on (logical_parcels layout a old) (logical_parcels layout a new)
        (λ k. logical-within layout a old k on refl) (λ k. logical-within layout a new k on refl)) right

    pub volume-step : (old new : FilerVolume P)
        → IsRight layout (Volume v) (in_volume v volume_lens) job (volume_set (stripes_of layout v) old) reply (volume_set (stripes_of layout v) new)
        → FilerSteps (parents layout) (number_of layout (Volume v)) job (volume_parcels layout (Volume v) old) reply (volume_parcels layout (Volume v) new)
    volume-step old new right =
        let a : Affinity = Volume v in
        let n : ℕ = stripes_of layout v in
        step-by layout lawful a on (in_volume v volume_lens) job reply (volume_set n old) (volume_set n new)
        (volume_parcels layout a old) (volume_parcels layout a new)
        (volume-seen layout lawful v on old) (volume-seen layout lawful v on new)
        (nothing-outside layout lawful a on (volume_parcels layout a old) (volume_parcels layout a new)
        (λ k. volume-within layout a old k on refl) (λ k. volume-within layout a new k on refl)) right

  pub aggregate-step : (a : ℕ) → a < length layout.spare → (old new : FilerAggregate P)
      → IsRight layout (Aggregate a) (aggregate_lens a) job (aggregate_set layout a old) reply (aggregate_set layout a new)
      → FilerSteps (parents layout) (number_of layout (Aggregate a)) job (aggregate_parcels layout (Aggregate a) old) reply
      (aggregate_parcels layout (Aggregate a) new)
  aggregate-step a less old new right =
      let node : Affinity = Aggregate a in
      step-by layout lawful node less (aggregate_lens a) job reply (aggregate_set layout a old) (aggregate_set layout a new)
      (aggregate_parcels layout node old) (aggregate_parcels layout node new)
      (aggregate-seen layout lawful a less old) (aggregate-seen layout lawful a less new)
      (nothing-outside layout lawful node less (aggregate_parcels layout node old) (aggregate_parcels layout node new)
      (λ k. aggregate-within layout node old k less refl) (λ k. aggregate-within layout node new k less refl)) right

  pub serial-step : (old new : FilerSerial P) → IsRight layout Serial serial_lens job (serial_set layout old) reply (serial_set layout new)
      → FilerSteps (parents layout) (number_of layout Serial) job (serial_parcels layout Serial old) reply (serial_parcels layout Serial new)
  serial-step old new right =
      step-by layout lawful Serial tt serial_lens job reply (serial_set layout old) (serial_set layout new)
      (serial_parcels layout Serial old) (serial_parcels layout Serial new)
      (serial-seen layout lawful old) (serial-seen layout lawful new)
      (nothing-outside layout lawful Serial tt (serial_parcels layout Serial old) (serial_parcels layout Serial new)
      (λ k. serial-within layout Serial old k tt refl) (λ k. serial-within layout Serial new k tt refl)) right
