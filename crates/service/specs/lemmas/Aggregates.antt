-- A run of a call on the parcels under an Aggregate: GROW.
use Rattle.std.proofs.Common.{◌≡◌, ℕ, [], Some, None, Result, sym, subst}
use Rattle.std.specs.Prelude.{slice_get}
use Rattle.nfs_model.specs.Types as types
use Rattle.nfs_model.specs.Types.{Ask, Caller, Moment}
use Rattle.nfs_model.specs.Tree.{Layout, Affinity, Aggregate}
use Rattle.nfs_model.specs.Home.{grow_home}
use Rattle.nfs_model.specs.Work.{Store, Outcome, Replied, Starved, Moved, move_of}
use Rattle.nfs_values.specs.Call.{call_of}
use Rattle.nfs_values.specs.declared.call.Call.{Call}
use Rattle.nfs_values.specs.declared.call.Call.TheVariants as calls
use Rattle.nfs_values.specs.declared.status.Status.{Status}
use Rattle.affinity.specs.Fault.{fault_of}
use Rattle.affinity.specs.Tree.{IsNode}
use Rattle.parcels.specs.Sets.{aggregate_parcels}
use Rattle.filer_state.specs.state.Deeds.{stored_all}
use Rattle.filer_state.specs.state.Lenses.{AggregateSet, aggregate_lens}
use Rattle.filer_state.specs.state.Promises.{HasAll}
use Rattle.filer_state.specs.state.Running.{HasFiler, UnlessReplied, Runs, task_under}
use Rattle.filer_state.specs.state.Sets.{FilerAggregate, aggregate_set}
use Rattle.filer_state.specs.laws.lemmas.Granted.{aggregate-has}
use Rattle.service.specs.totals.Running.{RunsOnAll}
use Rattle.service.specs.totals.RunningLemmas.{aggregate-runs}
use Rattle.service.specs.totals.Growing.{HasVolumeOf, GrowsAggregate, growing_outcome}
use Rattle.service.specs.Running.{IsRunAt, MovesOn}
use Rattle.service.specs.lemmas.Homes.{run-home, grows-there}
use Rattle.service.specs.lemmas.Serving.{run-tried}

-- ---- GROW

module _ {P : Type 0} (layout : Layout) (g v more : ℕ) (at : grow_home (slice_get layout.volumes v) ≡ Some (Aggregate g)) where
  -- what it needs is known
  pub has-volume : (held : FilerAggregate P) → HasAll layout (aggregate_lens g) [] (aggregate_set layout g held) → HasVolumeOf v held
  has-volume held whole =
      let there = grows-there layout v g at in
      record {
        layout = layout;
        there = there.0;
        whole = subst (λ (b : ℕ). HasAll layout (aggregate_lens b) [] (aggregate_set layout b held)) (sym there.1) whole;
      }

  -- its run is the call's
  pub grown-runs : (call : Call) (caller : Caller) (moment : Moment) (old new : FilerAggregate P) (told : Result ℕ Status) (outcome : Outcome)
      → call_of call ≡ types.Grow v more → outcome ≡ growing_outcome told → GrowsAggregate v more old told new
      → RunsOnAll layout (aggregate_lens g) (task_under (Aggregate g) (Ask (call_of call) caller) moment) (aggregate_set layout g old) outcome
      (aggregate_set layout g new)
  grown-runs call caller moment old new told outcome asked is right =
      let there = grows-there layout v g at in
      subst (λ (k : types.Call). RunsOnAll layout (aggregate_lens g) (task_under (Aggregate g) (Ask k caller) moment) (aggregate_set layout g old) outcome
      (aggregate_set layout g new)) (sym asked)
      (subst (λ (o : Outcome). RunsOnAll layout (aggregate_lens g) (task_under (Aggregate g) (Ask (types.Grow v more) caller) moment)
      (aggregate_set layout g old) o (aggregate_set layout g new)) (sym is)
      (subst (λ (b : ℕ). RunsOnAll layout (aggregate_lens b) (task_under (Aggregate b) (Ask (types.Grow v more) caller) moment)
      (aggregate_set layout b old) (growing_outcome told) (aggregate_set layout b new)) there.1 (right layout caller moment there.0)))

-- it is always answered
pub unless-grown : (told : Result ℕ Status) (outcome : Outcome) (A : Type 0) → outcome ≡ growing_outcome told → UnlessReplied outcome A
unless-grown told outcome A is = subst (λ (o : Outcome). UnlessReplied o A) (sym is) tt

-- ---- any call that is run there

-- it doesn't move
never-moves : (layout : Layout) (call : Call) (g : ℕ) → IsRunAt layout call (Aggregate g) → (caller : Caller) (moment : Moment) (store : Store)
    (other : Affinity) → move_of store (task_under (Aggregate g) (Ask (call_of call) caller) moment) ≡ Some other → ⊥
never-moves layout (calls.Grow volume more) g at caller moment store other e = cc
never-moves layout calls.Census g at caller moment store other e = cc
never-moves layout call g at caller moment store other e = let above = (run-home layout call (Aggregate g) at).above in cc

pub stays-there : (layout : Layout) (call : Call) (g : ℕ) → IsRunAt layout call (Aggregate g) → (caller : Caller) (moment : Moment)
    (old new : AggregateSet) (outcome : Outcome) → HasAll layout (aggregate_lens g) [] old
    → RunsOnAll layout (aggregate_lens g) (task_under (Aggregate g) (Ask (call_of call) caller) moment) old outcome new → MovesOn layout call outcome
stays-there layout call g at caller moment old new (Replied reply) w right = tt
stays-there layout call g at caller moment old new Starved w right = tt
stays-there layout call g at caller moment old new (Moved other) w right =
    absurd (never-moves layout call g at caller moment (stored_all w.0) other (right w.0 w.1 w.2 w.3 w.4 w.5 w.8 w.7).0.0.0)

module _ {P : Type 0} (layout : Layout) (lawful : fault_of layout ≡ None) where
  -- what is known of the parcels under an Aggregate
  pub aggregate-whole : (g : ℕ) (a : Affinity) → a ≡ Aggregate g → IsNode layout a → (held : FilerAggregate P)
      → HasFiler layout a [] (aggregate_parcels layout a held) → HasAll layout (aggregate_lens g) [] (aggregate_set layout g held)
  aggregate-whole g a is on held filer =
      subst (λ (b : Affinity). IsNode layout b → HasFiler layout b [] (aggregate_parcels layout b held)
      → HasAll layout (aggregate_lens g) [] (aggregate_set layout g held))
      (sym is) (λ there has. aggregate-has layout lawful [] g there held has) on filer

  -- one that was run on the set of an Aggregate, by the set's parcels
  pub aggregate-ran : (call : Call) (caller : Caller) (moment : Moment) (g : ℕ) (a : Affinity) → a ≡ Aggregate g → IsNode layout a
      → IsRunAt layout call a → (old new : FilerAggregate P) (outcome : Outcome) → UnlessReplied outcome (new ≡ old)
      → RunsOnAll layout (aggregate_lens g) (task_under (Aggregate g) (Ask (call_of call) caller) moment) (aggregate_set layout g old) outcome
      (aggregate_set layout g new)
      → Runs layout a (Ask (call_of call) caller) moment (aggregate_parcels layout a old) outcome (aggregate_parcels layout a new)
  aggregate-ran call caller moment g a is on at old new outcome same right =
      subst (λ (b : Affinity). IsNode layout b → IsRunAt layout call b
      → Runs layout b (Ask (call_of call) caller) moment (aggregate_parcels layout b old) outcome (aggregate_parcels layout b new))
      (sym is) (λ there asks.
      aggregate-runs layout lawful (Ask (call_of call) caller) moment g there (run-tried layout call caller (Aggregate g) asks) old new outcome same
      right) on at
