-- From what a handler promises of a task on all that is stored to what a run of it comes to by parcels.
use Rattle.std.proofs.Common.{◌≡◌, ℕ, ◌<◌, true, false, length, Option, None, refl, ap}
use Rattle.nfs_model.specs.Types.{Asked, Moment, SystemError}
use Rattle.nfs_model.specs.Tree.{Layout, Affinity, Serial, Aggregate}
use Rattle.nfs_model.specs.Work.{Outcome, Replied, Starved, Moved}
use Rattle.affinity.specs.Fault.{fault_of}
use Rattle.affinity.specs.Numbers.{number_of, parents}
use Rattle.parcels.specs.Sets.{aggregate_parcels, serial_parcels}
use Rattle.filer_state.specs.state.Parcels.{FilerParcel}
use Rattle.filer_state.specs.state.Contents.{FilerContents, filer_contents}
use Rattle.filer_state.specs.state.Jobs as jobs
use Rattle.filer_state.specs.state.Jobs.{Job, JobReply, Serve}
use Rattle.filer_state.specs.state.Deeds.{FilerSteps, IsHomeOrAbove}
use Rattle.filer_state.specs.state.Lenses.{Lens, aggregate_lens, serial_lens}
use Rattle.filer_state.specs.state.Promises.{IsRight, IsSeenBy}
use Rattle.filer_state.specs.state.Running.{task_under, finished_at, UnlessReplied, MovesTo, Runs}
use Rattle.filer_state.specs.state.Sets.{FilerAggregate, FilerSerial, aggregate_set, serial_set}
use Rattle.filer_state.specs.laws.lemmas.Steps.{laid-out}
use Rattle.filer_state.specs.laws.lemmas.Kinds.{aggregate-step, serial-step}
use Rattle.filer_state.specs.laws.lemmas.SeenSets.{aggregate-seen, serial-seen}
use Rattle.filer_state.specs.totals.Running.{RunsOnAll}

unless-mapped : (outcome : Outcome) (A B : Type 0) → (A → B) → UnlessReplied outcome A → UnlessReplied outcome B
unless-mapped (Replied reply) A B f a = tt
unless-mapped Starved A B f a = f a
unless-mapped (Moved other) A B f a = f a

module _ {P S : Type 0} (layout : Layout) (node : Affinity) (lens : Lens FilerContents S) (asked : Asked) (moment : Moment)
    (home : IsHomeOrAbove layout asked node) (before after : ℕ → Option (FilerParcel P)) (old new : S)
    (was : IsSeenBy layout node lens before old)
    (step : (job : Job) (reply : JobReply) → IsRight layout node lens job old reply new
    → FilerSteps (parents layout) (number_of layout node) job before reply after) where
  moves-to : (other : Affinity) → RunsOnAll layout lens (task_under node asked moment) old (Moved other) new → MovesTo layout node asked moment before other
  moves-to other right g hands made under sound =
      let r = right (filer_contents layout g) hands hands made (was.has g under) (laid-out layout g) sound (λ weigh. refl) in
      (r.0.0.0, refl)

  -- where a handler's promise is kept by a set, the run is right by its parcels
  runs-all-by : (outcome : Outcome) → RunsOnAll layout lens (task_under node asked moment) old outcome new
      → UnlessReplied outcome ((k : ℕ) → after k ≡ before k) → Runs layout node asked moment before outcome after
  runs-all-by (Replied reply) right same = λ connection number xid.
      step (Serve (finished_at node asked moment connection number xid false)) (jobs.Replied reply)
      (λ c hands hands' made has laid sound moved.
      let r = right c hands hands' made has laid sound moved in
      (record { affinity = refl; tried = home; works = r.0.0; starved = λ e. absurd cc }, r.1))
  runs-all-by Starved right same = (
    (λ connection number xid.
        step (Serve (finished_at node asked moment connection number xid true)) (jobs.Replied SystemError)
        (λ c hands hands' made has laid sound moved.
        let r = right c hands hands' made has laid sound moved in
        (record { affinity = refl; tried = home; works = r.0.0; starved = λ e. (refl, r.0.1) }, r.1))),
    same,
  )
  runs-all-by (Moved other) right same = (moves-to other right, same)

-- ---- on the sets that are more than a volume

module _ {P : Type 0} (layout : Layout) (lawful : fault_of layout ≡ None) (asked : Asked) (moment : Moment) where
  -- a task that was run on the set of an Aggregate
  pub aggregate-runs : (a : ℕ) → a < length layout.spare → IsHomeOrAbove layout asked (Aggregate a) → (old new : FilerAggregate P) (outcome : Outcome)
      → UnlessReplied outcome (new ≡ old)
      → RunsOnAll layout (aggregate_lens a) (task_under (Aggregate a) asked moment) (aggregate_set layout a old) outcome (aggregate_set layout a new)
      → Runs layout (Aggregate a) asked moment (aggregate_parcels layout (Aggregate a) old) outcome (aggregate_parcels layout (Aggregate a) new)
  aggregate-runs a on home old new outcome same right =
      runs-all-by layout (Aggregate a) (aggregate_lens a) asked moment home (aggregate_parcels layout (Aggregate a) old)
      (aggregate_parcels layout (Aggregate a) new) (aggregate_set layout a old) (aggregate_set layout a new) (aggregate-seen layout lawful a on old)
      (λ job reply step. aggregate-step layout lawful job reply a on old new step) outcome right
      (unless-mapped outcome (new ≡ old) ((k : ℕ) → aggregate_parcels layout (Aggregate a) new k ≡ aggregate_parcels layout (Aggregate a) old k)
      (λ e k. ap (λ (h : FilerAggregate P). aggregate_parcels layout (Aggregate a) h k) e) same)

  -- a task that was run on the set of all
  pub serial-runs : IsHomeOrAbove layout asked Serial → (old new : FilerSerial P) (outcome : Outcome) → UnlessReplied outcome (new ≡ old)
      → RunsOnAll layout serial_lens (task_under Serial asked moment) (serial_set layout old) outcome (serial_set layout new)
      → Runs layout Serial asked moment (serial_parcels layout Serial old) outcome (serial_parcels layout Serial new)
  serial-runs home old new outcome same right =
      runs-all-by layout Serial serial_lens asked moment home (serial_parcels layout Serial old) (serial_parcels layout Serial new)
      (serial_set layout old) (serial_set layout new) (serial-seen layout lawful old)
      (λ job reply step. serial-step layout lawful job reply old new step) outcome right
      (unless-mapped outcome (new ≡ old) ((k : ℕ) → serial_parcels layout Serial new k ≡ serial_parcels layout Serial old k)
      (λ e k. ap (λ (h : FilerSerial P). serial_parcels layout Serial h k) e) same)
