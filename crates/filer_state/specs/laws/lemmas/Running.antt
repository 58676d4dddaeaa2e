-- From what a handler promises of a call on a volume to what a run of it comes to by parcels.
use Rattle.std.proofs.Common.{◌≡◌, ℕ, ◌<◌, Bool, true, false, [], length, Option, Some, None, refl, sym, ap, ◌∙◌, arith}
use Rattle.nfs_model.specs.Types.{Ask, Caller, Moment, Reply, SystemError}
use Rattle.nfs_model.specs.Tree.{Layout, Affinity}
use Rattle.nfs_model.specs.Work.{Outcome, Replied, Starved, Moved}
use Rattle.affinity.specs.Numbers.{number_of, parents}
use Rattle.filer_state.specs.state.Parcels.{FilerParcel}
use Rattle.filer_state.specs.state.Contents.{VolumeContents, FilerContents, filer_contents}
use Rattle.filer_state.specs.state.Jobs as jobs
use Rattle.filer_state.specs.state.Jobs.{InnerCall, Job, JobReply, Serve, Inner, takes, gives, inner_node, inner_volume}
use Rattle.filer_state.specs.state.Partition.{AreOf}
use Rattle.filer_state.specs.state.Deeds.{DoesJob, FilerSteps}
use Rattle.filer_state.specs.state.Lenses.{Lens, in_volume, volume_or_none}
use Rattle.filer_state.specs.state.Promises.{RightOnVolume, IsRight, IsSeenBy}
use Rattle.filer_state.specs.state.Calls.{VolumeCall, IsCallOn, ServesOn, DoesInnerOn, finished_as}
use Rattle.filer_state.specs.state.Running.{RunsOn, UnlessReplied, MovesTo, Runs, InnerRunsOn, taken_by, given_by, IsRefusedIn, InnerRuns}
use Rattle.filer_state.specs.laws.lemmas.Steps.{laid-out, get-some, volume-right}
use Rattle.filer_state.specs.laws.lemmas.Served.{serve-lift, stays, inner-lift}

-- what is right on a call's volume is right for an entry under the call's node
serve-right : {S : Type 0} (layout : Layout) (v : ℕ) (on : v < length layout.volumes) (lens : Lens VolumeContents S)
    → ((s : S) (p : VolumeContents) → (lens.put s p).number ≡ p.number)
    → (q : VolumeCall) (connection number xid : ℕ) (caller : Caller) (moment : Moment) (starved : Bool) → IsCallOn layout v q caller moment
    → (old : S) (reply : Reply) (new : S) → RightOnVolume v lens (ServesOn q starved) [] [] old (jobs.Replied reply) new
    → IsRight layout q.node (in_volume v lens) (Serve (finished_as q connection number xid caller moment starved)) old (jobs.Replied reply) new
serve-right layout v on lens numbered q connection number xid caller moment starved is old reply new right =
    volume-right layout v on lens (DoesJob layout q.node (Serve (finished_as q connection number xid caller moment starved))) (ServesOn q starved) [] []
    old (jobs.Replied reply) new numbered (λ u ne n. refl) (λ u ne n. refl)
    (λ c p after laid there here same does.
    serve-lift layout v q connection number xid caller moment is c laid p there here starved (jobs.Replied reply) after does) right

module _ {P S : Type 0} (layout : Layout) (v : ℕ) (on : v < length layout.volumes) (lens : Lens VolumeContents S)
    (numbered : (s : S) (p : VolumeContents) → (lens.put s p).number ≡ p.number) (q : VolumeCall) (caller : Caller) (moment : Moment)
    (is : IsCallOn layout v q caller moment) (before after : ℕ → Option (FilerParcel P)) (old new : S)
    (was : IsSeenBy layout q.node (in_volume v lens) before old)
    (step : (job : Job) (reply : JobReply) → IsRight layout q.node (in_volume v lens) job old reply new
    → FilerSteps (parents layout) (number_of layout q.node) job before reply after) where
  moves-to : (other : Affinity) → RunsOn v lens q old (Moved other) new → MovesTo layout q.node (Ask q.call caller) moment before other
  moves-to other right g hands made under sound =
      let c : FilerContents = filer_contents layout g in
      let laid = laid-out layout g in
      let found = get-some c.volumes v (let count = laid.volumes in omega arith) in
      let s = sound v found.0 found.1 in
      let has : lens.of found.0 ≡ old = ap (λ o. lens.of (volume_or_none o)) (sym found.1) ∙ was.has g under in
      let r = right found.0 hands hands made has s.0 s.1 (λ weigh. refl) in
      (stays layout v q 0 0 0 caller moment is c laid found.0 found.1 s.0 ∙ r.0.0, refl)

  -- where a handler's promise is kept by a set, the run is right by its parcels
  pub runs-by : (outcome : Outcome) → RunsOn v lens q old outcome new → UnlessReplied outcome ((k : ℕ) → after k ≡ before k)
      → Runs layout q.node (Ask q.call caller) moment before outcome after
  runs-by (Replied reply) right same = λ connection number xid.
      step (Serve (finished_as q connection number xid caller moment false)) (jobs.Replied reply)
      (serve-right layout v on lens numbered q connection number xid caller moment false is old reply new
      (λ p hands hands' made has at sound moved. let r = right p hands hands' made has at sound moved in ((r.0, λ e. absurd cc), r.1)))
  runs-by Starved right same = (
    (λ connection number xid. step (Serve (finished_as q connection number xid caller moment true)) (jobs.Replied SystemError)
        (serve-right layout v on lens numbered q connection number xid caller moment true is old SystemError new
        (λ p hands hands' made has at sound moved. let r = right p hands hands' made has at sound moved in ((r.0, λ e. refl), r.1)))),
    same,
  )
  runs-by (Moved other) right same = (moves-to other right, same)

-- ---- inner calls

module _ {P S : Type 0} (layout : Layout) (call : InnerCall) (on : inner_volume call < length layout.volumes) (lens : Lens VolumeContents S)
    (numbered : (s : S) (p : VolumeContents) → (lens.put s p).number ≡ p.number) (before after : ℕ → Option (FilerParcel P)) (old new : S)
    (was : IsSeenBy layout (inner_node call) (in_volume (inner_volume call) lens) before old)
    (step : (reply : JobReply) → IsRight layout (inner_node call) (in_volume (inner_volume call) lens) (Inner call) old reply new
    → FilerSteps (parents layout) (number_of layout (inner_node call)) (Inner call) before reply after) where
  -- where a handler's promise is kept by a set, the inner call is right by its parcels
  pub inner-runs-by : (outcome : Option JobReply) → InnerRunsOn (inner_volume call) lens call old outcome new
      → AreOf (inner_volume call) (taken_by call outcome) → AreOf (inner_volume call) (given_by call outcome)
      → (outcome ≡ None → (k : ℕ) → after k ≡ before k) → InnerRuns layout (inner_node call) call before outcome after
  inner-runs-by (Some reply) right from to same =
      step reply (volume-right layout (inner_volume call) on lens (DoesJob layout (inner_node call) (Inner call)) (DoesInnerOn call)
      (takes (Inner call) reply) (gives (Inner call) reply) old reply new numbered from to
      (λ c p next laid there here kept does. inner-lift layout call reply c p next there does) right)
  inner-runs-by None right from to same = (refused, same refl)
    where
      refused : IsRefusedIn layout (inner_node call) call before
      refused g hands made under sound p there =
          let s = sound (inner_volume call) p there in
          let has : lens.of p ≡ old = ap (λ o. lens.of (volume_or_none o)) (sym there) ∙ was.has g under in
          let r = right p hands hands made has s.0 s.1 (λ weigh. refl) in
          r.0.0
