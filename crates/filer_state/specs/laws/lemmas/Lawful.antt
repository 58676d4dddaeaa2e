-- A filer's steps are a machine's, and do their deeds.
use Rattle.std.proofs.Common.{◌≡◌, ℕ, ◌+◌, List, Option, None, refl}
use Rattle.nfs_model.specs.Tree.{Layout, Affinity}
use Rattle.nfs_model.specs.Parts.{Hand}
use Rattle.affinity.specs.Fault.{fault_of}
use Rattle.affinity.specs.Tree.{IsNode}
use Rattle.affinity.specs.Numbers.{number_of, parents}
use Rattle.depot_rule.specs.Machine.{IsLocal, Keeps}
use Rattle.depot_rule.specs.Completions.{IsLayoutOf, at_node}
use Rattle.depot_rule.specs.lemmas.Completions.{step-does, right-local, right-keeps}
use Rattle.filer_state.specs.state.Parcels.{FilerParcel}
use Rattle.filer_state.specs.state.Sound.{AllSound, IsFiler}
use Rattle.filer_state.specs.state.Jobs.{Job, JobReply, takes, gives}
use Rattle.filer_state.specs.state.Deeds.{ParcelsDo, FilerSteps}
use Rattle.filer_state.specs.state.Promises.{HandsMove}

module _ {P : Type 0} where
  pub steps-local : IsLocal (FilerSteps {P = P})
  steps-local ps a job f g reply f' step =
      let local = right-local IsLayoutOf (AllSound {P = P}) takes gives (at_node ParcelsDo) ps a job f g reply f' step.2 in
      (local.0, λ same. (step.0, step.1, local.1 same))

  pub steps-keep : Keeps (FilerSteps {P = P}) takes gives IsFiler
  steps-keep ps a job f reply f' hands hands' made sound step moved =
      right-keeps IsLayoutOf (AllSound {P = P}) takes gives (at_node ParcelsDo) ps a job f reply f' hands hands' made sound step.2 moved

  -- an entry did its deed on the very parcels that it found, and left all sound
  pub entry-does : (layout : Layout) → fault_of layout ≡ None → (node : Affinity) → IsNode layout node → (job : Job) (reply : JobReply)
      (f f' : ℕ → Option (FilerParcel P)) (hands hands' : List Hand) (made : ℕ)
      → FilerSteps (parents layout) (number_of layout node) job f reply f' → AllSound layout f hands made
      → HandsMove (takes job reply) (gives job reply) hands hands'
      → ParcelsDo layout node job f reply f' × AllSound layout f' hands' (made + 1)
  entry-does layout lawful node there job reply f f' hands hands' made step sound moved =
      let done = step-does IsLayoutOf (AllSound {P = P}) takes gives (at_node ParcelsDo) (parents layout) (number_of layout node) job f reply f'
      hands hands' made layout step.2 (lawful, refl) sound moved in
      (done.0 node there refl, done.1)
