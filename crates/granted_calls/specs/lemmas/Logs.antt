-- The history of a filer's depot as a history of the definitions' entries: the server that it leaves.
use Rattle.std.proofs.Common.{◌≡◌, ℕ, List, [], ◌∷◌, ◌++◌, length, Option, None, refl, sym, ap, subst, arith}
use Rattle.nfs_model.specs.Tree.{Layout}
use Rattle.nfs_model.specs.Parts.{Hand}
use Rattle.affinity.specs.Fault.{fault_of}
use Rattle.affinity.specs.Numbers.{parents}
use Rattle.depot_rule.specs.declared.view.Entry.{Entry}
use Rattle.depot_rule.specs.Sums.{total}
use Rattle.depot_rule.specs.History.{behaviour, after, listed, patched, batches_of, AreHands, Legal, SoundThroughout}
use Rattle.filer_state.specs.state.Parcels.{FilerParcel}
use Rattle.filer_state.specs.state.Tree.{tree}
use Rattle.filer_state.specs.state.Sound.{IsFiler}
use Rattle.filer_state.specs.state.Jobs as jobs
use Rattle.filer_state.specs.state.Jobs.{takes, gives}
use Rattle.filer_state.specs.state.Deeds.{FilerSteps}
use Rattle.filer_state.specs.state.Replayed.{Replays}
use Rattle.filer_state.specs.laws.lemmas.Replays.{history-replays}
use Rattle.service.specs.Jobs.{job_steps, job_takes, job_gives}
use Rattle.service.specs.declared.job.Job.{Job}
use Rattle.service.specs.declared.job.JobReply.{JobReply}
use Rattle.granted_calls.specs.Logs.{as_defined, all_defined, calls_in, replies_in}

-- ---- entries

module _ {P : Type 0} where
  after-defined : (ps : List ℕ) (f : ℕ → Option P) (es : List (Entry P Job JobReply)) → after ps f (all_defined es) ≡ after ps f es
  after-defined ps f [] = refl
  after-defined ps f (e ∷ es) = after-defined ps (patched ps e.node (listed e.left) f) es

  taken-defined : (es : List (Entry P Job JobReply)) → batches_of takes (all_defined es) ≡ batches_of job_takes es
  taken-defined [] = refl
  taken-defined (e ∷ es) = ap (λ bs. job_takes e.call e.reply ++ bs) (taken-defined es)

  given-defined : (es : List (Entry P Job JobReply)) → batches_of gives (all_defined es) ≡ batches_of job_gives es
  given-defined [] = refl
  given-defined (e ∷ es) = ap (λ bs. job_gives e.call e.reply ++ bs) (given-defined es)

  hands-defined : (es : List (Entry P Job JobReply)) (hands : List Hand) → AreHands job_takes job_gives es hands → AreHands takes gives (all_defined es) hands
  hands-defined es hands are weigh =
      let t = ap (total weigh) (taken-defined es) in
      let g = ap (total weigh) (given-defined es) in
      let h = are weigh in
      omega (arith, t, g, h)

  count-defined : (es : List (Entry P Job JobReply)) → length (all_defined es) ≡ length es
  count-defined [] = refl
  count-defined (e ∷ es) = let r = count-defined es in omega (arith, r)

  -- a beginning of them is of a beginning
  begun-defined : (es : List (Entry P Job JobReply)) (xs ys : List (Entry P jobs.Job jobs.JobReply)) → xs ++ ys ≡ all_defined es
      → (earlier later : List (Entry P Job JobReply)) × (earlier ++ later ≡ es) × (all_defined earlier ≡ xs)
  begun-defined es [] ys same = ([], es, refl, refl)
  begun-defined [] (x ∷ xs) ys same = absurd (let no : ⊥ = cc in no)
  begun-defined (e ∷ es) (x ∷ xs) ys same =
      let rest = begun-defined es xs ys (let t : xs ++ ys ≡ all_defined es = cc in t) in
      let head : x ≡ as_defined e = cc in
      (e ∷ rest.0, rest.1, (λ j. e ∷ rest.2 j), λ j. sym head j ∷ rest.3 j)

module _ {P : Type 0} (layout : Layout) (lawful : fault_of layout ≡ None) (f : ℕ → Option (FilerParcel P)) where
  legal-defined : (es : List (Entry (FilerParcel P) Job JobReply)) (g : ℕ → Option (FilerParcel P)) → Legal job_steps (parents layout) g es
      → Legal FilerSteps (parents layout) g (all_defined es)
  legal-defined [] g legal = tt
  legal-defined (e ∷ es) g legal = (legal.0, legal-defined es (patched (parents layout) e.node (listed e.left) g) legal.1)

  sound-defined : (es : List (Entry (FilerParcel P) Job JobReply))
      → SoundThroughout (behaviour job_steps job_takes job_gives IsFiler) (parents layout) f es
      → SoundThroughout (behaviour FilerSteps takes gives IsFiler) (parents layout) f (all_defined es)
  sound-defined es sound xs ys same =
      let begun = begun-defined es xs ys same in
      let here = sound begun.0 begun.1 begun.2 in
      subst (λ (zs : List (Entry (FilerParcel P) jobs.Job jobs.JobReply)). (hands : List Hand) × AreHands takes gives zs hands
      × IsFiler (parents layout) (after (parents layout) f zs) hands (length zs)) begun.3 (
        here.0,
        hands-defined begun.0 here.0 here.1,
        subst (λ (g : ℕ → Option (FilerParcel P)). IsFiler (parents layout) g here.0 (length (all_defined begun.0)))
            (sym (after-defined (parents layout) f begun.0))
            (subst (λ n. IsFiler (parents layout) (after (parents layout) f begun.0) here.0 n) (sym (count-defined begun.0)) here.2),
      )

  -- the parcels that a history leaves stand for the serial server after its calls, whose replies are the replay's
  pub log-replays : (es : List (Entry (FilerParcel P) Job JobReply)) → Legal job_steps (parents layout) f es
      → SoundThroughout (behaviour job_steps job_takes job_gives IsFiler) (parents layout) f es
      → Replays (tree layout f) (tree layout (after (parents layout) f es)) (calls_in es) (replies_in es)
  log-replays es legal sound =
      subst (λ (g : ℕ → Option (FilerParcel P)). Replays (tree layout f) (tree layout g) (calls_in es) (replies_in es))
      (after-defined (parents layout) f es)
      (history-replays layout lawful f (all_defined es) (legal-defined es f legal) (sound-defined es sound))
