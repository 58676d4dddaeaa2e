-- The sizes of the volumes that a history of a filer's depot leaves are the layout's.
use Rattle.std.proofs.Common.{◌≡◌, ℕ, List, [], ◌∷◌, ◌++◌, Option, None, sym, ap, ◌∙◌, subst, append_assoc}
use Rattle.nfs_model.specs.Tree.{Layout}
use Rattle.nfs_model.specs.Server.{Server}
use Rattle.nfs_laws.specs.Sizes.{HaveSizes}
use Rattle.nfs_laws.specs.lemmas.Sizes.{sizes_after, opening_sizes}
use Rattle.affinity.specs.Fault.{fault_of}
use Rattle.affinity.specs.Numbers.{parents}
use Rattle.depot_rule.specs.declared.view.Entry.{Entry}
use Rattle.depot_rule.specs.History.{behaviour, after, listed, put_in, Legal, SoundThroughout}
use Rattle.depot_rule.specs.Plays.{HasAdded}
use Rattle.filer_state.specs.state.Opening.{AreOpening}
use Rattle.filer_state.specs.state.Parcels.{FilerParcel}
use Rattle.filer_state.specs.state.Sound.{IsFiler}
use Rattle.filer_state.specs.state.Tree.{tree}
use Rattle.filer_state.specs.laws.lemmas.Opening.{opening-tree}
use Rattle.service.specs.Jobs.{job_steps, job_takes, job_gives}
use Rattle.service.specs.declared.job.Job.{Job}
use Rattle.service.specs.declared.job.JobReply.{JobReply}
use Rattle.granted_calls.specs.Balance.{FilerView, FilerEntry}
use Rattle.turns.specs.Carries.{left_by}
use Rattle.granted_calls.specs.Logs.{calls_in}
use Rattle.granted_calls.specs.Served.{filer_behaviour}
use Rattle.granted_calls.specs.Filers.{HasOpened}
use Rattle.granted_calls.specs.lemmas.Logs.{log-replays}

-- the entries before the last are legal
legal-before : {P C R : Type 0} (steps : List ℕ → ℕ → C → (ℕ → Option P) → R → (ℕ → Option P) → Type 0) (ps : List ℕ) (f : ℕ → Option P)
    (es : List (Entry P C R)) (e : Entry P C R) → Legal steps ps f (es ++ e ∷ []) → Legal steps ps f es
legal-before steps ps f [] e l = tt
legal-before steps ps f (d ∷ es) e l = (l.0, legal-before steps ps (put_in ps d f) es e l.1)

module _ {P : Type 0} (layout : Layout) (lawful : fault_of layout ≡ None) (verifier : List ℕ) where
  pub log-sized : (f : ℕ → Option (FilerParcel P)) → AreOpening layout verifier f → (es : List (Entry (FilerParcel P) Job JobReply))
      → Legal job_steps (parents layout) f es → SoundThroughout (behaviour job_steps job_takes job_gives IsFiler) (parents layout) f es
      → HaveSizes layout (tree layout (after (parents layout) f es))
  log-sized f opened es legal sound =
      subst (λ (s : Server). HaveSizes layout s) (sym (log-replays layout lawful f es legal sound).server)
      (sizes_after layout (calls_in es) (tree layout f)
      (subst (λ (s : Server). HaveSizes layout s) (sym (opening-tree layout lawful verifier f opened)) (opening_sizes layout verifier)))

-- before an entry that a seat added
pub before-sized : (layout : Layout) → fault_of layout ≡ None → (verifier : List ℕ) (v : FilerView) → v.tree ≡ parents layout
    → HasOpened layout verifier v → (between : List FilerEntry) (e : FilerEntry) → HasAdded filer_behaviour v between e
    → HaveSizes layout (tree layout (left_by v between))
before-sized layout lawful verifier v of opened between e added =
    let es : List FilerEntry = v.seen ++ between in
    subst (λ ps. HaveSizes layout (tree layout (after ps (listed v.first) es))) (sym of)
    (log-sized layout lawful verifier (listed v.first) opened es
    (legal-before job_steps (parents layout) (listed v.first) es e
    (subst (λ ps. Legal job_steps ps (listed v.first) (es ++ e ∷ [])) of added.0))
    (λ earlier later is.
    subst (λ ps. SoundThroughout filer_behaviour ps (listed v.first) (es ++ e ∷ [])) of added.1 earlier (later ++ e ∷ [])
    (sym (append_assoc earlier later (e ∷ [])) ∙ ap (λ (x : List FilerEntry). x ++ e ∷ []) is)))
