-- An entry that was added to a history did its deed on the parcels that the entries before it left.
use Rattle.std.proofs.Common.{◌≡◌, ℕ, List, [], ◌∷◌, ◌++◌, length, Option, None, refl, sym, subst, arith}
use Rattle.nfs_model.specs.Tree.{Layout, Affinity}
use Rattle.affinity.specs.Fault.{fault_of}
use Rattle.affinity.specs.Numbers.{number_of, parents}
use Rattle.affinity.specs.Tree.{IsNode}
use Rattle.affinity.specs.lemmas.Alike.{alike}
use Rattle.depot_rule.specs.declared.view.Entry.{Entry}
use Rattle.depot_rule.specs.History.{Legal, SoundThroughout, AreHands, after, put_in, listed}
use Rattle.depot_rule.specs.Plays.{HasAdded}
use Rattle.depot_rule.specs.lemmas.Histories.{moved-snoc, starts-itself}
use Rattle.filer_state.specs.state.Deeds.{ParcelsDo, FilerSteps}
use Rattle.filer_state.specs.state.Parcels.{FilerParcel}
use Rattle.filer_state.specs.state.Promises.{HandsMove}
use Rattle.filer_state.specs.state.Sound.{AreSound, AllSound, IsFiler}
use Rattle.filer_state.specs.laws.lemmas.Alike.{filer-same}
use Rattle.filer_state.specs.laws.lemmas.Lawful.{entry-does}
use Rattle.filer_state.specs.declared.files.Files.{Files}
use Rattle.service.specs.Jobs.{job_of, job_reply_of, job_steps, job_takes, job_gives}
use Rattle.granted_calls.specs.Balance.{FilerView, FilerEntry}
use Rattle.turns.specs.Carries.{left_by}
use Rattle.granted_calls.specs.Served.{filer_behaviour}

-- the last entry of a legal history is a step from what the others left
legal-last : {P C R : Type 0} (steps : List ℕ → ℕ → C → (ℕ → Option P) → R → (ℕ → Option P) → Type 0) (ps : List ℕ) (f : ℕ → Option P)
    (es : List (Entry P C R)) (e : Entry P C R) → Legal steps ps f (es ++ e ∷ [])
    → steps ps e.node e.call (after ps f es) e.reply (put_in ps e (after ps f es))
legal-last steps ps f [] e l = l.0
legal-last steps ps f (d ∷ es) e l = legal-last steps ps (put_in ps d f) es e l.1

module _ (layout : Layout) (lawful : fault_of layout ≡ None) (f : ℕ → Option (FilerParcel Files)) (es : List FilerEntry) (e : FilerEntry)
    (node : Affinity) (there : IsNode layout node) (is : e.node ≡ number_of layout node) where
  abbrev before : ℕ → Option (FilerParcel Files)
  before = after (parents layout) f es

  abbrev then : ℕ → Option (FilerParcel Files)
  then = put_in (parents layout) e before

  last-did : Legal job_steps (parents layout) f (es ++ e ∷ []) → SoundThroughout filer_behaviour (parents layout) f (es ++ e ∷ [])
      → ParcelsDo layout node (job_of e.call) before (job_reply_of e.reply) then
  last-did legal sound =
      let all : List FilerEntry = es ++ e ∷ [] in
      let end = starts-itself all in
      let at = sound es (e ∷ []) refl in
      let last = sound all end.0 end.1 in
      let first_hands : AreHands job_takes job_gives es at.0 = at.1 in
      let last_hands : AreHands job_takes job_gives all last.0 = last.1 in
      let good : IsFiler (parents layout) before at.0 (length es) = at.2 in
      let here : AllSound layout before at.0 (length es) =
      subst (λ c. AreSound c at.0 (length es)) (filer-same good.0 layout (alike good.0 layout good.1.1) before) good.2 in
      let moved : HandsMove (job_takes e.call e.reply) (job_gives e.call e.reply) at.0 last.0 = λ weigh.
      let a = first_hands weigh in
      let b = last_hands weigh in
      let t = moved-snoc job_takes weigh es e in
      let g = moved-snoc job_gives weigh es e in
      omega (arith, a, b, t, g) in
      let step : FilerSteps (parents layout) (number_of layout node) (job_of e.call) before (job_reply_of e.reply) then =
      subst (λ n. FilerSteps (parents layout) n (job_of e.call) before (job_reply_of e.reply) then) is (legal-last job_steps (parents layout) f es e legal) in
      (entry-does layout lawful node there (job_of e.call) (job_reply_of e.reply) before then at.0 last.0 (length es) step here moved).0

-- the entry that a seat added
pub added-did : (layout : Layout) → fault_of layout ≡ None → (v : FilerView) → v.tree ≡ parents layout → (between : List FilerEntry) (e : FilerEntry)
    (node : Affinity) → IsNode layout node → e.node ≡ number_of layout node → HasAdded filer_behaviour v between e
    → ParcelsDo layout node (job_of e.call) (left_by v between) (job_reply_of e.reply) (put_in v.tree e (left_by v between))
added-did layout lawful v of between e node there is added =
    let es : List FilerEntry = v.seen ++ between in
    subst (λ ps. ParcelsDo layout node (job_of e.call) (after ps (listed v.first) es) (job_reply_of e.reply) (put_in ps e (after ps (listed v.first) es)))
    (sym of)
    (last-did layout lawful (listed v.first) es e node there is
    (subst (λ ps. Legal job_steps ps (listed v.first) (es ++ e ∷ [])) of added.0)
    (subst (λ ps. SoundThroughout filer_behaviour ps (listed v.first) (es ++ e ∷ [])) of added.1))
