-- The calls of the history's entries, and the finished calls that ran under an affinity, with one more.
use Rattle.std.proofs.Common.{◌≡◌, List, [], ◌∷◌, ◌++◌, Option, Some, None, refl, ap, ◌∙◌}
use Rattle.std.proofs.lemmas.List.{append-nil}
use Rattle.nfs_model.specs.Tree.{Affinity}
use Rattle.nfs_model.specs.Replay.{FinishedCall}
use Rattle.depot_rule.specs.declared.view.Entry.{Entry}
use Rattle.filer_state.specs.state.Jobs.{Job, Serve, Inner}
use Rattle.engine.specs.laws.Store.{calls_served, calls_run, with_served, with_run}

served-before : (job : Job) (xs ys : List FinishedCall) → with_served job (xs ++ ys) ≡ with_served job xs ++ ys
served-before (Serve call) xs ys = refl
served-before (Inner call) xs ys = refl

-- the calls of entries, and of one entry more
pub served-snoc : {P C R : Type 0} (job : C → Job) (es : List (Entry P C R)) (e : Entry P C R)
    → calls_served job (es ++ e ∷ []) ≡ calls_served job es ++ with_served (job e.call) []
served-snoc job [] e = refl
served-snoc job (d ∷ es) e = ap (with_served (job d.call)) (served-snoc job es e)
    ∙ served-before (job d.call) (calls_served job es) (with_served (job e.call) [])

run-before : (e : FinishedCall) (o : Option Affinity) (xs ys : List FinishedCall) → with_run e o (xs ++ ys) ≡ with_run e o xs ++ ys
run-before e None xs ys = refl
run-before e (Some a) xs ys = refl

-- finished calls, and one more
run-snoc : (es : List FinishedCall) (e : FinishedCall) → calls_run (es ++ e ∷ []) ≡ calls_run es ++ with_run e e.affinity []
run-snoc [] e = refl
run-snoc (d ∷ es) e = ap (with_run d d.affinity) (run-snoc es e) ∙ run-before d d.affinity (calls_run es) (with_run e e.affinity [])

-- one more that ran under an affinity
pub run-some : (es : List FinishedCall) (e : FinishedCall) (a : Affinity) → e.affinity ≡ Some a → calls_run (es ++ e ∷ []) ≡ calls_run es ++ e ∷ []
run-some es e a is = run-snoc es e ∙ ap (λ (o : Option Affinity). calls_run es ++ with_run e o []) is

-- one more that was answered at once
pub run-none : (es : List FinishedCall) (e : FinishedCall) → e.affinity ≡ None → calls_run (es ++ e ∷ []) ≡ calls_run es
run-none es e is = run-snoc es e ∙ ap (λ (o : Option Affinity). calls_run es ++ with_run e o []) is ∙ append-nil (calls_run es)
