-- CREATE and MKDIR are right since they come to what is the serial server's.
use Rattle.std.proofs.Common.{◌≡◌, ℕ, Result, Ok, Err, sym, subst}
use Rattle.std.specs.Prelude.{IfOk, OnOk, OnErr}
use Rattle.std.specs.declared.alloc.AllocError.{AllocError}
use Rattle.nfs_values.specs.Answer as values
use Rattle.nfs_values.specs.declared.answer.Answer as answered
use Rattle.nfs_values.specs.declared.answer.MakeResults.{MakeResults}
use Rattle.nfs_values.specs.declared.status.Status.{Status}
use Rattle.filer_state.specs.state.Lenses.{LogicalSet, logical_lens}
use Rattle.filer_state.specs.state.Calls.{VolumeCall}
use Rattle.filer_state.specs.state.Changes.{LogicalAnswer}
use Rattle.filer_state.specs.state.Running.{RunsOn}
use Rattle.filer_state.specs.changes.Laws.{IsDone, MayStarve}
use Rattle.service_names.specs.Making.{Makes}
use Rattle.service_names.specs.Promises.{making_outcome}
use Rattle.service_names.proofs.Laws.{right-by}

-- by what came of it: a reply that is the law's, or no memory where it may run out, by one more fact
pub made-by-absent : (v : ℕ) (call : VolumeCall) (old new : LogicalSet) (answer : Result MakeResults Status → answered.Answer) (done : LogicalAnswer)
    {Absent : Type 0} → IsDone v call old done → (Absent → Makes done.answer → MayStarve v call old)
    → (r : Result (Result MakeResults Status) AllocError)
    → IfOk r (λ told. values.answer_of (answer told) ≡ done.answer) → OnOk r (new ≡ done.set) → OnErr r (Makes done.answer) → OnErr r Absent
    → OnErr r (new ≡ old) → RunsOn v logical_lens call old (making_outcome answer r) new
made-by-absent v call old new answer done law starve (Ok told) answers leaves would absent back = λ p hands hands' made has numbered sound moved.
    let r = right-by v call old new (values.answer_of (answer told)) done law answers leaves p hands hands' made has numbered sound moved in
    (r.0.0, r.1)
made-by-absent v call old new answer done law starve (Err e) answers leaves would absent back =
    subst (λ (s : LogicalSet). RunsOn v logical_lens call old (making_outcome answer (Err e)) s) (sym back) (starve absent would)

pub made-by : (v : ℕ) (call : VolumeCall) (old new : LogicalSet) (answer : Result MakeResults Status → answered.Answer) (done : LogicalAnswer)
    → IsDone v call old done → (Makes done.answer → MayStarve v call old)
    → (r : Result (Result MakeResults Status) AllocError)
    → IfOk r (λ told. values.answer_of (answer told) ≡ done.answer) → OnOk r (new ≡ done.set) → OnErr r (Makes done.answer) → OnErr r (new ≡ old)
    → RunsOn v logical_lens call old (making_outcome answer r) new
made-by v call old new answer done law starve r answers leaves would back =
    made-by-absent v call old new answer done {Absent = Makes done.answer} law (λ made same. starve made) r answers leaves would would back
