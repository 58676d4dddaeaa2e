-- Calls that are right since they come to what is the serial server's.
use Rattle.std.proofs.Common.{◌≡◌, ℕ, false, [], sym, subst}
use Rattle.nfs_model.specs.Types.{Answer, Success}
use Rattle.filer_state.specs.state.Lenses.{LogicalSet, logical_lens}
use Rattle.filer_state.specs.state.Promises.{RightOnVolume}
use Rattle.filer_state.specs.state.Jobs.{Replied}
use Rattle.filer_state.specs.state.Calls.{VolumeCall, ServesOn}
use Rattle.filer_state.specs.state.Changes.{LogicalAnswer}
use Rattle.filer_state.specs.changes.Laws.{IsDone}

pub right-by : (v : ℕ) (call : VolumeCall) (old new : LogicalSet) (answer : Answer) (done : LogicalAnswer) → IsDone v call old done
    → answer ≡ done.answer → new ≡ done.set
    → RightOnVolume v logical_lens (ServesOn call false) [] [] old (Replied (Success answer)) new
right-by v call old new answer done law answers leaves =
    subst (λ (a : Answer). RightOnVolume v logical_lens (ServesOn call false) [] [] old (Replied (Success a)) new) (sym answers)
    (subst (λ (s : LogicalSet). RightOnVolume v logical_lens (ServesOn call false) [] [] old (Replied (Success done.answer)) s) (sym leaves) law)
