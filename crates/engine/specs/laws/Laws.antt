-- What follows from the definitions.
use Rattle.std.specs.Prelude.{◌≡◌, ℕ, Some, None, slice_get}
use Rattle.nfs_model.specs.Work.{Outcome}
use Rattle.nfs_model.specs.World.{Setup, World, Running, Worker, store_of, task_of}
use Rattle.nfs_model.specs.Work.{Works}
use Rattle.nfs_model.specs.Agreed.{IsAgreed}
use Rattle.filer_state.specs.state.Contents.{filer_contents}
use Rattle.filer_state.specs.state.Deeds.{stored_all}
use Rattle.filer_state.specs.state.Jobs.{Job, JobReply}
use Rattle.desk.specs.laws.Books.{now}
use Rattle.desk.specs.laws.Calls.{HasWorked}
use Rattle.engine.specs.laws.Store.{FilerBooks, StandsFor}
use Rattle.engine.specs.laws.Serving.{Serving}

module _ (P C R : Type 0) where
  -- calls that run at one time don't disturb each other, where the desk's books stand for the world
  abbrev pub CallsAgree : Type 0
  CallsAgree = (job : C → Job) (told : R → JobReply) (setup : Setup) (w : World) (b : FilerBooks P C R) → StandsFor job told setup w b → IsAgreed setup w

  -- a message that is worked on what its worker was lent comes to what the model says
  abbrev pub WorkIsTheModels : Type 0
  WorkIsTheModels = (job : C → Job) (told : R → JobReply) (setup : Setup) (w : World) (b : FilerBooks P C R) → StandsFor job told setup w b
      → (i : ℕ) (k : Worker) → slice_get w.workers i ≡ Some k → (r : Running) → k.running ≡ Some r → r.outcome ≡ None
      → (o : Outcome) (c : FilerBooks P C R) → HasWorked (Serving r) b i o c
      → Works (task_of r) (store_of w) o (stored_all (filer_contents c.layout (now c)))
