-- What it is to run a call on a part of all that is stored, in place of a part of one volume.
use Rattle.std.specs.Prelude.{◌≡◌, []}
use Rattle.nfs_model.specs.Tree.{Layout}
use Rattle.nfs_model.specs.Work.{Task, Outcome, Works}
use Rattle.filer_state.specs.state.Contents.{FilerContents}
use Rattle.filer_state.specs.state.Deeds.{stored_all}
use Rattle.filer_state.specs.state.Lenses.{Lens}
use Rattle.filer_state.specs.state.Promises.{RightOnAll}
use Rattle.filer_state.specs.state.Running.{UnlessReplied}

-- The outcome on all that is stored. It is that of the work on what calls run on; and unless the call was answered, nothing has
-- changed, also of what calls don't see.
abbrev pub WorksOnAll : Task → FilerContents → Outcome → FilerContents → Type 0
WorksOnAll task old outcome new = Works task (stored_all old) outcome (stored_all new) × UnlessReplied outcome (new ≡ old)

-- What a handler promises of a task by the part of all that is stored that it holds: whatever the rest is, where all is laid out
-- and sound, the part's change is the task's outcome, and all is sound again, with one more entry.
abbrev pub RunsOnAll : {S : Type 0} → Layout → Lens FilerContents S → Task → S → Outcome → S → Type 0
RunsOnAll layout lens task old outcome new = RightOnAll layout lens (WorksOnAll task) [] [] old outcome new
