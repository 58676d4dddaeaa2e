-- The sizes of the volumes that books stand for are the layout's.
use Rattle.std.proofs.Common.{false, List, [], ◌∷◌, Option, Some, None, sym, subst}
use Rattle.nfs_model.specs.Tree.{Layout}
use Rattle.nfs_model.specs.Server.{Server}
use Rattle.nfs_model.specs.Work.{Outcome, Replied, Starved, Moved}
use Rattle.nfs_model.specs.World.{Setup, World, Running, all_running}
use Rattle.nfs_model.specs.Replay.{server_after}
use Rattle.nfs_model.specs.Events.Step.{finished_call}
use Rattle.nfs_model.specs.Headline.{start, worked_by, server_worked}
use Rattle.nfs_laws.specs.Sizes.{HaveSizes}
use Rattle.nfs_laws.specs.lemmas.Sizes.{sizes_after, opening_sizes}
use Rattle.desk.specs.laws.Books.{settled, now}
use Rattle.filer_state.specs.state.Jobs.{Job, JobReply}
use Rattle.filer_state.specs.state.Tree.{tree}
use Rattle.engine.specs.laws.Store.{FilerBooks, StandsFor}
use Rattle.engine.specs.laws.lemmas.Agreeing.{now-served}

-- no call that runs changes them
worked-sized : (layout : Layout) (server : Server) (r : Running) (o : Option Outcome) → HaveSizes layout server → HaveSizes layout (worked_by server r o)
worked-sized layout server r None h = h
worked-sized layout server r (Some (Replied reply)) h = sizes_after layout (finished_call r false ∷ []) server h
worked-sized layout server r (Some Starved) h = h
worked-sized layout server r (Some (Moved a)) h = h

all-sized : (layout : Layout) (rs : List Running) (server : Server) → HaveSizes layout server → HaveSizes layout (server_worked server rs)
all-sized layout [] server h = h
all-sized layout (r ∷ rs) server h = all-sized layout rs (worked_by server r r.outcome) (worked-sized layout server r r.outcome h)

module _ {P C R : Type 0} (job : C → Job) (told : R → JobReply) (setup : Setup) (w : World) (b : FilerBooks P C R) (s : StandsFor job told setup w b) where
  -- as the finished calls left them
  pub settled-sized : HaveSizes b.layout (tree b.layout (settled b))
  settled-sized =
      subst (λ (x : Server). HaveSizes b.layout x) s.finished
      (subst (λ (l : Layout). HaveSizes l (server_after (start setup) w.finished)) (sym s.layout)
      (sizes_after setup.layout w.finished (start setup) (opening_sizes setup.layout setup.verifier)))

  -- as they are
  pub now-sized : HaveSizes b.layout (tree b.layout (now b))
  now-sized =
      subst (λ (x : Server). HaveSizes b.layout x) (sym (now-served job told setup w b s).1)
      (all-sized b.layout (all_running w.workers) (tree b.layout (settled b)) settled-sized)
