-- What the desk's calls come to as events: begun, worked, finished and put back, with the number of each refusal.
use Rattle.std.proofs.Common.{◌≡◌, ℕ, true, false, Some, None, refl, ◌∙◌}
use Rattle.std.specs.Prelude.{slice_get, Result, Ok}
use Rattle.nfs_model.specs.Types.{Moment}
use Rattle.nfs_model.specs.Work.{Outcome}
use Rattle.nfs_model.specs.World.{Setup, World, IsScan, Message, Running, Worker}
use Rattle.nfs_model.specs.Events.Refusals.{Event, Begin, Work, Finish, Granted, is_idle, is_bad_moment, excluded, refusal}
use Rattle.nfs_model.specs.Events.Step.{Events, begun, worked, done_of, told_of, finished_by}
use Rattle.nfs_model.specs.Headline.{Kept}
use Rattle.nfs_model.specs.Agreed.{IsAgreed}
use Rattle.depot_rule.specs.declared.view.View.{View}
use Rattle.depot_rule.specs.declared.view.Entry.{Entry}
use Rattle.affinity.specs.declared.affinity.Kind.{Kind}
use Rattle.desk.specs.laws.Books.{now, IsTaken}
use Rattle.desk.specs.laws.Calls.{IsWorn, HasBegun, HasWorked}
use Rattle.desk.specs.laws.Backing.{IsBook}
use Rattle.filer_state.specs.state.Parcels.{FilerParcel}
use Rattle.filer_state.specs.state.Contents.{filer_contents}
use Rattle.filer_state.specs.state.Jobs.{Job, JobReply}
use Rattle.filer_state.specs.state.Deeds.{stored_all}
use Rattle.filer_state.specs.laws.Laws.{PartsPartition}
use Rattle.engine.specs.laws.Store.{FilerBooks, IsApart, StandsFor}
use Rattle.engine.specs.laws.Serving.{Serving}
use Rattle.engine.specs.laws.lemmas.Agreeing.{agreed}
use Rattle.engine.specs.laws.lemmas.Beginning.{told-taken, told-worn-out, told-nothing}
use Rattle.engine.specs.laws.lemmas.Working.{works}

-- a desk's seat keeps what is lent apart
pub book-apart : {P C R : Type 0} (kind : FilerParcel P → Kind) (b : FilerBooks P C R) (v : View (FilerParcel P) (Entry (FilerParcel P) C R))
    → IsBook kind b v → IsApart b
book-apart kind b v h = record {
  node = λ i l at. (h.backed i l at).node;
  apart = h.apart;
}

-- an event that leaves books that stand for the world keeps the headline
pub kept-after : {P C R : Type 0} (job : C → Job) (told : R → JobReply) → PartsPartition
    → ((setup : Setup) (old : World) (event : Event) (answer : Result _ ℕ) (new : World) → IsScan setup.codec → Kept setup old → IsAgreed setup new
    → Events setup old event answer new → Kept setup new)
    → (setup : Setup) (old : World) (event : Event) (answer : Result _ ℕ) (new : World) (b : FilerBooks P C R) → IsScan setup.codec → Kept setup old
    → StandsFor job told setup new b → Events setup old event answer new → Kept setup new
kept-after job told partition keep setup old event answer new b scan kept stands happens =
    keep setup old event answer new scan kept (agreed job told setup new b stands partition) happens

-- ---- begin

-- a message at a place, with an idle worker and a moment that is one: what is left to ask is what excludes it
begin-asks : (setup : Setup) (w : World) (worker place : ℕ) (moment : Moment) (m : Message) → is_idle (slice_get w.workers worker) ≡ true
    → slice_get w.waiting place ≡ Some m → is_bad_moment moment ≡ false → refusal setup w (Begin worker place moment) ≡ excluded setup w m.affinity
begin-asks setup w worker place moment m idle there good = rw (idle, there, good) refl

module _ {P C R : Type 0} (job : C → Job) (told : R → JobReply) (setup : Setup) (w : World) (b : FilerBooks P C R) (s : StandsFor job told setup w b)
    (worker place : ℕ) (moment : Moment) (m : Message) (idle : is_idle (slice_get w.workers worker) ≡ true) (there : slice_get w.waiting place ≡ Some m)
    (good : is_bad_moment moment ≡ false) where
  asks : refusal setup w (Begin worker place moment) ≡ excluded setup w m.affinity
  asks = begin-asks setup w worker place moment m idle there good

  pub begin-taken : IsTaken b m.affinity → refusal setup w (Begin worker place moment) ≡ Some 21
  begin-taken taken = asks ∙ told-taken setup job told w b s m.affinity taken

  pub begin-worn : IsWorn b m.affinity → refusal setup w (Begin worker place moment) ≡ Some 22
  begin-worn worn = asks ∙ told-worn-out setup job told w b s m.affinity worn

  pub begin-happens : (c : FilerBooks P C R) → HasBegun b worker m.affinity c
      → Events setup w (Begin worker place moment) (Ok (Granted m.affinity)) (begun w worker place m moment)
  begin-happens c begins = (asks ∙ told-nothing setup job told w b s m.affinity c worker begins, (m, there, refl, refl))

-- ---- work

module _ {P C R : Type 0} (job : C → Job) (told : R → JobReply) (setup : Setup) (w : World) (b : FilerBooks P C R) (s : StandsFor job told setup w b)
    (i : ℕ) (k : Worker) (there : slice_get w.workers i ≡ Some k) (r : Running) (runs : k.running ≡ Some r) (fresh : r.outcome ≡ None) where
  pub work-happens : (o : Outcome) (c : FilerBooks P C R) → HasWorked (Serving r) b i o c
      → Events setup w (Work i) (Ok (done_of o)) (worked w i r o (stored_all (filer_contents c.layout (now c))))
  work-happens o c done = (
    rw (there, runs, fresh) refl,
    (k, r, o, _, there, runs, works job told setup w b s i k there r runs fresh o c done, refl, refl),
  )

-- ---- finish

-- a worked message is finished, or waits again where it moved
pub finish-happens : (setup : Setup) (w : World) (i : ℕ) (k : Worker) (r : Running) (o : Outcome) → slice_get w.workers i ≡ Some k → k.running ≡ Some r
    → r.outcome ≡ Some o → Events setup w (Finish i) (Ok (told_of setup w r o)) (finished_by setup w i r o)
finish-happens setup w i k r o there runs came = (rw (there, runs, came) refl, (k, r, o, there, runs, came, refl, refl))
