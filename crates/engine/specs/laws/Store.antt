-- What an engine's calls run on: the books of a desk of a filer's parcels, and the server and the parts that they stand for.
use Rattle.std.specs.Prelude.{◌≡◌, ◌≢◌, ℕ, false, true, List, [], ◌∷◌, ◌++◌, Option, Some, None}
use Rattle.nfs_model.specs.Types.{Reply, SystemError}
use Rattle.nfs_model.specs.Tree.{Affinity, excludes}
use Rattle.nfs_model.specs.Parts.{Hand}
use Rattle.nfs_model.specs.Replay.{FinishedCall, server_after}
use Rattle.nfs_model.specs.Work.{Outcome, Replied, Starved, Moved}
use Rattle.nfs_model.specs.World.{Setup, World, Running, Worker}
use Rattle.nfs_model.specs.Events.Step.{finished_call}
use Rattle.nfs_model.specs.Headline.{start, IsTriedAt}
use Rattle.affinity.specs.Fault.{fault_of}
use Rattle.affinity.specs.Tree.{IsNode}
use Rattle.affinity.specs.Numbers.{number_of, parents}
use Rattle.depot_rule.specs.declared.view.Entry.{Entry}
use Rattle.depot_rule.specs.History.{Behaviour, behaviour, Legal}
use Rattle.desk.specs.laws.Books.{Lent, Books, settled, now, stamps, HasLent, UnderLent, IsUnchanged, HasHands, IsSettled}
use Rattle.filer_state.specs.state.Parcels.{FilerParcel}
use Rattle.filer_state.specs.state.Contents.{filer_contents}
use Rattle.filer_state.specs.state.Tree.{tree}
use Rattle.filer_state.specs.state.Partition.{all_parts}
use Rattle.filer_state.specs.state.Sound.{IsFiler}
use Rattle.filer_state.specs.state.Jobs as jobs
use Rattle.filer_state.specs.state.Jobs.{Job, Serve, Inner, JobReply, takes, gives, batches_in}
use Rattle.filer_state.specs.state.Deeds.{FilerSteps}
use Rattle.filer_state.specs.state.Opening.{AreOpening}

-- the books of a desk of a filer's parcels, with calls and replies of whatever types
abbrev pub FilerBooks : Type 0 → Type 0 → Type 0 → Type 0
FilerBooks P C R = Books (FilerParcel P) C R

-- what a depot of them runs, by the jobs and replies that its calls and replies are
abbrev pub filer : {P C R : Type 0} → (C → Job) → (R → JobReply) → Behaviour (FilerParcel P) C R Hand
filer {P} job told = behaviour (λ ps a call f reply f'. FilerSteps ps a (job call) f (told reply) f') (λ call reply. takes (job call) (told reply))
    (λ call reply. gives (job call) (told reply)) (IsFiler {P = P})

-- the batches that workers carry
abbrev pub batches_carried : List Worker → List Hand
batches_carried [] = []
batches_carried (k ∷ ks) = batches_in k.hand ++ batches_carried ks

-- ---- the calls of the history

-- the call of an entry that a record asks for, before others
abbrev pub with_served : Job → List FinishedCall → List FinishedCall
with_served (Serve call) others = call ∷ others
with_served (Inner call) others = others

-- the calls of entries that records ask for, in order: those of inner calls are left out
abbrev pub calls_served : {P C R : Type 0} → (C → Job) → List (Entry P C R) → List FinishedCall
calls_served job [] = []
calls_served job (e ∷ es) = with_served (job e.call) (calls_served job es)

-- a finished call before others, where it ran under an affinity
abbrev pub with_run : FinishedCall → Option Affinity → List FinishedCall → List FinishedCall
with_run e None others = others
with_run e (Some a) others = e ∷ others

-- the finished calls that ran under an affinity, in order: those that were answered at once are left out
abbrev pub calls_run : List FinishedCall → List FinishedCall
calls_run [] = []
calls_run (e ∷ es) = with_run e e.affinity (calls_run es)

-- ---- what books stand for

module _ {P C R : Type 0} where
  -- what is lent was left by a call, from what the finished calls left
  abbrev pub IsServed : FilerBooks P C R → Lent (FilerParcel P) → FinishedCall → Reply → Type 0
  IsServed b l call reply = (f : ℕ → Option (FilerParcel P)) × UnderLent b l (λ k. f k ≡ settled b k)
      × FilerSteps (parents b.layout) (number_of b.layout l.affinity) (Serve call) f (jobs.Replied reply) l.parcels

  -- By its outcome, what a running message did with the parcels that it was lent: a reply is that of a step of the filer, and
  -- so is SYSTEM_ERR where the call was starved. A message that isn't worked, or moved, changed nothing.
  abbrev pub HasOutcome : Setup → FilerBooks P C R → Running → Lent (FilerParcel P) → Option Outcome → Type 0
  HasOutcome setup b r l None = IsUnchanged b l
  HasOutcome setup b r l (Some (Replied reply)) = IsServed b l (finished_call r false) reply
  HasOutcome setup b r l (Some Starved) = IsServed b l (finished_call r true) SystemError
  HasOutcome setup b r l (Some (Moved a)) = IsUnchanged b l × IsTriedAt setup r.message.asked a

  -- a worker was lent the parcels under its message's affinity, and none where it runs nothing
  abbrev pub RunsOn : Setup → FilerBooks P C R → Option Running → Option (Lent (FilerParcel P)) → Type 0
  RunsOn setup b None None = Unit {0}
  RunsOn setup b None (Some l) = ⊥
  RunsOn setup b (Some r) None = ⊥
  RunsOn setup b (Some r) (Some l) = (l.affinity ≡ r.message.affinity) × HasOutcome setup b r l r.outcome

  -- each of the workers
  abbrev pub RunOn : Setup → FilerBooks P C R → List Worker → List (Option (Lent (FilerParcel P))) → Type 0
  RunOn setup b [] [] = Unit {0}
  RunOn setup b [] (x ∷ xs) = ⊥
  RunOn setup b (k ∷ ks) [] = ⊥
  RunOn setup b (k ∷ ks) (x ∷ xs) = RunsOn setup b k.running x × RunOn setup b ks xs

  -- what is lent is under nodes of the layout that don't exclude each other
  pub record IsApart (b : FilerBooks P C R) : Type 0 where
    pub node : (i : ℕ) (l : Lent (FilerParcel P)) → HasLent b i l → IsNode b.layout l.affinity
    pub apart : (i j : ℕ) (l k : Lent (FilerParcel P)) → HasLent b i l → HasLent b j k → i ≢ j
        → excludes b.layout l.affinity k.affinity ≡ false

  -- The books stand for the server and the parts of a world: those of the parcels as they are, with the changes of calls that
  -- were worked and aren't finished. The parcels as the finished calls left them stand for the serial server after these.
  pub record StandsFor (job : C → Job) (told : R → JobReply) (setup : Setup) (w : World) (b : FilerBooks P C R) : Type 0 where
    pub layout : b.layout ≡ setup.layout
    pub lawful : fault_of b.layout ≡ None
    pub lent : IsApart b
    pub server : w.server ≡ tree b.layout (now b)
    pub parts : w.parts ≡ all_parts (filer_contents b.layout (now b))
    pub finished : server_after (start setup) w.finished ≡ tree b.layout (settled b)
    pub stamps : w.stamps ≡ stamps b
    pub workers : RunOn setup b w.workers b.lent
    pub hands : HasHands (filer job told) b (batches_carried w.workers)
    pub sound : IsSettled (filer job told) b
    -- The history: it begins with the parcels of a new filer; each entry is a step from what the entries before it left; and the
    -- calls of its entries are the finished ones that ran under an affinity, in order, with inner calls between them.
    pub opening : AreOpening b.layout setup.verifier b.first
    pub legal : Legal (filer job told).steps (parents b.layout) b.first b.entries
    pub calls : calls_served job b.entries ≡ calls_run w.finished
