-- The history of an engine's only seat, as callers see it, and what it says of the world.
use Rattle.std.specs.Prelude.{◌≡◌, ℕ, List, [], ◌∷◌, length, Option, Some, None}
use Rattle.nfs_model.specs.Tree.{Layout}
use Rattle.nfs_model.specs.Replay.{server_after}
use Rattle.nfs_model.specs.World.{Setup, World, Running, Worker}
use Rattle.nfs_model.specs.Headline.{start}
use Rattle.affinity.specs.Numbers.{parents}
use Rattle.depot_rule.specs.declared.view.Entry.{Entry}
use Rattle.depot_rule.specs.History.{Legal, after, listed}
use Rattle.desk.specs.laws.Books.{Lent, overlaid}
use Rattle.filer_state.specs.state.Parcels.{FilerParcel}
use Rattle.filer_state.specs.state.Contents.{filer_contents}
use Rattle.filer_state.specs.state.Tree.{tree}
use Rattle.filer_state.specs.state.Partition.{all_parts}
use Rattle.filer_state.specs.state.Opening.{AreOpening}
use Rattle.filer_state.specs.state.Jobs.{Job, JobReply}
use Rattle.filer_state.specs.state.Deeds.{FilerSteps}
use Rattle.engine.specs.laws.Store.{calls_served, calls_run}

-- what the seat has seen: the parcels by node as the filer began, and each call that was stamped since, in order, with its node,
-- its reply and the parcels that it left
pub record SeatHistory (P : Type 0) : Type 0 where
  pub first : List (Option (FilerParcel P))
  pub entries : List (Entry (FilerParcel P) Job JobReply)

-- an entry with the job and the reply that its call and reply are
abbrev pub entry_seen : {P C R : Type 0} → (C → Job) → (R → JobReply) → Entry (FilerParcel P) C R → Entry (FilerParcel P) Job JobReply
entry_seen job told e = record { node = e.node; call = job e.call; reply = told e.reply; left = e.left }

module _ {P : Type 0} where
  -- the parcels as the history left them: those at the start, with what each entry left put in, in order
  abbrev pub left_by : Layout → SeatHistory P → ℕ → Option (FilerParcel P)
  left_by layout h = after (parents layout) (listed h.first) h.entries

  -- the parcels as they are: those that workers were lent are as the workers have them
  abbrev pub parcels_now : Layout → SeatHistory P → List (Option (Lent (FilerParcel P))) → ℕ → Option (FilerParcel P)
  parcels_now layout h lent = overlaid layout lent (left_by layout h)

  -- a worker was lent the parcels under the affinity of the message that it runs, and none where it runs nothing
  abbrev pub IsLentFor : Option Running → Option (Lent (FilerParcel P)) → Type 0
  IsLentFor None None = Unit {0}
  IsLentFor None (Some l) = ⊥
  IsLentFor (Some r) None = ⊥
  IsLentFor (Some r) (Some l) = l.affinity ≡ r.message.affinity

  -- each of the workers
  abbrev pub AreLentFor : List Worker → List (Option (Lent (FilerParcel P))) → Type 0
  AreLentFor [] [] = Unit {0}
  AreLentFor [] (x ∷ xs) = ⊥
  AreLentFor (k ∷ ks) [] = ⊥
  AreLentFor (k ∷ ks) (x ∷ xs) = IsLentFor k.running x × AreLentFor ks xs

-- What the history of its seat says of an engine of this layout.
pub record IsHistory {P : Type 0} (layout : Layout) (setup : Setup) (w : World) (h : SeatHistory P) : Type 0 where
  -- It begins with the parcels of a filer to which nothing has happened.
  pub opening : AreOpening layout setup.verifier (listed h.first)
  -- Each entry is a step of the filer, from the parcels that the entries before it left to its reply and to those that it left.
  pub legal : Legal FilerSteps (parents layout) (listed h.first) h.entries
  -- The calls of its entries are the finished ones that ran under an affinity, in finishing order, each with its own connection,
  -- record number, affinity and moment. Between them stand inner calls alone.
  pub calls : calls_served (λ job. job) h.entries ≡ calls_run w.finished
  -- It has as many entries as calls were stamped.
  pub stamps : w.stamps ≡ length h.entries
  -- The engine's parcels are as the history left them, but for those of running messages, which are as their workers have them now.
  -- The server and the parts that are seen are those of these parcels.
  pub lent : List (Option (Lent (FilerParcel P)))
  pub lent_to : AreLentFor w.workers lent
  pub server : w.server ≡ tree layout (parcels_now layout h lent)
  pub parts : w.parts ≡ all_parts (filer_contents layout (parcels_now layout h lent))
  -- As the history left them, they stand for the serial server after the finished calls.
  pub finished : server_after (start setup) w.finished ≡ tree layout (left_by layout h)
