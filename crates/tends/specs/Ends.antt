-- What is there at the end of a filer.
use Rattle.std.specs.Prelude.{◌≡◌, ◌<◌, ◌≤◌, ℕ, List, length, Option}
use Rattle.nfs_model.specs.Parts.{Hand}
use Rattle.nfs_model.specs.Server.{opening}
use Rattle.nfs_model.specs.Tree as trees
use Rattle.affinity.specs.Numbers.{parents}
use Rattle.depot.specs.Words.{held_in, view}
use Rattle.depot_rule.specs.History.{after, listed, AreHands, Legal, SoundThroughout}
use Rattle.depot_rule.specs.Shares.{worn}
use Rattle.filer_state.specs.state.Opening.{AreOpening}
use Rattle.filer_state.specs.state.Parcels.{FilerParcel}
use Rattle.filer_state.specs.state.Replayed.{Replays}
use Rattle.filer_state.specs.state.Sets.{FilerSerial}
use Rattle.filer_state.specs.state.Sound.{AllSound}
use Rattle.filer_state.specs.state.Tree.{tree}
use Rattle.filer_state.specs.declared.files.Files.{Files}
use Rattle.turns.specs.Jobs.{job_steps, job_takes, job_gives}
use Rattle.granted_calls.specs.Balance.{FilerEntry, FilerView}
use Rattle.granted_calls.specs.Logs.{calls_in, replies_in}
use Rattle.granted_calls.specs.Served.{filer_behaviour}
use Rattle.tends.specs.declared.held.Held.{Held}
use Rattle.tends.specs.declared.left.Left.{Left}

-- From the opening parcels the log is a legal history. A serial run of its calls, in its order, goes from the opening server to the one
-- that the parcels stand for, and gives its replies. The parcels are as it left them. The hands are what it took and didn't give, with
-- which each block number of each volume stands in one place.
pub record HasEnded (layout : trees.Layout) (verifier : List ℕ) (parcels : ℕ → Option (FilerParcel Files)) (hands : List Hand)
    (log : List FilerEntry) : Type 0 where
  pub first : List (Option (FilerParcel Files))
  pub opened : AreOpening layout verifier (listed first)
  pub legal : Legal job_steps (parents layout) (listed first) log
  pub throughout : SoundThroughout filer_behaviour (parents layout) (listed first) log
  pub replays : Replays (opening layout verifier) (tree layout parcels) (calls_in log) (replies_in log)
  pub left : (k : ℕ) → 0 < k → k < length (parents layout) → parcels k ≡ after (parents layout) (listed first) log k
  pub are_hands : AreHands job_takes job_gives log hands
  pub sound : AllSound layout parcels hands (length log)

-- the history as far as the seat that is left has seen it: at the end all of it
abbrev pub log_in : Left → List FilerEntry
log_in left = (view left.seat).seen

-- the parcels as a history left them that the seat has seen
abbrev pub left_by : trees.Layout → FilerView → ℕ → Option (FilerParcel Files)
left_by layout v = after (parents layout) (listed v.first) v.seen

-- the set of all parcels that is held
abbrev pub granted_in : Held → FilerSerial Files
granted_in held = held_in held.grant

-- the ticket is worn: 2^62 calls or more were finished
abbrev pub IsWornOut : List FilerEntry → Type 0
IsWornOut log = worn ≤ length log

-- the same hands, and the same messages that were kept and that wait
abbrev pub IsSameRest : Left → Left → Type 0
IsSameRest before after = (after.hands ≡ before.hands) × (after.kept ≡ before.kept) × (after.waiting ≡ before.waiting)
