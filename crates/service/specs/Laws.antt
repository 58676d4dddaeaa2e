-- What follows of the grants of a depot that serves a filer's parcels: where its block numbers are.
use Rattle.std.specs.Prelude.{◌≡◌, ℕ, ◌+◌, ◌<◌, ◌≤◌, List, length, Option}
use Rattle.nfs_model.specs.Tree.{Layout, Affinity, Serial}
use Rattle.nfs_model.specs.Parts.{Hand}
use Rattle.affinity.specs.Numbers.{number_of, parents}
use Rattle.affinity.specs.Tree.{IsNode}
use Rattle.parcels.specs.Exact.{kind_in, HasExactly}
use Rattle.depot_rule.specs.declared.view.View.{View}
use Rattle.depot_rule.specs.declared.view.Entry.{Entry}
use Rattle.depot_rule.specs.History.{Behaviour, behaviour, entries_of, AreHands}
use Rattle.depot_rule.specs.Sums.{total}
use Rattle.depot.specs.Grants.{IsAfter, IsClosed}
use Rattle.filer_state.specs.declared.files.Files.{Files}
use Rattle.filer_state.specs.state.Parcels.{FilerParcel}
use Rattle.filer_state.specs.state.Contents.{VolumeContents, contents_of}
use Rattle.filer_state.specs.state.Partition.{times_in, times_in_hand, StandOnce}
use Rattle.filer_state.specs.state.Sound.{IsFiler}
use Rattle.service.specs.Jobs.{job_steps, job_takes, job_gives}
use Rattle.service.specs.declared.job.Job.{Job}
use Rattle.service.specs.declared.job.JobReply.{JobReply}

-- what the service's calls do
abbrev pub service_behaviour : Behaviour (FilerParcel Files) Job JobReply Hand
service_behaviour = behaviour job_steps job_takes job_gives IsFiler

-- an entry of its history, and the view of a seat
abbrev pub ServiceEntry : Type 0
ServiceEntry = Entry (FilerParcel Files) Job JobReply

abbrev pub ServiceView : Type 0
ServiceView = View (FilerParcel Files) ServiceEntry

-- parcels by the numbers of their nodes
abbrev pub ServiceParcels : Type 0
ServiceParcels = ℕ → Option (FilerParcel Files)

-- these hands have just the batches that the entries took and didn't give, in any order
abbrev pub AreHandsOf : List ServiceEntry → List Hand → Type 0
AreHandsOf entries hands = AreHands job_takes job_gives entries hands

-- no block number stands twice in these parcels of a volume, with these hands
abbrev pub StandAtMostOnce : List Hand → VolumeContents → Type 0
StandAtMostOnce hands p = (n : ℕ) → times_in n p + total (times_in_hand p.number n) hands ≤ 1

-- a fact of what stands in these parcels of each volume; where a node has no parcel, nothing stands in it
abbrev pub OfEachVolume : (VolumeContents → Type 0) → Layout → ServiceParcels → Type 0
OfEachVolume Q layout f = (v : ℕ) → v < length layout.volumes → Q (contents_of layout f v)

-- In the parcels of a grant, as it was granted to a seat, with what is in the seat's hand no block number stands twice.
abbrev pub GrantsHaveEachBlockOnce : Type 0
GrantsHaveEachBlockOnce = (layout : Layout) (seat : ServiceView) (node : Affinity) (f : ServiceParcels) (hand : List Hand)
    → seat.tree ≡ parents layout → IsNode layout node → HasExactly kind_in layout node f
    → IsAfter service_behaviour seat (number_of layout node) f → AreHandsOf (entries_of seat) hand
    → OfEachVolume (StandAtMostOnce hand) layout f

-- In the parcels of a grant of the whole tree, with the hands of all seats as the history left them, each block number below a
-- volume's total stands once, and no other does.
abbrev pub WholeGrantsHaveAllBlocks : Type 0
WholeGrantsHaveAllBlocks = (layout : Layout) (seat : ServiceView) (f : ServiceParcels) (hands : List Hand)
    → seat.tree ≡ parents layout → (left : IsAfter service_behaviour seat (number_of layout Serial) f) → AreHandsOf left.0 hands
    → OfEachVolume (λ p. StandOnce p hands) layout f

-- So it is in the parcels of a depot that was closed, with what is in the only seat's hand.
abbrev pub ClosedDepotsHaveAllBlocks : Type 0
ClosedDepotsHaveAllBlocks = (layout : Layout) (seat : ServiceView) (f : ServiceParcels) (hands : List Hand)
    → seat.tree ≡ parents layout → IsClosed service_behaviour seat f → AreHandsOf (entries_of seat) hands
    → OfEachVolume (λ p. StandOnce p hands) layout f
