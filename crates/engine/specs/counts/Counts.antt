-- How many block numbers of a volume are where (our profile), as they are kept by volume, and as they are taken anew from parcels.
use Rattle.std.specs.Prelude.{◌≡◌, ℕ, zero, suc, ◌+◌, ◌-◌, ◌*◌, ◌==◌, min, List, [], ◌∷◌, map, length, Option, Some, None, Result, Ok, Err, if◌then◌else◌}
use Rattle.std.specs.Global.{Vec}
use Rattle.std.specs.FinSet.{len}
use Rattle.nfs_model.specs.Tree.{Layout, Affinity, aggregate_of}
use Rattle.nfs_model.specs.Server.{VolumeState}
use Rattle.nfs_model.specs.Parts.{Parts, Hand, Empty, Fresh, Dead, Counts}
use Rattle.nfs_model.specs.World.{World, changed_at}
use Rattle.nfs_model.specs.Events.Refusals.{Done, HandHas, HasPut}
use Rattle.nfs_laws.specs.Sizes.{HaveSizes}
use Rattle.affinity.specs.Numbers.{number_of, parents}
use Rattle.depot_rule.specs.History.{patched}
use Rattle.nfs_model.specs.volume.Logical.{LogicalValue}
use Rattle.filer_state.specs.state.Parcels.{FilerParcel}
use Rattle.filer_state.specs.state.Contents.{VolumeContents, filer_contents}
use Rattle.filer_state.specs.state.Tree.{tree, ranges_used}
use Rattle.filer_state.specs.state.Lenses.{VolumeSet}
use Rattle.filer_state.specs.state.Sets.{FilerVolume, FilerAggregate, FilerSerial, placed, volume_before, volume_placed}
use Rattle.engine.specs.declared.counts.counts.VolumeCounts.{VolumeCounts}
use Rattle.engine.specs.declared.counts.counts.PartCounts.{PartCounts}

-- ---- by parcels

-- of what Logical has, and this many numbers
abbrev pub counts_of : LogicalValue → ℕ → VolumeCounts
counts_of l total = record { files = l.inodes.used; stock = len l.stock; dead = len l.dead.blocks; total = total }

-- of a volume
abbrev pub counted : VolumeContents → VolumeCounts
counted p = counts_of p.logical (p.logical.dead.range_blocks * ranges_used p.ranges)

-- these are the counts of all volumes, by number
abbrev pub IsCounted : {P : Type 0} → Layout → List VolumeCounts → (ℕ → Option (FilerParcel P)) → Type 0
IsCounted layout counts f = counts ≡ map counted (filer_contents layout f).volumes

-- the ranges of all volumes have as many blocks as the layout says
abbrev pub AreSized : {P : Type 0} → Layout → (ℕ → Option (FilerParcel P)) → Type 0
AreSized layout f = HaveSizes layout (tree layout f)

-- ---- by the server and the parts that are seen

-- of a volume
abbrev pub counts_seen : VolumeState → Parts → VolumeCounts
counts_seen volume p = record { files = len p.files; stock = len p.stock; dead = len p.dead; total = volume.total }

-- of all volumes
abbrev pub all_seen : List VolumeState → List Parts → List VolumeCounts
all_seen [] ps = []
all_seen (volume ∷ volumes) [] = []
all_seen (volume ∷ volumes) (p ∷ ps) = counts_seen volume p ∷ all_seen volumes ps

abbrev pub world_counts : World → List VolumeCounts
world_counts w = all_seen w.server.volumes w.parts

-- of a volume, if there is one
abbrev pub seen_if : Option VolumeState → Option Parts → Option VolumeCounts
seen_if None p = None
seen_if (Some volume) None = None
seen_if (Some volume) (Some p) = Some (counts_seen volume p)

-- ---- what is told

-- where hands carry this many of the volume: those that aren't counted are free
abbrev pub told_of : ℕ → VolumeCounts → Counts
told_of hands c = record {
  files = c.files;
  stock = c.stock;
  dead = c.dead;
  free = c.total - c.files - c.stock - c.dead - hands;
  hands = hands;
  total = c.total;
}

abbrev pub parts_told : PartCounts → Counts
parts_told c = record { files = c.files; stock = c.stock; dead = c.dead; free = c.free; hands = c.hands; total = c.total }

-- ---- by what workers carry

-- after this many dead blocks came into a hand
abbrev pub with_culled : ℕ → VolumeCounts → VolumeCounts
with_culled count c = record c { dead = c.dead - count }

-- after this many fresh ones were put down in the stock, which has at most all
abbrev pub with_put : ℕ → VolumeCounts → VolumeCounts
with_put count c = record c { stock = min (c.stock + count) c.total }

-- the volume in whose stock a hand's blocks are put down
abbrev pub fresh_volume : Hand → Option ℕ
fresh_volume Empty = None
fresh_volume (Fresh volume blocks) = Some volume
fresh_volume (Dead volume blocks) = None

-- where a hand is put down, with this many blocks
abbrev pub put_counted : Option ℕ → ℕ → List VolumeCounts → List VolumeCounts
put_counted None count counts = counts
put_counted (Some volume) count counts = changed_at (with_put count) counts volume

-- how many blocks came into a hand, or left it
abbrev pub moved_count : Done → ℕ
moved_count (HandHas count) = count
moved_count (HasPut count) = count
moved_count done = 0

-- by what Cull answers
abbrev pub culled_by : ℕ → Result Done ℕ → List VolumeCounts → List VolumeCounts
culled_by volume (Ok done) counts = changed_at (with_culled (moved_count done)) counts volume
culled_by volume (Err number) counts = counts

-- by what PutDown answers, with the volume in whose stock blocks are put down
abbrev pub put_by : Option ℕ → Result Done ℕ → List VolumeCounts → List VolumeCounts
put_by fresh (Ok done) counts = put_counted fresh (moved_count done) counts
put_by fresh (Err number) counts = counts

-- ---- taken anew

-- of what is under Volume
abbrev pub counts_in : VolumeSet → VolumeCounts
counts_in set = counts_of set.logical.own (set.logical.own.dead.range_blocks * ranges_used set.ranges)

-- by what Logical has, of as many numbers as before
abbrev pub with_logical : LogicalValue → VolumeCounts → VolumeCounts
with_logical l before = counts_of l before.total

module _ {P : Type 0} where
  -- by the volume
  abbrev pub with_set : FilerVolume P → VolumeCounts → VolumeCounts
  with_set held before = counts_in (volume_before held)

  -- by the aggregate, where the volume is on it
  abbrev pub if_on : Layout → ℕ → FilerAggregate P → ℕ → VolumeCounts → VolumeCounts
  if_on layout a held v before = if aggregate_of layout v == a then counts_in (volume_placed layout (Some held) v) else before

  -- by all that is stored
  abbrev pub in_whole : Layout → FilerSerial P → ℕ → VolumeCounts → VolumeCounts
  in_whole layout held v before = counts_in (volume_placed layout (placed held.aggregates.at (aggregate_of layout v)) v)

-- the counts of this many volumes from a number on, one by one
abbrev pub recounted : (ℕ → VolumeCounts → VolumeCounts) → ℕ → ℕ → List VolumeCounts → List VolumeCounts
recounted h from zero counts = counts
recounted h from (suc n) [] = []
recounted h from (suc n) (c ∷ counts) = h from c ∷ recounted h (from + 1) n counts

-- ---- the task

abbrev pub AsksForCounts : {P : Type 0} → List VolumeCounts → Layout → Affinity → (ℕ → Option (FilerParcel P)) → Type 0
AsksForCounts counts layout node f = length counts ≡ length layout.volumes

-- Whatever the other parcels are: where counts were right of them and of those that were under a node, others are right of them and of
-- these, which are under it now. Volumes have the layout's sizes before and after, since no call changes them.
abbrev pub AreCountedAgain : {P : Type 0} → Layout → Affinity → List VolumeCounts → (ℕ → Option (FilerParcel P)) → List VolumeCounts → Type 0
AreCountedAgain {P} layout node old f new = (g : ℕ → Option (FilerParcel P))
    → AreSized layout g → AreSized layout (patched (parents layout) (number_of layout node) f g)
    → IsCounted layout old g → IsCounted layout new (patched (parents layout) (number_of layout node) f g)

-- No parcel has changed, and the counts are taken again of those under the node.
abbrev pub HasCounted : {P : Type 0} → List VolumeCounts → Layout → Affinity → (ℕ → Option (FilerParcel P)) → Vec VolumeCounts
    → (ℕ → Option (FilerParcel P)) → Type 0
HasCounted counts layout node f new f' = ((k : ℕ) → f' k ≡ f k) × AreCountedAgain layout node counts f new.items
