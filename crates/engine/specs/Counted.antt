-- The counts of block numbers that an engine keeps by volume, taken anew.
use Rattle.std.specs.Prelude.{◌≡◌, ℕ, List}
use Rattle.desk.specs.laws.Books.{Lent, HasLent}
use Rattle.filer_state.specs.state.Parcels.{FilerParcel}
use Rattle.engine.specs.laws.Store.{FilerBooks}
use Rattle.engine.specs.declared.counts.counts.VolumeCounts.{VolumeCounts}
use Rattle.engine.specs.counts.Counts.{AreCountedAgain, world_counts}
use Rattle.engine.specs.declared.state.State.{State}
use Rattle.engine.specs.Seen.{world}
use Rattle.engine.specs.Words.{IsWhole}

-- The counts are taken again of what a worker has under what it was lent.
abbrev pub IsRecounted : {P C R : Type 0} → FilerBooks P C R → ℕ → List VolumeCounts → List VolumeCounts → Type 0
IsRecounted {P} b worker old new =
    (l : Lent (FilerParcel P)) × HasLent b worker l × AreCountedAgain b.layout l.affinity old l.parcels new

-- all that holds between events, and that these are the counts of the volumes that are seen
abbrev pub IsCountedWhole : State → List VolumeCounts → Type 0
IsCountedWhole s counts = IsWhole s × (counts ≡ world_counts (world s))
