-- What inner calls promise, on the parcels of a volume (our profile): as calls on the volume of whatever number, and whatever the rest
-- of the volume is.
use Rattle.std.specs.Prelude.{ℕ, List, [], ◌∷◌, Option, Some, None}
use Rattle.nfs_model.specs.Parts.{Fresh, Dead}
use Rattle.nfs_model.specs.Moves.{fresh_hand, dead_hand}
use Rattle.nfs_model.specs.volume.Ranges.{RangeValue}
use Rattle.filer_state.specs.state.Jobs.{Fetch, Deliver, Cull, Free, Survey, JobReply, Took, Gave, Surveyed}
use Rattle.filer_state.specs.state.Lenses.{LogicalSet, range_lens, vbn_lens, logical_lens}
use Rattle.filer_state.specs.state.Promises.{HasVolume}
use Rattle.filer_state.specs.state.Running.{InnerRunsOn}

-- the most numbers of a stock: none is delivered that would make it more
abbrev pub most_stocked : ℕ
most_stocked = 2097152

-- what a fetch comes to: its blocks come into the hand, or it is refused
abbrev pub fetch_told : ℕ → Option (List ℕ) → Option JobReply
fetch_told v None = None
fetch_told v (Some blocks) = Some (Took (fresh_hand v blocks))

-- A run of Fetch by this range is right.
abbrev pub FetchesHere : RangeValue → Option (List ℕ) → RangeValue → Type 0
FetchesHere old result new = (v : ℕ) → InnerRunsOn v (range_lens old.number) (Fetch v old.number) old (fetch_told v result) new

-- A run of Free by this range is right, with these blocks.
abbrev pub FreesHere : List ℕ → RangeValue → RangeValue → Type 0
FreesHere blocks old new = (v : ℕ) → InnerRunsOn v (range_lens old.number) (Free v old.number) old (Some (Gave (Dead v blocks))) new

-- some sound volume has this range, with dead blocks in a hand
abbrev pub MayFree : List ℕ → RangeValue → Type 0
MayFree blocks range = (v : ℕ) × HasVolume v (range_lens range.number) (Dead v blocks ∷ []) range

-- A run of Deliver by what is under Logical is right, with these blocks.
abbrev pub DeliversHere : List ℕ → LogicalSet → LogicalSet → Type 0
DeliversHere blocks old new = (v : ℕ) → InnerRunsOn v logical_lens (Deliver v) old (Some (Gave (Fresh v blocks))) new

-- some sound volume has this under Logical, with fresh blocks in a hand
abbrev pub MayDeliver : List ℕ → LogicalSet → Type 0
MayDeliver blocks set = (v : ℕ) × HasVolume v logical_lens (Fresh v blocks ∷ []) set

-- A run of Cull by what is under Logical is right.
abbrev pub CullsHere : LogicalSet → List ℕ → LogicalSet → Type 0
CullsHere old blocks new = (v : ℕ) → InnerRunsOn v logical_lens (Cull v) old (Some (Took (dead_hand v blocks))) new

-- A run of Survey by these ranges, which changes nothing, is right.
abbrev pub SurveysHere : List RangeValue → List ℕ → Type 0
SurveysHere ranges told = (v : ℕ) → InnerRunsOn v vbn_lens (Survey v) ranges (Some (Surveyed told)) ranges
