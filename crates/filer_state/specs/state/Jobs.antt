-- What a depot of a filer's parcels runs: calls that records ask for, and inner calls that workers make (our profile).
use Rattle.std.specs.Prelude.{◌≡◌, ℕ, ◌<◌, List, [], ◌∷◌, length}
use Rattle.nfs_model.specs.Types.{Reply}
use Rattle.nfs_model.specs.Tree.{Affinity, Logical, Vbn, Range}
use Rattle.nfs_model.specs.Replay.{FinishedCall}
use Rattle.nfs_model.specs.Parts.{Parts, Hand, Empty, Fresh, Dead, batch_in, range_of, IsBatch}
use Rattle.nfs_model.specs.Moves.{Carrying, Fetches, Culls, PutsDown, Surveys}

-- a worker's calls with its hand: free numbers of a range into it, and from it into the stock; dead numbers into it, and from
-- it into their range; and how many are free
pub data InnerCall : Type 0 where
  Fetch : (volume range : ℕ) → InnerCall
  Deliver : (volume : ℕ) → InnerCall
  Cull : (volume : ℕ) → InnerCall
  Free : (volume range : ℕ) → InnerCall
  Survey : (volume : ℕ) → InnerCall

-- an entry of the history: a call that is finished by it, named by its connection and record number, or an inner call
pub data Job : Type 0 where
  Serve : (call : FinishedCall) → Job
  Inner : (call : InnerCall) → Job

-- what it replies: an inner call names its batch
pub data JobReply : Type 0 where
  Replied : (reply : Reply) → JobReply
  Took : (hand : Hand) → JobReply
  Gave : (hand : Hand) → JobReply
  Surveyed : (told : List ℕ) → JobReply

-- ---- hands

-- a batch that there is
abbrev pub batches_in : Hand → List Hand
batches_in Empty = []
batches_in (Fresh volume blocks) = Fresh volume blocks ∷ []
batches_in (Dead volume blocks) = Dead volume blocks ∷ []

-- the batch that an entry took into its seat's hand
abbrev pub takes : Job → JobReply → List Hand
takes job (Took hand) = batches_in hand
takes job reply = []

-- the batch that it gave from it
abbrev pub gives : Job → JobReply → List Hand
gives job (Gave hand) = batches_in hand
gives job reply = []

-- ---- inner calls

-- the node under which it runs
abbrev pub inner_node : InnerCall → Affinity
inner_node (Fetch v r) = Range v r
inner_node (Deliver v) = Logical v
inner_node (Cull v) = Logical v
inner_node (Free v r) = Range v r
inner_node (Survey v) = Vbn v

abbrev pub inner_volume : InnerCall → ℕ
inner_volume (Fetch v r) = v
inner_volume (Deliver v) = v
inner_volume (Cull v) = v
inner_volume (Free v r) = v
inner_volume (Survey v) = v

-- with an empty hand
abbrev pub without_hand : Parts → Carrying
without_hand parts = record { parts = parts; hand = Empty }

-- a batch that is put down isn't empty; after it the hand is
abbrev pub HandPutDown : (size range : ℕ) → Hand → Parts → Parts → Type 0
HandPutDown size range hand old new =
    (0 < length (batch_in hand)) × IsBatch size range (batch_in hand)
    × PutsDown (length (batch_in hand)) (record { parts = old; hand = hand }) (without_hand new)

-- What an inner call does with a volume's parts, where a range has this many blocks and this many are in use, by its reply. A fetch
-- is from a range in use; what is put down is a fresh batch of the volume, or a dead one of the range.
abbrev pub InnerMoves : (size : ℕ) → InnerCall → (used : ℕ) → Parts → JobReply → Parts → Type 0
InnerMoves size (Fetch v r) used old (Took hand) new =
    (r < used) × Fetches size v r (length (batch_in hand)) (without_hand old) (record { parts = new; hand = hand })
InnerMoves size (Cull v) used old (Took hand) new =
    Culls size v (length (batch_in hand)) (without_hand old) (record { parts = new; hand = hand })
InnerMoves size (Deliver v) used old (Gave (Fresh w blocks)) new =
    (w ≡ v) × HandPutDown size (range_of size blocks) (Fresh v blocks) old new
InnerMoves size (Free v r) used old (Gave (Dead w blocks)) new = (w ≡ v) × HandPutDown size r (Dead v blocks) old new
InnerMoves size (Survey v) used old (Surveyed told) new = Surveys size used old told × (new ≡ old)
InnerMoves size call used old reply new = ⊥
