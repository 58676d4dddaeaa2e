-- Inner calls, a worker's with its hand, run on the parcels under their nodes (our profile).
use Rattle.std.specs.Prelude.{◌≡◌, ℕ, ◌<◌, List, [], ◌∷◌, length, Option, Some, None, Result, Ok, Err}
use Rattle.nfs_model.specs.Tree.{Layout, Affinity, range_blocks_of}
use Rattle.nfs_model.specs.Parts.{Hand, Empty, Fresh, Dead, range_of, IsBatch}
use Rattle.filer_state.specs.state.Parcels.{FilerParcel}
use Rattle.filer_state.specs.state.Jobs.{InnerCall, Fetch, Deliver, Cull, Free, Survey, Inner, JobReply, gives, batches_in, inner_node, inner_volume}
use Rattle.filer_state.specs.state.Running.{HasSizedFiler, InnerRuns}
use Rattle.desk.specs.laws.Calls.{Asks, DoesTask}
use Rattle.service.specs.declared.inner.Undone.{Undone}
use Rattle.service.specs.declared.inner.Undone.TheVariants.{NoSuchRange, NoMemory}

-- what is in the hand, where a range has this many blocks: a fresh batch of the volume for its stock, a dead one of the range, else nothing
abbrev pub IsHandFor : (size : ℕ) → InnerCall → Hand → Type 0
IsHandFor size (Fetch v r) hand = hand ≡ Empty
IsHandFor size (Deliver v) hand =
    (blocks : List ℕ) × (hand ≡ Fresh v blocks) × (0 < length blocks) × IsBatch size (range_of size blocks) blocks
IsHandFor size (Cull v) hand = hand ≡ Empty
IsHandFor size (Free v r) hand = (blocks : List ℕ) × (hand ≡ Dead v blocks) × (0 < length blocks) × IsBatch size r blocks
IsHandFor size (Survey v) hand = hand ≡ Empty

-- memory may run out where the stock grows, which may also have no room for more, and for what a survey tells
abbrev pub MayLackMemory : InnerCall → Type 0
MayLackMemory (Deliver v) = Unit {0}
MayLackMemory (Survey v) = Unit {0}
MayLackMemory call = ⊥

-- An inner call is run at its node with what is in the hand, and some sound filer, whose ranges have as many blocks as the layout says
-- and which has that in a hand, has these parcels under it.
abbrev pub AsksForInner : {P : Type 0} → InnerCall → Hand → Layout → Affinity → (ℕ → Option (FilerParcel P)) → Type 0
AsksForInner call hand layout node f =
    (node ≡ inner_node call) × IsHandFor (range_blocks_of layout (inner_volume call)) call hand × HasSizedFiler layout node (batches_in hand) f

-- what it comes to: what its entry replies, or why there is none
abbrev pub InnerOutcome : Type 0 → Type 0
InnerOutcome A = Result A Undone

-- What its run under the node comes to, where its reply is told so: an entry that gives all that was in the hand; or it is refused; or there
-- is no memory, or no room in the stock, the hand is given back, and no parcel has changed.
abbrev pub InnerHasRun : {P A : Type 0} → (A → JobReply) → InnerCall → Hand → Layout → Affinity → (ℕ → Option (FilerParcel P)) → InnerOutcome A
    → (ℕ → Option (FilerParcel P)) → Type 0
InnerHasRun told call hand layout node f (Ok reply) f' =
    InnerRuns layout node call f (Some (told reply)) f' × (gives (Inner call) (told reply) ≡ batches_in hand)
InnerHasRun told call hand layout node f (Err NoSuchRange) f' = InnerRuns layout node call f None f'
InnerHasRun told call hand layout node f (Err (NoMemory back)) f' = MayLackMemory call × (back ≡ hand) × ((k : ℕ) → f' k ≡ f k)

-- work that is an inner call with what is in the hand: it asks for no more, and does nothing else
pub record IsInner {P A : Type 0} (told : A → JobReply) (asks : Asks (FilerParcel P)) (does : DoesTask (FilerParcel P) (InnerOutcome A))
    (call : InnerCall) (hand : Hand) : Type 0 where
  pub finds : (layout : Layout) (node : Affinity) (f : ℕ → Option (FilerParcel P)) → AsksForInner call hand layout node f → asks layout node f
  pub leaves : (layout : Layout) (node : Affinity) (f : ℕ → Option (FilerParcel P)) (outcome : InnerOutcome A) (f' : ℕ → Option (FilerParcel P))
      → does layout node f outcome f' → InnerHasRun told call hand layout node f outcome f'

-- the call that puts down what is in a hand: a fresh batch comes into the stock of its volume, a dead one is free in its range
abbrev pub call_to_put : Layout → Hand → Option InnerCall
call_to_put layout Empty = None
call_to_put layout (Fresh volume blocks) = Some (Deliver volume)
call_to_put layout (Dead volume []) = None
call_to_put layout (Dead volume (b ∷ blocks)) = Some (Free volume (range_of (range_blocks_of layout volume) (b ∷ blocks)))
