-- What an inner call leaves: it begins, runs and is finished at once, for a worker that was lent nothing.
use Rattle.std.specs.Prelude.{◌≡◌, ℕ, ◌+◌, ◌/◌, ◌<◌, [], ◌∷◌, ◌++◌, Option, Some, slice_get, slice_set}
use Rattle.nfs_model.specs.Server.{VolumeState}
use Rattle.nfs_model.specs.Tree.{Layout, range_blocks_of}
use Rattle.nfs_model.specs.Parts.{Parts, Hand, Empty}
use Rattle.nfs_model.specs.World.{World, Worker, changed_at, with_hand}
use Rattle.affinity.specs.Ancestors.{Covers}
use Rattle.affinity.specs.Numbers.{number_of, parents}
use Rattle.depot_rule.specs.Shares.{worn}
use Rattle.depot_rule.specs.History.{patched}
use Rattle.depot.specs.Grants.{entry_of}
use Rattle.desk.specs.laws.Books.{settled, now, stamps, HasLent, IsTaken, UnderLent, IsSettled}
use Rattle.filer_state.specs.state.Parcels.{FilerParcel}
use Rattle.filer_state.specs.state.Jobs.{InnerCall, Inner, Job, JobReply, Took, gives, batches_in, inner_node, inner_volume, InnerMoves}
use Rattle.filer_state.specs.state.Deeds.{FilerSteps}
use Rattle.engine.specs.laws.Store.{FilerBooks, filer}

-- ---- on a desk

module _ {P C R : Type 0} where
  -- the parcels under an inner call's node can be lent: nothing that is lent excludes it, so nobody has changed them, and fewer
  -- than 2^62 calls were finished
  pub record IsFree (b : FilerBooks P C R) (call : InnerCall) : Type 0 where
    pub free : IsTaken b (inner_node call) → ⊥
    pub low : stamps b < worn
    pub same : (k : ℕ) → Covers (parents b.layout) (number_of b.layout (inner_node call)) k → now b k ≡ settled b k

  -- An inner call is in the history, with what it left under its node; all else is as it was.
  pub record HasMade (job : C → Job) (told : R → JobReply) (b : FilerBooks P C R) (call : InnerCall) (hand : Hand) (reply : R)
      (c : FilerBooks P C R) : Type 0 where
    pub free : IsFree b call
    pub parcels : ℕ → Option (FilerParcel P)
    -- it is a step of the filer from whatever has under its node what the finished calls left there
    pub did : (f : ℕ → Option (FilerParcel P)) → ((k : ℕ) → Covers (parents b.layout) (number_of b.layout (inner_node call)) k → f k ≡ settled b k)
        → FilerSteps (parents b.layout) (number_of b.layout (inner_node call)) (Inner call) f (told reply)
        (patched (parents b.layout) (number_of b.layout (inner_node call)) parcels f)
    pub gave : gives (Inner call) (told reply) ≡ batches_in hand
    pub entry : C
    pub is_entry : job entry ≡ Inner call
    pub books : c ≡ record b { entries = b.entries ++ entry_of b.layout (inner_node call) parcels entry reply ∷ [] }
    pub now_is : (k : ℕ) → now c k ≡ patched (parents b.layout) (number_of b.layout (inner_node call)) parcels (now b) k
    pub others : (i : ℕ) (l : _) → HasLent b i l → UnderLent b l (λ k. settled c k ≡ settled b k)
    pub keeps : IsSettled (filer job told) c

-- ---- in a world

-- what is in the hand after an inner call with this reply
abbrev pub hand_after : JobReply → Hand
hand_after (Took hand) = hand
hand_after reply = Empty

-- An inner call moved numbers between a worker's hand and the parts of its volume, whose ranges have as many blocks as the layout says,
-- under one stamp. What it gave was in the hand.
pub record HasMoved (layout : Layout) (w : World) (worker : ℕ) (call : InnerCall) (reply : JobReply) (new : World) : Type 0 where
  pub mover : Worker
  pub at : slice_get w.workers worker ≡ Some mover
  pub gave : gives (Inner call) reply ≡ batches_in mover.hand
  pub volume : VolumeState
  pub there : slice_get w.server.volumes (inner_volume call) ≡ Some volume
  pub before : Parts
  pub parts : slice_get w.parts (inner_volume call) ≡ Some before
  pub after : Parts
  pub moves : InnerMoves (range_blocks_of layout (inner_volume call)) call (volume.total / volume.range_blocks) before reply after
  pub world : new ≡ record w {
    workers = changed_at (with_hand (hand_after reply)) w.workers worker;
    parts = slice_set w.parts (inner_volume call) after;
    stamps = w.stamps + 1;
  }
