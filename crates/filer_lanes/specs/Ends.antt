-- The end of a server.
use Rattle.std.specs.Prelude.{◌≡◌, ℕ, ◌+◌, List, length, map, Option}
use Rattle.depot.specs.Words.{view}
use Rattle.depot_rule.specs.History.{entries_of}
use Rattle.depot_rule.specs.Placed.{ArePlaced, HasPlaced}
use Rattle.depot_rule.specs.Sums.{total}
use Rattle.nfs_model.specs.Parts.{Hand}
use Rattle.nfs_model.specs.Tree as trees
use Rattle.parcels.specs.Sets.{serial_parcels}
use Rattle.filer_state.specs.state.Parcels.{FilerParcel}
use Rattle.filer_state.specs.declared.files.Files.{Files}
use Rattle.connections.specs.declared.device.Device as devices
use Rattle.lanes.specs.declared.lane.Lane.{Lane}
use Rattle.filer_lanes.specs.declared.ending.FilerEnd.{FilerEnd}
use Rattle.filer_lanes.specs.declared.ending.FilerEnd.TheVariants.{Closed, Held, Worn}
use Rattle.tends.specs.declared.left.Left.{Left}
use Rattle.filer_lanes.specs.Lanes.{admitted_by, entries_by, finished_by, AreLanesOf}
use Rattle.tends.specs.Ends.{granted_in, HasEnded, IsWornOut}
use Rattle.tends.specs.Gathered.{calls_by, IsLeftOf}
use Rattle.granted_calls.specs.Balance.{FilerEntry, Weight, by_entry, by_key}
use Rattle.granted_calls.specs.Filers.{layout_in, verifier_in}
use Rattle.granted_calls.specs.Messages.{Message}
use Rattle.granted_calls.specs.declared.shared.Filer.{Filer}

-- ---- what is left

-- the batches that were in hands
abbrev pub hands_in : FilerEnd → List Hand
hands_in (Closed ended) = ended.hands.items
hands_in (Held held) = held.left.hands.items
hands_in (Worn left) = left.hands.items

-- the messages that workers kept
abbrev pub kept_in : FilerEnd → List Message
kept_in (Closed ended) = ended.kept.items
kept_in (Held held) = held.left.kept.items
kept_in (Worn left) = left.kept.items

-- those that wait
abbrev pub waiting_in : FilerEnd → List Message
waiting_in (Closed ended) = ended.waiting.items
waiting_in (Held held) = held.left.waiting.items
waiting_in (Worn left) = left.waiting.items

-- how many messages of it weren't finished: those that were kept and those that wait
abbrev pub unfinished_in : FilerEnd → ℕ
unfinished_in end = length (kept_in end) + length (waiting_in end)

-- These parcels are what is there at the end: they came back, or are granted here. Only where 2^62 calls or more were finished they
-- may be elsewhere.
abbrev pub HasBack : trees.Layout → List FilerEntry → (ℕ → Option (FilerParcel Files)) → FilerEnd → Type 0
HasBack layout log parcels (Closed ended) = parcels ≡ serial_parcels layout trees.Serial ended.parcels
HasBack layout log parcels (Held held) = parcels ≡ serial_parcels layout trees.Serial (granted_in held)
HasBack layout log parcels (Worn left) = IsWornOut log

-- ---- of lanes

module _ {D R : Type 0} {G : devices.Ghosts D} where
  -- All lanes of a filer have ended: what is left is the filer's. What they admitted is, as often, finished, kept, or waits, each call by
  -- its connection, its number there, its xid, and what it asks; and the calls that the only seat finished are those that theirs did,
  -- those of each lane in its order.
  pub record HaveStopped (filer : Filer) (lanes : List (Lane D R G)) (left : Left) : Type 0 where
    pub leaves : IsLeftOf filer left
    pub lanes_are : AreLanesOf filer lanes
    pub calls : (weight : Weight) → total (admitted_by weight) lanes ≡ calls_by weight left
    pub entries : (weight : FilerEntry → ℕ) → total (finished_by weight) lanes ≡ total weight (entries_of (view left.seat))
    pub placed : HasPlaced (view left.seat) (map entries_by lanes)

  -- What is left of the filer of these lanes. From the opening parcels there is one legal history, whose replies a serial run gives, and which left the parcels as they are. The calls
  -- that the lanes finished are those of the history, those of each lane in its order, each at a place of its own; and each call that a
  -- lane admitted is in it, was kept, or waits, as often, with its connection, its number there, its xid, and what it asks. Which calls
  -- these are, by the bytes of all connections that it ever had, each lane's type says; and no two lanes have a connection's number in
  -- common.
  pub record IsEndOf (filer : Filer) (lanes : List (Lane D R G)) (end : FilerEnd) : Type 0 where
    pub lanes_are : AreLanesOf filer lanes
    pub log : List FilerEntry
    pub parcels : ℕ → Option (FilerParcel Files)
    pub back : HasBack (layout_in filer) log parcels end
    pub history : HasEnded (layout_in filer) (verifier_in filer) parcels (hands_in end) log
    pub places : List (List ℕ)
    pub placed : ArePlaced log (map entries_by lanes) places
    pub all : (weight : FilerEntry → ℕ) → total (finished_by weight) lanes ≡ total weight log
    pub calls : (weight : Weight) → total (admitted_by weight) lanes
        ≡ total (by_entry weight) log + (total (by_key weight) (kept_in end) + total (by_key weight) (waiting_in end))
