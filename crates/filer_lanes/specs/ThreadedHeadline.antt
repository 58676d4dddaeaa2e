-- The headline with threads: what holds when all lanes of a filer have ended.
use Rattle.std.specs.Prelude.{◌≡◌, ◌<◌, ◌≤◌, ◌+◌, ℕ, List, length, map, Option}
use Rattle.std.specs.List.{AllByRecursion}
use Rattle.affinity.specs.Numbers.{parents}
use Rattle.nfs_model.specs.Server.{opening}
use Rattle.nfs_model.specs.Tree.{Layout}
use Rattle.depot_rule.specs.History.{after, listed, AreHands, Legal, SoundThroughout}
use Rattle.depot_rule.specs.Laws.{GrantsAreApart}
use Rattle.depot_rule.specs.Placed.{ArePlaced}
use Rattle.depot_rule.specs.Sums.{total}
use Rattle.filer_state.specs.state.Opening.{AreOpening}
use Rattle.filer_state.specs.state.Parcels.{FilerParcel}
use Rattle.filer_state.specs.state.Replayed.{Replays}
use Rattle.filer_state.specs.state.Sound.{AllSound}
use Rattle.filer_state.specs.state.Tree.{tree}
use Rattle.filer_state.specs.declared.files.Files.{Files}
use Rattle.rpc_msg.specs.declared.offer.Offer.{Offer}
use Rattle.connections.specs.declared.device.Device as devices
use Rattle.granted_calls.specs.Balance.{FilerEntry, Weight, by_entry, by_key}
use Rattle.granted_calls.specs.Filers.{layout_in, verifier_in}
use Rattle.granted_calls.specs.Logs.{calls_in, replies_in}
use Rattle.granted_calls.specs.Served.{filer_behaviour}
use Rattle.granted_calls.specs.declared.shared.Filer.{Filer}
use Rattle.turns.specs.Jobs.{job_steps, job_takes, job_gives}
use Rattle.lanes.specs.Words.{put_in, HasStory}
use Rattle.lanes.specs.declared.lane.Lane.{Lane}
use Rattle.filer_lanes.specs.declared.ending.FilerEnd.{FilerEnd}
use Rattle.filer_lanes.specs.Ends.{hands_in, kept_in, waiting_in, HasBack}
use Rattle.filer_lanes.specs.Lanes.{admitted_by, entries_by, AllOffer, AreLanesOf}

module _ {D R : Type 0} {G : devices.Ghosts D} where
  -- a lane finished no call more often than it admitted it
  abbrev pub HasOwnFinished : Lane D R G → Type 0
  HasOwnFinished lane = (weight : Weight) → total (by_entry weight) (entries_by lane) ≤ total (by_key weight) (put_in lane)

  -- What holds of a run with threads that has ended: of its layout, its verifier, what it offers, its lanes with all that ever came to
  -- them and went out, and what is left.
  pub record ThreadedHeadline (layout : Layout) (verifier : List ℕ) (offer : Offer) (lanes : List (Lane D R G)) (end : FilerEnd) : Type 0 where
    -- There is a filer of this layout, whose writes have this verifier. These are all its lanes: each place among them is taken once, so
    -- that no two have a connection's number in common; and each reads by what is offered.
    pub filer : Filer
    pub of_layout : layout_in filer ≡ layout
    pub of_verifier : verifier_in filer ≡ verifier
    pub lanes_are : AreLanesOf filer lanes
    pub offers : AllOffer offer lanes
    -- There is one history. The calls that a lane finished stand in it in the lane's order, and each place of it is one lane's.
    pub log : List FilerEntry
    pub places : List (List ℕ)
    pub placed : ArePlaced log (map entries_by lanes) places
    -- The bytes that were given to the device of each connection that a lane ever had, open or closed, are a beginning of the reply
    -- records of what ended for it, as what is offered tells them: of the calls that stand in the history at its lane's places, in the
    -- history's order, each under its own xid, and of the replies at once where they ended among these. And the calls that the lane
    -- admitted are just those that the records of all bytes ask that were read of its connections.
    pub output : AllByRecursion (HasStory G.unread G.written) lanes
    -- Each call that a lane admitted stands in the history, was kept, or waits, in just one of these, under its connection, its number
    -- there, its xid, and what it asks.
    pub each_once : (weight : Weight) → total (admitted_by weight) lanes
        ≡ total (by_entry weight) log + (total (by_key weight) (kept_in end) + total (by_key weight) (waiting_in end))
    -- What a lane finished it had admitted.
    pub own_finished : AllByRecursion HasOwnFinished lanes
    -- Each call of the history is a step of the filer, from the parcels that it found to its reply and the parcels that it left, the first
    -- from the parcels of the opening server; and at each place of it all parcels, with the batches in hands, were sound.
    pub first : List (Option (FilerParcel Files))
    pub opened : AreOpening layout verifier (listed first)
    pub lawful : Legal job_steps (parents layout) (listed first) log
    pub throughout : SoundThroughout filer_behaviour (parents layout) (listed first) log
    -- The server that the parcels stand for is the one to which the serial server comes from the opening server by the calls of the
    -- history, in its order; it gives their replies, and a call that is finished as starved may lack memory where it stands. The parcels
    -- are as the history left them. They came back or are granted here, unless 2^62 calls or more were finished.
    pub parcels : ℕ → Option (FilerParcel Files)
    pub state : Replays (opening layout verifier) (tree layout parcels) (calls_in log) (replies_in log)
    pub left : (k : ℕ) → 0 < k → k < length (parents layout) → parcels k ≡ after (parents layout) (listed first) log k
    pub back : HasBack layout log parcels end
    -- The hands are what the history's calls took and didn't give, and with them each block number of each volume stands in one place.
    pub hands : AreHands job_takes job_gives log (hands_in end)
    pub partition : AllSound layout parcels (hands_in end) (length log)
    -- In no state that the depot's rule allows, of whatever tree, two grants of the filer's parcels exclude each other.
    pub apart : GrantsAreApart (FilerParcel Files) FilerEntry
