-- Lanes of a filer, over any devices.
use Rattle.std.specs.Prelude.{◌≡◌, ℕ, zero, suc, true, List, [], ◌∷◌, length, All}
use Rattle.depot_rule.specs.Sums.{total}
use Rattle.rpc_msg.specs.declared.offer.Offer.{Offer}
use Rattle.lanes.specs.Words.{filer_in, identity_in, offer_in, place_in, put_in, waiting_in, worker_in, Identity}
use Rattle.connections.specs.declared.device.Device as devices
use Rattle.lanes.specs.declared.lane.Lane.{Lane}
use Rattle.nfs_model.specs.Events.Refusals.{is_empty_hand}
use Rattle.tends.specs.declared.tending.Tending.{Tending}
use Rattle.tends.specs.Rests.{may_sleep}
use Rattle.turns.specs.Tends.{hand_in}
use Rattle.granted_calls.specs.declared.shared.Filer.{Filer}
use Rattle.granted_calls.specs.Balance.{FilerEntry, Weight, by_key}
use Rattle.granted_calls.specs.Filers.{layout_in}
use Rattle.turns.specs.Words.{entries_in, seats_in}

-- the places of this many lanes: of each which it is, from 0, and how many there are
abbrev pub places_below : ℕ → ℕ → List (ℕ × ℕ)
places_below count zero = []
places_below count (suc n) = (n, count) ∷ places_below count n

abbrev pub places : ℕ → List (ℕ × ℕ)
places count = places_below count count

module _ {D R : Type 0} {G : devices.Ghosts D} where
  -- the seats of its worker
  abbrev pub seats_of : Lane D R G → ℕ
  seats_of lane = seats_in (worker_in lane)

  -- which lane it is, weighed
  abbrev pub by_identity : (Identity → ℕ) → Lane D R G → ℕ
  by_identity weigh lane = weigh (identity_in lane)

  -- its place alone
  abbrev pub by_place : (ℕ × ℕ → ℕ) → Lane D R G → ℕ
  by_place weigh lane = weigh (place_in lane)

  -- what it offers, weighed
  abbrev pub by_offer : (Offer → ℕ) → Lane D R G → ℕ
  by_offer weigh lane = weigh (offer_in lane)

  -- the calls that it admitted, weighed
  abbrev pub admitted_by : Weight → Lane D R G → ℕ
  admitted_by weight lane = total (by_key weight) (put_in lane)

  -- the calls that its worker finished, in their order
  abbrev pub entries_by : Lane D R G → List FilerEntry
  entries_by lane = entries_in (worker_in lane)

  -- these weighed
  abbrev pub finished_by : (FilerEntry → ℕ) → Lane D R G → ℕ
  finished_by weight lane = total weight (entries_by lane)

  -- the lane is of this filer
  abbrev pub IsLaneOf : Filer → Lane D R G → Type 0
  IsLaneOf filer lane = filer_in lane ≡ filer

  -- It is of the same filer as before, the same of as many lanes, with the same queue and the same seats. So it has all that it ever
  -- admitted: nobody else has a pass of its queue.
  pub record Stays (before after : Lane D R G) : Type 0 where
    pub filer : filer_in after ≡ filer_in before
    pub identity : identity_in after ≡ identity_in before
    pub seats : seats_of after ≡ seats_of before

  -- it has no message, tends over all volumes and ranges in a row moved nothing, and nothing is in its hand
  pub record IsAtRest (lane : Lane D R G) (tending : Tending) : Type 0 where
    pub none : waiting_in lane ≡ 0
    pub tended : may_sleep (layout_in (filer_in lane)) (worker_in lane) tending ≡ true
    pub empty : is_empty_hand (hand_in (worker_in lane)) ≡ true

  -- each of these lanes offers just this: by any weight they are as so many that do
  abbrev pub AllOffer : Offer → List (Lane D R G) → Type 0
  AllOffer offer lanes = (weigh : Offer → ℕ) → total (by_offer weigh) lanes ≡ total (λ _. weigh offer) lanes

  -- All lanes of a filer: they have all its 64 seats between them, and each of their places is taken once, so that no two have a
  -- connection's number in common.
  pub record AreLanesOf (filer : Filer) (lanes : List (Lane D R G)) : Type 0 where
    pub of : All (IsLaneOf filer) lanes
    pub seats : total seats_of lanes ≡ 64
    pub each : (weigh : ℕ × ℕ → ℕ) → total (by_place weigh) lanes ≡ total weigh (places (length lanes))
