-- The headline with threads, from what is known at the end.
use Rattle.std.proofs.Common.{◌≡◌, ℕ, List, [], ◌∷◌, refl}
use Rattle.std.proofs.Math.Logic.{∥∥₁_map, ∥∥₁_map₂}
use Rattle.std.specs.List.{AllByRecursion}
use Rattle.connections.specs.declared.device.Device as devices
use Rattle.depot_rule.proofs.Following.{are-apart}
use Rattle.filer_state.specs.state.Parcels.{FilerParcel}
use Rattle.filer_state.specs.declared.files.Files.{Files}
use Rattle.rpc_msg.specs.declared.offer.Offer.{Offer}
use Rattle.granted_calls.specs.Balance.{FilerEntry}
use Rattle.granted_calls.specs.Filers.{layout_in, verifier_in}
use Rattle.granted_calls.specs.declared.shared.Filer.{Filer}
use Rattle.lanes.specs.Words.{HasStory}
use Rattle.lanes.specs.declared.lane.Lane.{Lane}
use Rattle.filer_lanes.specs.declared.ending.FilerEnd.{FilerEnd}
use Rattle.filer_lanes.specs.Ends.{IsEndOf}
use Rattle.filer_lanes.specs.Lanes.{AllOffer}
use Rattle.filer_lanes.specs.ThreadedHeadline.{HasOwnFinished, ThreadedHeadline}

module _ {D R : Type 0} {G : devices.Ghosts D} where
  stories : (lanes : List (Lane D R G)) → ∥ AllByRecursion (HasStory G.unread G.written) lanes ∥₁
  stories [] = ∣ tt ∣₁
  stories (lane ∷ lanes) = ∥∥₁_map₂ lane.story (stories lanes) (λ s ss. (s, ss))

  owned : (lanes : List (Lane D R G)) → AllByRecursion (HasStory G.unread G.written) lanes → AllByRecursion HasOwnFinished lanes
  owned [] told = tt
  owned (lane ∷ lanes) told = (told.0.once, owned lanes told.1)

  pub has-headline : (filer : Filer) (offer : Offer) (lanes : List (Lane D R G)) (end : FilerEnd) → IsEndOf filer lanes end → AllOffer offer lanes
      → ∥ ThreadedHeadline (layout_in filer) (verifier_in filer) offer lanes end ∥₁
  has-headline filer offer lanes end ended offers = ∥∥₁_map (stories lanes) (λ told. record {
    filer = filer;
    of_layout = refl;
    of_verifier = refl;
    lanes_are = ended.lanes_are;
    offers = offers;
    log = ended.log;
    places = ended.places;
    placed = ended.placed;
    output = told;
    each_once = ended.calls;
    own_finished = owned lanes told;
    first = ended.history.first;
    opened = ended.history.opened;
    lawful = ended.history.legal;
    throughout = ended.history.throughout;
    parcels = ended.parcels;
    state = ended.history.replays;
    left = ended.history.left;
    back = ended.back;
    hands = ended.history.are_hands;
    partition = ended.history.sound;
    apart = are-apart (FilerParcel Files) FilerEntry;
  })
