use Rattle.std.proofs.Common.{◌≡◌}
use Rattle.nfs_model.specs.volume.Stripes.{file_card_owned}
use Rattle.nfs_values.specs.Ownership.{ownership_of}
use Rattle.service_data.specs.Places.{first_changed, with_places}
use Rattle.service_data.proofs.homes.own_cards.Given as goal

-- the cards of the stripes so far show the owner
abbrev pub invariant-loop-place : goal.invariant-loop-place
invariant-loop-place l =
    l.held ≡ with_places (first_changed l.place (file_card_owned l.fileid.0 (ownership_of l.owner)) l.initial.held.stripes.at) l.initial.held
