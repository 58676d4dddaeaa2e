use Rattle.std.proofs.Common.{◌≡◌}
use Rattle.filer_state.specs.bytes.Extending.{stripe_grown}
use Rattle.service_data.specs.Places.{first_changed, with_places}
use Rattle.service_data.proofs.homes.grow_cards.Given as goal

-- the cards of the stripes so far show the size
abbrev pub invariant-loop-place : goal.invariant-loop-place
invariant-loop-place l =
    l.held ≡ with_places (first_changed l.place (stripe_grown l.fileid.0 l.size) l.initial.held.stripes.at) l.initial.held
