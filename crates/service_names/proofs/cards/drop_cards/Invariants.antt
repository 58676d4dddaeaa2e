use Rattle.std.proofs.Common.{◌≡◌, ◌≤◌}
use Rattle.service_names.specs.Cards.{IsDropped}
use Rattle.service_names.proofs.Putting.{AreFrom}
use Rattle.service_names.proofs.cards.drop_cards.Given as goal

-- the cards of the stripes so far are gone
abbrev pub invariant-loop-left : goal.invariant-loop-left
invariant-loop-left l = (l.left ≤ l.initial.held.own.stripes) × (l.held.own ≡ l.initial.held.own)
    × AreFrom (IsDropped l.fileid.0) l.initial.held.own.stripes l.initial.held.stripes.at l.left l.held.stripes.at

abbrev pub decreases-loop-left : goal.decreases-loop-left
decreases-loop-left l = l.left
