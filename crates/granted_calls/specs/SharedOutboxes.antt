-- What a pass of shared outboxes knows: which outboxes were taken out by it, and which were given back (our profile).
use Rattle.std.specs.Prelude.{◌≡◌}
use Rattle.outboxes.specs.Boxes.{Boxes}
use Rattle.granted_calls.specs.shared_waiting.Balance.{added, taken}
use Rattle.granted_calls.specs.shared_waiting.Passes as passes
use Rattle.granted_calls.specs.declared.shared_outboxes.SharedOutboxes.{SharedOutboxes}
use Rattle.granted_calls.specs.declared.shared_waiting.pass.Pass.{Pass}
use Rattle.granted_calls.specs.declared.shared_waiting.view.View.{View}

abbrev pub OutboxesPass : Type 0
OutboxesPass = Pass Boxes (Unit {0})

-- what a pass has taken out and given back
abbrev pub Lent : Type 0
Lent = View Boxes (Unit {0})

-- any outboxes may be given back
abbrev pub AnyBoxes : Unit {0} → Boxes → Type 0
AnyBoxes key b = Unit {0}

-- the pass is of these outboxes
abbrev pub IsOf : SharedOutboxes → OutboxesPass → Type 0
IsOf shared pass = passes.IsOf shared.place pass

-- by a pass outboxes were taken out, and others given back for them
abbrev pub HasChanged : Lent → Boxes → Boxes → Lent → Type 0
HasChanged before b c after = after ≡ added (taken before b) c

-- the pass has the share of the right to know the outboxes that it had
abbrev pub HasLentShareOf : Lent → Lent → Type 0
HasLentShareOf v w = (w.share ≡ v.share) × (w.halvings ≡ v.halvings)
