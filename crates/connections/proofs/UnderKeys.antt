-- What was done to the connection of a key.
use Rattle.std.proofs.Common.{◌≡◌, ℕ, List, Option, Some, subst}
use Rattle.slab.specs.Slab.{Slab, with_value}
use Rattle.outboxes.specs.Boxes.{Boxes}
use Rattle.connections.specs.declared.connection.Connection.{Connection}
use Rattle.connections.specs.declared.writing.Sent.{Sent}
use Rattle.connections.specs.Keyed.{WritesUnder}
use Rattle.connections.specs.Writing.{HasWritten}
use Rattle.connections.specs.Incoming.{Incoming}

module _ {D : Type 0} (unread : D → Incoming) (written : D → Option (List ℕ)) where
  pub writes-under : (slab slab' : Slab (Connection D)) (key : ℕ) (o : Option (Connection D)) (before after : Connection D) (boxes boxes' : Boxes)
      (result : Sent) → Some before ≡ o → slab' ≡ with_value slab key after → HasWritten unread written before boxes result after boxes'
      → WritesUnder unread written slab key o boxes result slab' boxes'
  writes-under slab slab' key o before after boxes boxes' result is now on =
      subst (λ (x : Option (Connection D)). WritesUnder unread written slab key x boxes result slab' boxes') is (after, now, on)
