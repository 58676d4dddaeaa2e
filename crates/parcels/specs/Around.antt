-- The stripe of its volume that a node is, as a number.
use Rattle.std.specs.Prelude.{ℕ}
use Rattle.nfs_model.specs.Tree.{Affinity, Stripe}

abbrev pub stripe_number : Affinity → ℕ
stripe_number (Stripe v i) = i
stripe_number _ = 0
