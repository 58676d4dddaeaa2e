-- An empty stock.
use Rattle.std.proofs.Common.{◌≡◌, ℕ, false, List, [], ◌∷◌}
use Rattle.std.specs.List.{AllByRecursion}
use Rattle.std.specs.Ordering.{nat_cmp}
use Rattle.std.specs.FinSet as sets
use Rattle.std.specs.FinSet.{contains}

-- it has none of these
pub none-of-empty : (bs : List ℕ) → AllByRecursion (λ b. contains {R = nat_cmp} sets.empty b ≡ false) bs
none-of-empty [] = tt
none-of-empty (b ∷ bs) = (sets.contains-empty nat_cmp b, none-of-empty bs)
