-- What the task of a call that adds does.
use Rattle.std.specs.Prelude.{◌≡◌, ℕ, Option, Some, None}
use Rattle.nfs_model.specs.Tree.{Layout, Affinity}
use Rattle.affinity.specs.Numbers.{number_of, parents}
use Rattle.parcels.specs.declared.family.Parcel.{Parcel}
use Rattle.depot.specs.trial.Adding.{Changes}
use Rattle.depot.specs.declared.trial.adding.Change.TheVariants.{Add}

module _ {P : Type 0} where
  -- the node's number becomes the sum of what it was and n, or nothing changes
  abbrev pub Adds : ℕ → Layout → Affinity → (ℕ → Option (Parcel P ℕ ℕ ℕ ℕ ℕ ℕ ℕ)) → Option ℕ → (ℕ → Option (Parcel P ℕ ℕ ℕ ℕ ℕ ℕ ℕ)) → Type 0
  Adds n layout affinity f (Some sum) f' = Changes (parents layout) (number_of layout affinity) (Add n) f sum f'
  Adds n layout affinity f None f' = (k : ℕ) → f' k ≡ f k
