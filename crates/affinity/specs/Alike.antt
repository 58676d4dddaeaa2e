-- Two layouts that number the same nodes alike.
use Rattle.std.specs.Prelude.{◌≡◌, ◌↔◌, ℕ, length}
use Rattle.nfs_model.specs.Tree.{Layout, Affinity, aggregate_of, stripes_of, excludes}
use Rattle.affinity.specs.Tree.{IsNode}
use Rattle.affinity.specs.Under.{IsUnder}
use Rattle.affinity.specs.Numbers.{number_of}

-- the same nodes, under the same numbers, and one tree over them
pub record AreAlike (l m : Layout) : Type 0 where
  pub aggregates : length l.spare ≡ length m.spare
  pub volumes : length l.volumes ≡ length m.volumes
  pub aggregate : (v : ℕ) → aggregate_of l v ≡ aggregate_of m v
  pub stripes : (v : ℕ) → stripes_of l v ≡ stripes_of m v
  pub node : (a : Affinity) → (IsNode l a ↔ IsNode m a)
  pub number : (a : Affinity) → number_of l a ≡ number_of m a
  pub under : (a b : Affinity) → (IsUnder l a b ↔ IsUnder m a b)
  pub excludes : (a b : Affinity) → excludes l a b ≡ excludes m a b
