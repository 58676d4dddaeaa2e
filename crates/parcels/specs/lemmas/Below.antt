-- A fact of each node of a part of the tree, told by the parts of that part.
use Rattle.std.specs.Prelude.{◌≡◌, ℕ, ◌<◌, length}
use Rattle.nfs_model.specs.Tree.{Layout, Affinity, Serial, Aggregate, Volume, Logical, Stripe, Vbn, Range, stripes_of, aggregate_of}

module _ (layout : Layout) (Q : Affinity → Type 0) where
  pub record OnLogical (v : ℕ) : Type 0 where
    pub own : Q (Logical v)
    pub stripes : (i : ℕ) → i < stripes_of layout v → Q (Stripe v i)

  pub record OnVbn (v : ℕ) : Type 0 where
    pub own : Q (Vbn v)
    pub ranges : (r : ℕ) → r < 16 → Q (Range v r)

  pub record OnVolume (v : ℕ) : Type 0 where
    pub own : Q (Volume v)
    pub logical : OnLogical v
    pub vbn : OnVbn v

  pub record OnAggregate (a : ℕ) : Type 0 where
    pub own : Q (Aggregate a)
    pub volumes : (v : ℕ) → v < length layout.volumes → aggregate_of layout v ≡ a → OnVolume v

  pub record OnSerial : Type 0 where
    pub own : Q Serial
    pub aggregates : (a : ℕ) → a < length layout.spare → OnAggregate a
