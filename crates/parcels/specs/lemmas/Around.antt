-- A node is known by its kind and its numbers.
use Rattle.std.proofs.Common.{◌≡◌, ℕ, sym, ap}
use Rattle.nfs_model.specs.Tree.{Affinity, Aggregate, Volume, Logical, Stripe}
use Rattle.affinity.specs.declared.affinity.Kind.TheVariants as kinds
use Rattle.affinity.specs.Affinity.{kind_of}
use Rattle.parcels.specs.Around.{stripe_number}
use Rattle.parcels.specs.Sets.{aggregate_number, volume_around}

pub is-volume : (a : Affinity) (v : ℕ) → kind_of a ≡ kinds.Volume → v ≡ volume_around a → a ≡ Volume v
is-volume (Volume w) v kind same = ap Volume (sym same)
is-volume _ v kind same = cc

pub is-logical : (a : Affinity) (v : ℕ) → kind_of a ≡ kinds.VolumeLogical → v ≡ volume_around a → a ≡ Logical v
is-logical (Logical w) v kind same = ap Logical (sym same)
is-logical _ v kind same = cc

pub is-stripe : (a : Affinity) (v i : ℕ) → kind_of a ≡ kinds.Stripe → v ≡ volume_around a → i ≡ stripe_number a → a ≡ Stripe v i
is-stripe (Stripe w k) v i kind same stripe = λ j. Stripe (sym same j) (sym stripe j)
is-stripe _ v i kind same stripe = cc

pub is-aggregate : (a : Affinity) (n : ℕ) → kind_of a ≡ kinds.Aggregate → n ≡ aggregate_number a → a ≡ Aggregate n
is-aggregate (Aggregate m) n kind same = ap Aggregate (sym same)
is-aggregate _ n kind same = cc
