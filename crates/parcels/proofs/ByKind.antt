-- What the functions of each kind of node show, at a node that is known by its kind: f is the shelf before, m where the own parcel has moved,
-- g afterwards.
use Rattle.std.proofs.Common.{◌≡◌, ◌≤◌, ◌<◌, ℕ, true, Option, length, refl, inl, slice_get, arith}
use Rattle.std.proofs.lemmas.Bool.{eqb-true}
use Rattle.nfs_model.specs.Tree.{Layout, Affinity, Serial, Aggregate, Logical, Stripe, Vbn, Range, aggregate_of}
use Rattle.affinity.specs.declared.affinity.Kind.TheVariants as kinds
use Rattle.affinity.specs.Affinity.{kind_of}
use Rattle.affinity.specs.Numbers.{number_of}
use Rattle.affinity.specs.Tree.{IsNode}
use Rattle.parcels.specs.Children.{EachChild, child, children, has_child, most_children, children_parcels}
use Rattle.parcels.specs.Exact.{Under, HasParcel, HasExactly, IsVacant, kind_in}
use Rattle.parcels.specs.Moved.{AllAllowed, AllMoved}
use Rattle.parcels.specs.Slots.{alone, in_slot}
use Rattle.parcels.specs.Sets.{range_parcels, stripe_parcels, vbn_parcels, logical_parcels, volume_parcels, aggregate_parcels, serial_parcels}
use Rattle.parcels.specs.declared.family.Parcel.{Parcel}
use Rattle.parcels.specs.declared.family.Parcel.TheVariants as parcels
use Rattle.parcels.specs.declared.sets.RangeHeld.{RangeHeld}
use Rattle.parcels.specs.declared.sets.StripeHeld.{StripeHeld}
use Rattle.parcels.specs.declared.sets.VbnHeld.{VbnHeld}
use Rattle.parcels.specs.declared.sets.LogicalHeld.{LogicalHeld}
use Rattle.parcels.specs.declared.sets.AggrHeld.{AggrHeld}
use Rattle.parcels.specs.declared.sets.SerialHeld.{SerialHeld}
use Rattle.parcels.proofs.Allowed.{vbn_own_allowed, ranges_allowed, logical_own_allowed, stripes_allowed, aggregate_own_allowed, volumes_allowed}
use Rattle.parcels.proofs.Allowed.{serial_own_allowed, aggregates_allowed}
use Rattle.parcels.proofs.Levels.{range-gathered, stripe-gathered, vbn-taken, vbn-gathered, vbn-scattered, logical-taken, logical-gathered, logical-scattered}
use Rattle.parcels.proofs.Levels.{aggregate-taken, aggregate-gathered, aggregate-scattered, serial-taken, serial-gathered, serial-scattered}

-- a fact of each node under a node is one of the node
pub own-under : (layout : Layout) (Q : Affinity → Type 0) (a : Affinity) → IsNode layout a → Under layout a Q → Q a
own-under layout Q a there under = under a (there, inl refl)

pub vbn_child_kind : (a : Affinity) → kind_of a ≡ kinds.VolumeVbn → (i : ℕ) → kind_of (child a i) ≡ kinds.Range
vbn_child_kind (Vbn v) kind i = refl
vbn_child_kind _ kind i = cc

pub vbn_room : (a : Affinity) → kind_of a ≡ kinds.VolumeVbn → most_children a ≤ 16
vbn_room (Vbn v) kind = omega arith
vbn_room _ kind = cc

pub logical_child_kind : (a : Affinity) → kind_of a ≡ kinds.VolumeLogical → (i : ℕ) → kind_of (child a i) ≡ kinds.Stripe
logical_child_kind (Logical v) kind i = refl
logical_child_kind _ kind i = cc

pub logical_room : (a : Affinity) → kind_of a ≡ kinds.VolumeLogical → most_children a ≤ 16
logical_room (Logical v) kind = omega arith
logical_room _ kind = cc

pub aggregate_child_kind : (a : Affinity) → kind_of a ≡ kinds.Aggregate → (i : ℕ) → kind_of (child a i) ≡ kinds.Volume
aggregate_child_kind (Aggregate n) kind i = refl
aggregate_child_kind _ kind i = cc

pub aggregate_room : (a : Affinity) → kind_of a ≡ kinds.Aggregate → most_children a ≤ 8
aggregate_room (Aggregate n) kind = omega arith
aggregate_room _ kind = cc

pub serial_child_kind : (a : Affinity) → kind_of a ≡ kinds.Serial → (i : ℕ) → kind_of (child a i) ≡ kinds.Aggregate
serial_child_kind Serial kind i = refl
serial_child_kind _ kind i = cc

pub serial_room : (a : Affinity) → kind_of a ≡ kinds.Serial → most_children a ≤ 2
serial_room Serial kind = omega arith
serial_room _ kind = cc

module _ {P R B S L V A X : Type 0} (layout : Layout) where
  -- ---- a range, and a stripe

  module _ (f g : ℕ → Option (Parcel P R B S L V A X)) where
    pub range-gathered-at : (held : RangeHeld P R B S L V A X) (a : Affinity) → kind_of a ≡ kinds.Range → IsNode layout a
        → AllMoved f (alone (number_of layout a) (parcels.Range held.own)) g → Under layout a (HasParcel layout f)
        → HasExactly kind_in layout a (range_parcels layout a held)
    range-gathered-at held (Range v i) kind node own there = range-gathered layout v i node held f g own there
    range-gathered-at held _ kind node own there = cc

    pub stripe-gathered-at : (held : StripeHeld P R B S L V A X) (a : Affinity) → kind_of a ≡ kinds.Stripe → IsNode layout a
        → AllMoved f (alone (number_of layout a) (parcels.Stripe held.own)) g → Under layout a (HasParcel layout f)
        → HasExactly kind_in layout a (stripe_parcels layout a held)
    stripe-gathered-at held (Stripe v i) kind node own there = stripe-gathered layout v i node held f g own there
    stripe-gathered-at held _ kind node own there = cc

  -- ---- the block numbers of a volume

  module _ (Q : ℕ → Parcel P R B S L V A X → Type 0) (held : VbnHeld P R B S L V A X) where
    pub vbn_own_allowed-at : (a : Affinity) → kind_of a ≡ kinds.VolumeVbn → IsNode layout a → AllAllowed Q (vbn_parcels layout a held)
        → Q (number_of layout a) (parcels.Vbn held.own)
    vbn_own_allowed-at (Vbn v) kind node h = vbn_own_allowed layout Q v held h
    vbn_own_allowed-at _ kind node h = cc

    pub ranges_allowed-at : (a : Affinity) → kind_of a ≡ kinds.VolumeVbn → IsNode layout a → AllAllowed Q (vbn_parcels layout a held)
        → (i : ℕ) → i < children layout a → has_child layout a i ≡ true
        → AllAllowed Q (λ k. in_slot (λ set. range_parcels layout (child a i) set k) (slice_get held.ranges.at i))
    ranges_allowed-at (Vbn v) kind node h i l used = ranges_allowed layout Q v held h i l
    ranges_allowed-at _ kind node h i l used = cc

  module _ (held : VbnHeld P R B S L V A X) (f m g : ℕ → Option (Parcel P R B S L V A X)) where
    pub vbn-taken-at : (a : Affinity) → kind_of a ≡ kinds.VolumeVbn → IsNode layout a
        → AllMoved f (alone (number_of layout a) (parcels.Vbn held.own)) m
        → AllMoved m (children_parcels range_parcels layout a held.ranges.at) g
        → AllMoved f (vbn_parcels layout a held) g
    vbn-taken-at (Vbn v) kind node own others = vbn-taken layout v node held f m g own others
    vbn-taken-at _ kind node own others = cc

    pub vbn-gathered-at : (a : Affinity) → kind_of a ≡ kinds.VolumeVbn → IsNode layout a → AllMoved f (alone (number_of layout a) (parcels.Vbn held.own)) m
        → AllMoved m (children_parcels range_parcels layout a held.ranges.at) g
        → EachChild layout a (λ node. Under layout node (IsVacant layout g)) → Under layout a (HasParcel layout f)
        → HasExactly kind_in layout a (vbn_parcels layout a held)
    vbn-gathered-at (Vbn v) kind node own others gone there = vbn-gathered layout v node held f m g own others gone there
    vbn-gathered-at _ kind node own others gone there = cc

    pub vbn-scattered-at : (a : Affinity) → kind_of a ≡ kinds.VolumeVbn → IsNode layout a
        → AllMoved m (alone (number_of layout a) (parcels.Vbn held.own)) f
        → AllMoved g (children_parcels range_parcels layout a held.ranges.at) m
        → AllMoved g (vbn_parcels layout a held) f
    vbn-scattered-at (Vbn v) kind node own others = vbn-scattered layout v node held f m g own others
    vbn-scattered-at _ kind node own others = cc

  -- ---- its names and stripes

  module _ (Q : ℕ → Parcel P R B S L V A X → Type 0) (held : LogicalHeld P R B S L V A X) where
    pub logical_own_allowed-at : (a : Affinity) → kind_of a ≡ kinds.VolumeLogical → IsNode layout a → AllAllowed Q (logical_parcels layout a held)
        → Q (number_of layout a) (parcels.Logical held.own)
    logical_own_allowed-at (Logical v) kind node h = logical_own_allowed layout Q v held h
    logical_own_allowed-at _ kind node h = cc

    pub stripes_allowed-at : (a : Affinity) → kind_of a ≡ kinds.VolumeLogical → IsNode layout a → AllAllowed Q (logical_parcels layout a held)
        → (i : ℕ) → i < children layout a → has_child layout a i ≡ true
        → AllAllowed Q (λ k. in_slot (λ set. stripe_parcels layout (child a i) set k) (slice_get held.stripes.at i))
    stripes_allowed-at (Logical v) kind node h i l used = stripes_allowed layout Q v held h i l
    stripes_allowed-at _ kind node h i l used = cc

  module _ (held : LogicalHeld P R B S L V A X) (f m g : ℕ → Option (Parcel P R B S L V A X)) where
    pub logical-taken-at : (a : Affinity) → kind_of a ≡ kinds.VolumeLogical → IsNode layout a
        → AllMoved f (alone (number_of layout a) (parcels.Logical held.own)) m
        → AllMoved m (children_parcels stripe_parcels layout a held.stripes.at) g
        → AllMoved f (logical_parcels layout a held) g
    logical-taken-at (Logical v) kind node own others = logical-taken layout v node held f m g own others
    logical-taken-at _ kind node own others = cc

    pub logical-gathered-at : (a : Affinity) → kind_of a ≡ kinds.VolumeLogical
        → IsNode layout a → AllMoved f (alone (number_of layout a) (parcels.Logical held.own)) m
        → AllMoved m (children_parcels stripe_parcels layout a held.stripes.at) g
        → EachChild layout a (λ node. Under layout node (IsVacant layout g)) → Under layout a (HasParcel layout f)
        → HasExactly kind_in layout a (logical_parcels layout a held)
    logical-gathered-at (Logical v) kind node own others gone there = logical-gathered layout v node held f m g own others gone there
    logical-gathered-at _ kind node own others gone there = cc

    pub logical-scattered-at : (a : Affinity) → kind_of a ≡ kinds.VolumeLogical → IsNode layout a
        → AllMoved m (alone (number_of layout a) (parcels.Logical held.own)) f
        → AllMoved g (children_parcels stripe_parcels layout a held.stripes.at) m
        → AllMoved g (logical_parcels layout a held) f
    logical-scattered-at (Logical v) kind node own others = logical-scattered layout v node held f m g own others
    logical-scattered-at _ kind node own others = cc

  -- ---- an aggregate

  module _ (Q : ℕ → Parcel P R B S L V A X → Type 0) (held : AggrHeld P R B S L V A X) where
    pub aggregate_own_allowed-at : (a : Affinity) → kind_of a ≡ kinds.Aggregate → IsNode layout a → AllAllowed Q (aggregate_parcels layout a held)
        → Q (number_of layout a) (parcels.Aggregate held.own)
    aggregate_own_allowed-at (Aggregate n) kind node h = aggregate_own_allowed layout Q n node held h
    aggregate_own_allowed-at _ kind node h = cc

    pub volumes_allowed-at : (a : Affinity) → kind_of a ≡ kinds.Aggregate → IsNode layout a → AllAllowed Q (aggregate_parcels layout a held)
        → (i : ℕ) → i < children layout a → has_child layout a i ≡ true
        → AllAllowed Q (λ k. in_slot (λ set. volume_parcels layout (child a i) set k) (slice_get held.volumes.at i))
    volumes_allowed-at (Aggregate n) kind node h i l used = volumes_allowed layout Q n node held h i l (eqb-true (aggregate_of layout i) n used)
    volumes_allowed-at _ kind node h i l used = cc

  module _ (held : AggrHeld P R B S L V A X) (f m g : ℕ → Option (Parcel P R B S L V A X)) where
    pub aggregate-taken-at : (a : Affinity) → kind_of a ≡ kinds.Aggregate → IsNode layout a
        → AllMoved f (alone (number_of layout a) (parcels.Aggregate held.own)) m
        → AllMoved m (children_parcels volume_parcels layout a held.volumes.at) g
        → AllMoved f (aggregate_parcels layout a held) g
    aggregate-taken-at (Aggregate n) kind node own others = aggregate-taken layout n node held f m g own others
    aggregate-taken-at _ kind node own others = cc

    pub aggregate-gathered-at : (a : Affinity) → kind_of a ≡ kinds.Aggregate → IsNode layout a
        → AllMoved f (alone (number_of layout a) (parcels.Aggregate held.own)) m
        → AllMoved m (children_parcels volume_parcels layout a held.volumes.at) g
        → EachChild layout a (λ node. Under layout node (IsVacant layout g)) → Under layout a (HasParcel layout f)
        → HasExactly kind_in layout a (aggregate_parcels layout a held)
    aggregate-gathered-at (Aggregate n) kind node own others gone there = aggregate-gathered layout n node held f m g own others gone there
    aggregate-gathered-at _ kind node own others gone there = cc

    pub aggregate-scattered-at : (a : Affinity) → kind_of a ≡ kinds.Aggregate → IsNode layout a
        → AllMoved m (alone (number_of layout a) (parcels.Aggregate held.own)) f
        → AllMoved g (children_parcels volume_parcels layout a held.volumes.at) m
        → AllMoved g (aggregate_parcels layout a held) f
    aggregate-scattered-at (Aggregate n) kind node own others = aggregate-scattered layout n node held f m g own others
    aggregate-scattered-at _ kind node own others = cc

  -- ---- all

  module _ (Q : ℕ → Parcel P R B S L V A X → Type 0) (held : SerialHeld P R B S L V A X) where
    pub serial_own_allowed-at : (a : Affinity) → kind_of a ≡ kinds.Serial → IsNode layout a → AllAllowed Q (serial_parcels layout a held)
        → Q (number_of layout a) (parcels.Serial held.own)
    serial_own_allowed-at Serial kind node h = serial_own_allowed layout Q held h
    serial_own_allowed-at _ kind node h = cc

    pub aggregates_allowed-at : (a : Affinity) → kind_of a ≡ kinds.Serial → IsNode layout a → AllAllowed Q (serial_parcels layout a held)
        → (i : ℕ) → i < children layout a → has_child layout a i ≡ true
        → AllAllowed Q (λ k. in_slot (λ set. aggregate_parcels layout (child a i) set k) (slice_get held.aggregates.at i))
    aggregates_allowed-at Serial kind node h i l used = aggregates_allowed layout Q held h i l
    aggregates_allowed-at _ kind node h i l used = cc

  module _ (held : SerialHeld P R B S L V A X) (f m g : ℕ → Option (Parcel P R B S L V A X)) where
    pub serial-taken-at : (a : Affinity) → kind_of a ≡ kinds.Serial → IsNode layout a
        → AllMoved f (alone (number_of layout a) (parcels.Serial held.own)) m
        → AllMoved m (children_parcels aggregate_parcels layout a held.aggregates.at) g
        → AllMoved f (serial_parcels layout a held) g
    serial-taken-at Serial kind node own others = serial-taken layout held f m g own others
    serial-taken-at _ kind node own others = cc

    pub serial-gathered-at : (a : Affinity) → kind_of a ≡ kinds.Serial → IsNode layout a
        → ((v : ℕ) → v < length layout.volumes → aggregate_of layout v < length layout.spare)
        → AllMoved f (alone (number_of layout a) (parcels.Serial held.own)) m
        → AllMoved m (children_parcels aggregate_parcels layout a held.aggregates.at) g
        → EachChild layout a (λ node. Under layout node (IsVacant layout g)) → Under layout a (HasParcel layout f)
        → HasExactly kind_in layout a (serial_parcels layout a held)
    serial-gathered-at Serial kind node known own others gone there = serial-gathered layout held f m g known own others gone there
    serial-gathered-at _ kind node known own others gone there = cc

    pub serial-scattered-at : (a : Affinity) → kind_of a ≡ kinds.Serial → IsNode layout a
        → AllMoved m (alone (number_of layout a) (parcels.Serial held.own)) f
        → AllMoved g (children_parcels aggregate_parcels layout a held.aggregates.at) m
        → AllMoved g (serial_parcels layout a held) f
    serial-scattered-at Serial kind node own others = serial-scattered layout held f m g own others
    serial-scattered-at _ kind node own others = cc
