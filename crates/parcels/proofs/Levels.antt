-- What the functions of each kind of node show of their whole set, from their own parcel and the sets below: f is the shelf before, m where
-- the own parcel has moved, g afterwards.
use Rattle.std.proofs.Common.{◌≡◌, ◌==◌, ℕ, ◌<◌, true, Option, None, length, refl}
use Rattle.std.proofs.lemmas.Bool.{eq-eqb}
use Rattle.nfs_model.specs.Tree.{Layout, Affinity, Serial, Aggregate, Volume, Logical, Stripe, Vbn, Range, stripes_of, aggregate_of}
use Rattle.affinity.specs.Numbers.{number_of}
use Rattle.affinity.specs.Tree.{IsNode}
use Rattle.parcels.specs.Children.{child, children, has_child}
use Rattle.parcels.specs.Exact.{Under, HasParcel, HasExactly, IsVacant, kind_in}
use Rattle.parcels.specs.Moved.{Moved}
use Rattle.parcels.specs.Slots.{alone, or_else, in_places}
use Rattle.parcels.specs.Sets.{range_parcels, stripe_parcels, vbn_parcels, logical_parcels, volume_parcels, aggregate_parcels, serial_parcels}
use Rattle.parcels.specs.declared.family.Parcel.{Parcel}
use Rattle.parcels.specs.declared.family.Parcel.TheVariants as parcels
use Rattle.parcels.specs.declared.sets.RangeHeld.{RangeHeld}
use Rattle.parcels.specs.declared.sets.StripeHeld.{StripeHeld}
use Rattle.parcels.specs.declared.sets.VbnHeld.{VbnHeld}
use Rattle.parcels.specs.declared.sets.LogicalHeld.{LogicalHeld}
use Rattle.parcels.specs.declared.sets.VolumeHeld.{VolumeHeld}
use Rattle.parcels.specs.declared.sets.AggrHeld.{AggrHeld}
use Rattle.parcels.specs.declared.sets.SerialHeld.{SerialHeld}
use Rattle.parcels.proofs.Moves.{moved-stays, gone-alone, taken-both, put-both}
use Rattle.parcels.proofs.Exactness.{range-from, stripe-from, vbn-from, logical-from, volume-from, aggregate-from, serial-from}
use Rattle.parcels.proofs.Exactness.{range-exact, stripe-exact, vbn-exact, logical-exact, volume-exact, aggregate-exact, serial-exact}
use Rattle.parcels.proofs.Steps.{logical-stays}

module _ {P R B S L V A X : Type 0} (layout : Layout) where
  -- ---- a range

  module _ (a : Affinity) (held : RangeHeld P R B S L V A X) (f g : ℕ → Option (Parcel P R B S L V A X)) where
    pub range-taken : ((k : ℕ) → Moved (f k) (alone (number_of layout a) (parcels.Range held.own) k) (g k)) → (k : ℕ)
        → Moved (f k) (range_parcels layout a held k) (g k)
    unfolding range_parcels
    range-taken own = own

    pub range-scattered : ((k : ℕ) → Moved (g k) (alone (number_of layout a) (parcels.Range held.own) k) (f k)) → (k : ℕ)
        → Moved (g k) (range_parcels layout a held k) (f k)
    unfolding range_parcels
    range-scattered own = own

  module _ (v i : ℕ) (node : IsNode layout (Range v i)) (held : RangeHeld P R B S L V A X) (f g : ℕ → Option (Parcel P R B S L V A X)) where
    pub range-gathered : ((k : ℕ) → Moved (f k) (alone (number_of layout (Range v i)) (parcels.Range held.own) k) (g k))
        → Under layout (Range v i) (HasParcel layout f)
        → HasExactly kind_in layout (Range v i) (range_parcels layout (Range v i) held)
    range-gathered own there =
        range-exact layout f g v i node held (range-from layout (HasParcel layout f) v i node there)
        (gone-alone f g (number_of layout (Range v i)) (parcels.Range held.own) own) (range-taken (Range v i) held f g own)

  -- ---- a stripe

  module _ (a : Affinity) (held : StripeHeld P R B S L V A X) (f g : ℕ → Option (Parcel P R B S L V A X)) where
    pub stripe-taken : ((k : ℕ) → Moved (f k) (alone (number_of layout a) (parcels.Stripe held.own) k) (g k)) → (k : ℕ)
        → Moved (f k) (stripe_parcels layout a held k) (g k)
    unfolding stripe_parcels
    stripe-taken own = own

    pub stripe-scattered : ((k : ℕ) → Moved (g k) (alone (number_of layout a) (parcels.Stripe held.own) k) (f k)) → (k : ℕ)
        → Moved (g k) (stripe_parcels layout a held k) (f k)
    unfolding stripe_parcels
    stripe-scattered own = own

  module _ (v i : ℕ) (node : IsNode layout (Stripe v i)) (held : StripeHeld P R B S L V A X) (f g : ℕ → Option (Parcel P R B S L V A X)) where
    pub stripe-gathered : ((k : ℕ) → Moved (f k) (alone (number_of layout (Stripe v i)) (parcels.Stripe held.own) k) (g k))
        → Under layout (Stripe v i) (HasParcel layout f)
        → HasExactly kind_in layout (Stripe v i) (stripe_parcels layout (Stripe v i) held)
    stripe-gathered own there =
        stripe-exact layout f g v i node held (stripe-from layout (HasParcel layout f) v i node there)
        (gone-alone f g (number_of layout (Stripe v i)) (parcels.Stripe held.own) own) (stripe-taken (Stripe v i) held f g own)

  -- ---- the block numbers of a volume

  module _ (v : ℕ) (node : v < length layout.volumes) (held : VbnHeld P R B S L V A X) (f m g : ℕ → Option (Parcel P R B S L V A X)) where
    pub vbn-taken : ((k : ℕ) → Moved (f k) (alone (number_of layout (Vbn v)) (parcels.Vbn held.own) k) (m k))
        → ((k : ℕ) → Moved (m k) (in_places (λ i. true) (λ i set. range_parcels layout (Range v i) set k) held.ranges.at 16) (g k)) → (k : ℕ)
        → Moved (f k) (vbn_parcels layout (Vbn v) held k) (g k)
    unfolding vbn_parcels
    vbn-taken = taken-both f m g (alone (number_of layout (Vbn v)) (parcels.Vbn held.own))
        (λ k. in_places (λ i. true) (λ i set. range_parcels layout (Range v i) set k) held.ranges.at 16)

    pub vbn-gathered : ((k : ℕ) → Moved (f k) (alone (number_of layout (Vbn v)) (parcels.Vbn held.own) k) (m k))
        → ((k : ℕ) → Moved (m k) (in_places (λ i. true) (λ i set. range_parcels layout (Range v i) set k) held.ranges.at 16) (g k))
        → ((i : ℕ) → i < children layout (Vbn v) → has_child layout (Vbn v) i ≡ true → Under layout (child (Vbn v) i) (IsVacant layout g))
        → Under layout (Vbn v) (HasParcel layout f) → HasExactly kind_in layout (Vbn v) (vbn_parcels layout (Vbn v) held)
    vbn-gathered own others gone there =
        vbn-exact layout v node f g held (vbn-from layout (HasParcel layout f) v node there)
        record {
          own = moved-stays (m (number_of layout (Vbn v)))
              (in_places (λ i. true) (λ i set. range_parcels layout (Range v i) set (number_of layout (Vbn v))) held.ranges.at 16)
              (g (number_of layout (Vbn v))) (gone-alone f m (number_of layout (Vbn v)) (parcels.Vbn held.own) own) (others (number_of layout (Vbn v)));
          ranges = λ i l. range-from layout (IsVacant layout g) v i (node, l) (gone i l refl);
        }
        (vbn-taken own others)

    pub vbn-scattered : ((k : ℕ) → Moved (m k) (alone (number_of layout (Vbn v)) (parcels.Vbn held.own) k) (f k))
        → ((k : ℕ) → Moved (g k) (in_places (λ i. true) (λ i set. range_parcels layout (Range v i) set k) held.ranges.at 16) (m k)) → (k : ℕ)
        → Moved (g k) (vbn_parcels layout (Vbn v) held k) (f k)
    unfolding vbn_parcels
    vbn-scattered = put-both f m g (alone (number_of layout (Vbn v)) (parcels.Vbn held.own))
        (λ k. in_places (λ i. true) (λ i set. range_parcels layout (Range v i) set k) held.ranges.at 16)

  -- ---- its names and stripes

  module _ (v : ℕ) (node : v < length layout.volumes) (held : LogicalHeld P R B S L V A X) (f m g : ℕ → Option (Parcel P R B S L V A X)) where
    pub logical-taken : ((k : ℕ) → Moved (f k) (alone (number_of layout (Logical v)) (parcels.Logical held.own) k) (m k))
        → ((k : ℕ) → Moved (m k) (in_places (λ i. true) (λ i set. stripe_parcels layout (Stripe v i) set k) held.stripes.at (stripes_of layout v))
        (g k)) → (k : ℕ) → Moved (f k) (logical_parcels layout (Logical v) held k) (g k)
    unfolding logical_parcels
    logical-taken = taken-both f m g (alone (number_of layout (Logical v)) (parcels.Logical held.own))
        (λ k. in_places (λ i. true) (λ i set. stripe_parcels layout (Stripe v i) set k) held.stripes.at (stripes_of layout v))

    pub logical-gathered : ((k : ℕ) → Moved (f k) (alone (number_of layout (Logical v)) (parcels.Logical held.own) k) (m k))
        → ((k : ℕ) → Moved (m k) (in_places (λ i. true) (λ i set. stripe_parcels layout (Stripe v i) set k) held.stripes.at (stripes_of layout v)) (g k))
        → ((i : ℕ) → i < children layout (Logical v) → has_child layout (Logical v) i ≡ true → Under layout (child (Logical v) i) (IsVacant layout g))
        → Under layout (Logical v) (HasParcel layout f) → HasExactly kind_in layout (Logical v) (logical_parcels layout (Logical v) held)
    logical-gathered own others gone there =
        logical-exact layout v node f g held (logical-from layout (HasParcel layout f) v node there)
        record {
          own = moved-stays (m (number_of layout (Logical v)))
              (in_places (λ i. true) (λ i set. stripe_parcels layout (Stripe v i) set (number_of layout (Logical v))) held.stripes.at
              (stripes_of layout v)) (g (number_of layout (Logical v))) (gone-alone f m (number_of layout (Logical v)) (parcels.Logical held.own) own)
              (others (number_of layout (Logical v)));
          stripes = λ i l. stripe-from layout (IsVacant layout g) v i (node, l) (gone i l refl);
        }
        (logical-taken own others)

    pub logical-scattered : ((k : ℕ) → Moved (m k) (alone (number_of layout (Logical v)) (parcels.Logical held.own) k) (f k))
        → ((k : ℕ) → Moved (g k) (in_places (λ i. true) (λ i set. stripe_parcels layout (Stripe v i) set k) held.stripes.at (stripes_of layout v))
        (m k)) → (k : ℕ) → Moved (g k) (logical_parcels layout (Logical v) held k) (f k)
    unfolding logical_parcels
    logical-scattered = put-both f m g (alone (number_of layout (Logical v)) (parcels.Logical held.own))
        (λ k. in_places (λ i. true) (λ i set. stripe_parcels layout (Stripe v i) set k) held.stripes.at (stripes_of layout v))

  -- ---- a volume: l is the shelf between its halves

  module _ (v : ℕ) (node : v < length layout.volumes) (held : VolumeHeld P R B S L V A X) (f m l g : ℕ → Option (Parcel P R B S L V A X)) where
    pub volume-taken : ((k : ℕ) → Moved (f k) (alone (number_of layout (Volume v)) (parcels.Volume held.own) k) (m k))
        → ((k : ℕ) → Moved (m k) (logical_parcels layout (Logical v) held.logical k) (l k))
        → ((k : ℕ) → Moved (l k) (vbn_parcels layout (Vbn v) held.vbn k) (g k)) → (k : ℕ) → Moved (f k) (volume_parcels layout (Volume v) held k) (g k)
    unfolding volume_parcels
    volume-taken own first last =
        taken-both f m g (alone (number_of layout (Volume v)) (parcels.Volume held.own))
        (λ k. or_else (logical_parcels layout (Logical v) held.logical k) (vbn_parcels layout (Vbn v) held.vbn k)) own
        (taken-both m l g (logical_parcels layout (Logical v) held.logical) (vbn_parcels layout (Vbn v) held.vbn) first last)

    pub volume-gathered : ((k : ℕ) → Moved (f k) (alone (number_of layout (Volume v)) (parcels.Volume held.own) k) (m k))
        → ((k : ℕ) → Moved (m k) (logical_parcels layout (Logical v) held.logical k) (l k))
        → ((k : ℕ) → Moved (l k) (vbn_parcels layout (Vbn v) held.vbn k) (g k))
        → Under layout (Logical v) (IsVacant layout l) → Under layout (Vbn v) (IsVacant layout g) → Under layout (Volume v) (HasParcel layout f)
        → HasExactly kind_in layout (Volume v) (volume_parcels layout (Volume v) held)
    volume-gathered own first last first_gone last_gone there =
        volume-exact layout v node f g held (volume-from layout (HasParcel layout f) v node there)
        record {
          own = stays (number_of layout (Volume v))
              (moved-stays (m (number_of layout (Volume v))) (logical_parcels layout (Logical v) held.logical (number_of layout (Volume v)))
              (l (number_of layout (Volume v))) (gone-alone f m (number_of layout (Volume v)) (parcels.Volume held.own) own)
              (first (number_of layout (Volume v))));
          logical = logical-stays layout l g stays v (logical-from layout (IsVacant layout l) v node first_gone);
          vbn = vbn-from layout (IsVacant layout g) v node last_gone;
        }
        (volume-taken own first last)
      where
        stays : (k : ℕ) → l k ≡ None → g k ≡ None
        stays k e = moved-stays (l k) (vbn_parcels layout (Vbn v) held.vbn k) (g k) e (last k)

    pub volume-scattered : ((k : ℕ) → Moved (m k) (alone (number_of layout (Volume v)) (parcels.Volume held.own) k) (f k))
        → ((k : ℕ) → Moved (l k) (logical_parcels layout (Logical v) held.logical k) (m k))
        → ((k : ℕ) → Moved (g k) (vbn_parcels layout (Vbn v) held.vbn k) (l k)) → (k : ℕ) → Moved (g k) (volume_parcels layout (Volume v) held k) (f k)
    unfolding volume_parcels
    volume-scattered own first last =
        put-both f m g (alone (number_of layout (Volume v)) (parcels.Volume held.own))
        (λ k. or_else (logical_parcels layout (Logical v) held.logical k) (vbn_parcels layout (Vbn v) held.vbn k)) own
        (put-both m l g (logical_parcels layout (Logical v) held.logical) (vbn_parcels layout (Vbn v) held.vbn) first last)

  -- ---- an aggregate

  module _ (a : ℕ) (node : a < length layout.spare) (held : AggrHeld P R B S L V A X) (f m g : ℕ → Option (Parcel P R B S L V A X)) where
    pub aggregate-taken : ((k : ℕ) → Moved (f k) (alone (number_of layout (Aggregate a)) (parcels.Aggregate held.own) k) (m k))
        → ((k : ℕ) → Moved (m k)
        (in_places (λ i. aggregate_of layout i == a) (λ i set. volume_parcels layout (Volume i) set k) held.volumes.at (length layout.volumes)) (g k))
        → (k : ℕ) → Moved (f k) (aggregate_parcels layout (Aggregate a) held k) (g k)
    unfolding aggregate_parcels
    aggregate-taken = taken-both f m g (alone (number_of layout (Aggregate a)) (parcels.Aggregate held.own))
        (λ k. in_places (λ i. aggregate_of layout i == a) (λ i set. volume_parcels layout (Volume i) set k) held.volumes.at (length layout.volumes))

    pub aggregate-gathered : ((k : ℕ) → Moved (f k) (alone (number_of layout (Aggregate a)) (parcels.Aggregate held.own) k) (m k))
        → ((k : ℕ) → Moved (m k)
        (in_places (λ i. aggregate_of layout i == a) (λ i set. volume_parcels layout (Volume i) set k) held.volumes.at (length layout.volumes)) (g k))
        → ((i : ℕ) → i < children layout (Aggregate a) → has_child layout (Aggregate a) i ≡ true → Under layout (child (Aggregate a) i) (IsVacant layout g))
        → Under layout (Aggregate a) (HasParcel layout f) → HasExactly kind_in layout (Aggregate a) (aggregate_parcels layout (Aggregate a) held)
    aggregate-gathered own others gone there =
        aggregate-exact layout f g a node held (aggregate-from layout (HasParcel layout f) a node there)
        record {
          own = moved-stays (m (number_of layout (Aggregate a)))
              (in_places (λ i. aggregate_of layout i == a) (λ i set. volume_parcels layout (Volume i) set (number_of layout (Aggregate a)))
              held.volumes.at (length layout.volumes)) (g (number_of layout (Aggregate a)))
              (gone-alone f m (number_of layout (Aggregate a)) (parcels.Aggregate held.own) own) (others (number_of layout (Aggregate a)));
          volumes = λ i l on. volume-from layout (IsVacant layout g) i l (gone i l (eq-eqb (aggregate_of layout i) a on));
        }
        (aggregate-taken own others)

    pub aggregate-scattered : ((k : ℕ) → Moved (m k) (alone (number_of layout (Aggregate a)) (parcels.Aggregate held.own) k) (f k))
        → ((k : ℕ) → Moved (g k)
        (in_places (λ i. aggregate_of layout i == a) (λ i set. volume_parcels layout (Volume i) set k) held.volumes.at (length layout.volumes)) (m k))
        → (k : ℕ) → Moved (g k) (aggregate_parcels layout (Aggregate a) held k) (f k)
    unfolding aggregate_parcels
    aggregate-scattered = put-both f m g (alone (number_of layout (Aggregate a)) (parcels.Aggregate held.own))
        (λ k. in_places (λ i. aggregate_of layout i == a) (λ i set. volume_parcels layout (Volume i) set k) held.volumes.at (length layout.volumes))

  -- ---- all

  module _ (held : SerialHeld P R B S L V A X) (f m g : ℕ → Option (Parcel P R B S L V A X)) where
    pub serial-taken : ((k : ℕ) → Moved (f k) (alone (number_of layout Serial) (parcels.Serial held.own) k) (m k))
        → ((k : ℕ) → Moved (m k)
        (in_places (λ i. true) (λ i set. aggregate_parcels layout (Aggregate i) set k) held.aggregates.at (length layout.spare)) (g k)) → (k : ℕ)
        → Moved (f k) (serial_parcels layout Serial held k) (g k)
    unfolding serial_parcels
    serial-taken = taken-both f m g (alone (number_of layout Serial) (parcels.Serial held.own))
        (λ k. in_places (λ i. true) (λ i set. aggregate_parcels layout (Aggregate i) set k) held.aggregates.at (length layout.spare))

    pub serial-gathered : ((v : ℕ) → v < length layout.volumes → aggregate_of layout v < length layout.spare)
        → ((k : ℕ) → Moved (f k) (alone (number_of layout Serial) (parcels.Serial held.own) k) (m k))
        → ((k : ℕ) → Moved (m k) (in_places (λ i. true) (λ i set. aggregate_parcels layout (Aggregate i) set k) held.aggregates.at (length layout.spare)) (g k))
        → ((i : ℕ) → i < children layout Serial → has_child layout Serial i ≡ true → Under layout (child Serial i) (IsVacant layout g))
        → Under layout Serial (HasParcel layout f) → HasExactly kind_in layout Serial (serial_parcels layout Serial held)
    serial-gathered known own others gone there =
        serial-exact layout f g known held (serial-from layout (HasParcel layout f) there)
        record {
          own = moved-stays (m (number_of layout Serial))
              (in_places (λ i. true) (λ i set. aggregate_parcels layout (Aggregate i) set (number_of layout Serial)) held.aggregates.at
              (length layout.spare)) (g (number_of layout Serial)) (gone-alone f m (number_of layout Serial) (parcels.Serial held.own) own)
              (others (number_of layout Serial));
          aggregates = λ i l. aggregate-from layout (IsVacant layout g) i l (gone i l refl);
        }
        (serial-taken own others)

    pub serial-scattered : ((k : ℕ) → Moved (m k) (alone (number_of layout Serial) (parcels.Serial held.own) k) (f k))
        → ((k : ℕ) → Moved (g k)
        (in_places (λ i. true) (λ i set. aggregate_parcels layout (Aggregate i) set k) held.aggregates.at (length layout.spare)) (m k)) → (k : ℕ)
        → Moved (g k) (serial_parcels layout Serial held k) (f k)
    unfolding serial_parcels
    serial-scattered = put-both f m g (alone (number_of layout Serial) (parcels.Serial held.own))
        (λ k. in_places (λ i. true) (λ i set. aggregate_parcels layout (Aggregate i) set k) held.aggregates.at (length layout.spare))
