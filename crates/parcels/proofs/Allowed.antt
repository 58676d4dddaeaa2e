-- What may be given of a set, by its own parcel and the parts below.
use Rattle.std.proofs.Common.{◌≡◌, ℕ, ◌+◌, ◌<◌, true, ◌==◌, length, refl, slice_get}
use Rattle.std.specs.Prelude.{IfSome}
use Rattle.std.proofs.lemmas.Bool.{eq-eqb}
use Rattle.nfs_model.specs.Tree.{Layout, Affinity, Serial, Aggregate, Volume, Logical, Stripe, Vbn, Range, stripes_of, aggregate_of}
use Rattle.affinity.specs.Numbers.{number_of}
use Rattle.parcels.specs.Slots.{or_else, in_slot, in_places}
use Rattle.parcels.specs.Sets.{range_parcels, vbn_parcels, stripe_parcels, logical_parcels, volume_parcels, aggregate_parcels, serial_parcels}
use Rattle.parcels.specs.declared.family.Parcel.{Parcel}
use Rattle.parcels.specs.declared.family.Parcel.TheVariants as parcels
use Rattle.parcels.specs.declared.sets.RangeHeld.{RangeHeld}
use Rattle.parcels.specs.declared.sets.VbnHeld.{VbnHeld}
use Rattle.parcels.specs.declared.sets.StripeHeld.{StripeHeld}
use Rattle.parcels.specs.declared.sets.LogicalHeld.{LogicalHeld}
use Rattle.parcels.specs.declared.sets.VolumeHeld.{VolumeHeld}
use Rattle.parcels.specs.declared.sets.AggrHeld.{AggrHeld}
use Rattle.parcels.specs.declared.sets.SerialHeld.{SerialHeld}
use Rattle.parcels.proofs.Allowing.{allowed-alone, allowed-first, allowed-second, allowed-own, allowed-rest, allowed-slot}
use Rattle.parcels.proofs.Apart.{ranges-apart, stripes-apart, sets_of_volumes-apart, sets_of_aggregates-apart, ranges-elsewhere}
use Rattle.parcels.proofs.Apart.{stripes-elsewhere, halves-elsewhere, halves-apart, volumes-elsewhere, aggregates-elsewhere}

module _ {P R B S L V A X : Type 0} (layout : Layout) (Q : ℕ → Parcel P R B S L V A X → Type 0) where
  pub range_allowed : (a : Affinity) (held : RangeHeld P R B S L V A X) → ((k : ℕ) → IfSome (range_parcels layout a held k) (Q k))
      → Q (number_of layout a) (parcels.Range held.own)
  unfolding range_parcels
  range_allowed a held h = allowed-alone Q (number_of layout a) (parcels.Range held.own) h

  pub stripe_allowed : (a : Affinity) (held : StripeHeld P R B S L V A X) → ((k : ℕ) → IfSome (stripe_parcels layout a held k) (Q k))
      → Q (number_of layout a) (parcels.Stripe held.own)
  unfolding stripe_parcels
  stripe_allowed a held h = allowed-alone Q (number_of layout a) (parcels.Stripe held.own) h

  -- ---- the block numbers of a volume

  module _ (v : ℕ) (held : VbnHeld P R B S L V A X) (h : (k : ℕ) → IfSome (vbn_parcels layout (Vbn v) held k) (Q k)) where
    pub vbn_own_allowed : Q (number_of layout (Vbn v)) (parcels.Vbn held.own)
    unfolding vbn_parcels
    vbn_own_allowed = allowed-own Q (number_of layout (Vbn v)) (parcels.Vbn held.own)
        (λ k. in_places (λ r. true) (λ r range. range_parcels layout (Range v r) range k) held.ranges.at 16) h

    pub ranges_allowed : (r : ℕ) → r < 16 → (k : ℕ) → IfSome (in_slot (λ range. range_parcels layout (Range v r) range k) (slice_get held.ranges.at r)) (Q k)
    unfolding vbn_parcels
    ranges_allowed r l =
        allowed-slot (λ r range. range_parcels layout (Range v r) range) (λ r. true) Q held.ranges.at 16 r l refl (ranges-apart layout v r)
        (allowed-rest Q (number_of layout (Vbn v)) (parcels.Vbn held.own)
        (λ k. in_places (λ r. true) (λ r range. range_parcels layout (Range v r) range k) held.ranges.at 16) (ranges-elsewhere layout v held) h)

  -- ---- its names and stripes

  module _ (v : ℕ) (held : LogicalHeld P R B S L V A X) (h : (k : ℕ) → IfSome (logical_parcels layout (Logical v) held k) (Q k)) where
    pub logical_own_allowed : Q (number_of layout (Logical v)) (parcels.Logical held.own)
    unfolding logical_parcels
    logical_own_allowed = allowed-own Q (number_of layout (Logical v)) (parcels.Logical held.own)
        (λ k. in_places (λ i. true) (λ i stripe. stripe_parcels layout (Stripe v i) stripe k) held.stripes.at (stripes_of layout v)) h

    pub stripes_allowed : (i : ℕ) → i < stripes_of layout v → (k : ℕ)
        → IfSome (in_slot (λ stripe. stripe_parcels layout (Stripe v i) stripe k) (slice_get held.stripes.at i)) (Q k)
    unfolding logical_parcels
    stripes_allowed i l =
        allowed-slot (λ i stripe. stripe_parcels layout (Stripe v i) stripe) (λ i. true) Q held.stripes.at (stripes_of layout v) i l refl
        (stripes-apart layout v i)
        (allowed-rest Q (number_of layout (Logical v)) (parcels.Logical held.own)
        (λ k. in_places (λ i. true) (λ i stripe. stripe_parcels layout (Stripe v i) stripe k) held.stripes.at (stripes_of layout v))
        (stripes-elsewhere layout v held) h)

  -- ---- a volume

  module _ (v : ℕ) (held : VolumeHeld P R B S L V A X) (h : (k : ℕ) → IfSome (volume_parcels layout (Volume v) held k) (Q k)) where
    pub volume_own_allowed : Q (number_of layout (Volume v)) (parcels.Volume held.own)
    unfolding volume_parcels
    volume_own_allowed = allowed-own Q (number_of layout (Volume v)) (parcels.Volume held.own)
        (λ k. or_else (logical_parcels layout (Logical v) held.logical k) (vbn_parcels layout (Vbn v) held.vbn k)) h

    halves_allowed : (k : ℕ) → IfSome (or_else (logical_parcels layout (Logical v) held.logical k) (vbn_parcels layout (Vbn v) held.vbn k)) (Q k)
    unfolding volume_parcels
    halves_allowed = allowed-rest Q (number_of layout (Volume v)) (parcels.Volume held.own)
        (λ k. or_else (logical_parcels layout (Logical v) held.logical k) (vbn_parcels layout (Vbn v) held.vbn k)) (halves-elsewhere layout v held) h

    pub logical_allowed : (k : ℕ) → IfSome (logical_parcels layout (Logical v) held.logical k) (Q k)
    logical_allowed = allowed-first Q (logical_parcels layout (Logical v) held.logical) (vbn_parcels layout (Vbn v) held.vbn) halves_allowed

    pub vbn_allowed : (k : ℕ) → IfSome (vbn_parcels layout (Vbn v) held.vbn k) (Q k)
    vbn_allowed = allowed-second Q (logical_parcels layout (Logical v) held.logical) (vbn_parcels layout (Vbn v) held.vbn)
        (halves-apart layout v held) halves_allowed

  -- ---- an aggregate

  module _ (a : ℕ) (there : a < length layout.spare) (held : AggrHeld P R B S L V A X)
      (h : (k : ℕ) → IfSome (aggregate_parcels layout (Aggregate a) held k) (Q k)) where
    pub aggregate_own_allowed : Q (number_of layout (Aggregate a)) (parcels.Aggregate held.own)
    unfolding aggregate_parcels
    aggregate_own_allowed = allowed-own Q (2 + a) (parcels.Aggregate held.own)
        (λ k. in_places (λ v. aggregate_of layout v == a) (λ v volume. volume_parcels layout (Volume v) volume k) held.volumes.at (length layout.volumes)) h

    pub volumes_allowed : (v : ℕ) → v < length layout.volumes → aggregate_of layout v ≡ a → (k : ℕ)
        → IfSome (in_slot (λ volume. volume_parcels layout (Volume v) volume k) (slice_get held.volumes.at v)) (Q k)
    unfolding aggregate_parcels
    volumes_allowed v l on =
        allowed-slot (λ v volume. volume_parcels layout (Volume v) volume) (λ v. aggregate_of layout v == a) Q held.volumes.at
        (length layout.volumes) v l (eq-eqb (aggregate_of layout v) a on) (λ k. sets_of_volumes-apart layout v k l)
        (allowed-rest Q (2 + a) (parcels.Aggregate held.own)
        (λ k. in_places (λ v. aggregate_of layout v == a) (λ v volume. volume_parcels layout (Volume v) volume k) held.volumes.at
        (length layout.volumes)) (volumes-elsewhere layout a there held) h)

  -- ---- all

  module _ (held : SerialHeld P R B S L V A X) (h : (k : ℕ) → IfSome (serial_parcels layout Serial held k) (Q k)) where
    pub serial_own_allowed : Q (number_of layout Serial) (parcels.Serial held.own)
    unfolding serial_parcels
    serial_own_allowed = allowed-own Q 1 (parcels.Serial held.own)
        (λ k. in_places (λ a. true) (λ a aggregate. aggregate_parcels layout (Aggregate a) aggregate k) held.aggregates.at (length layout.spare)) h

    pub aggregates_allowed : (a : ℕ) → a < length layout.spare → (k : ℕ)
        → IfSome (in_slot (λ aggregate. aggregate_parcels layout (Aggregate a) aggregate k) (slice_get held.aggregates.at a)) (Q k)
    unfolding serial_parcels
    aggregates_allowed a l =
        allowed-slot (λ a aggregate. aggregate_parcels layout (Aggregate a) aggregate) (λ a. true) Q held.aggregates.at (length layout.spare) a l
        refl (λ k. sets_of_aggregates-apart layout a k l)
        (allowed-rest Q 1 (parcels.Serial held.own)
        (λ k. in_places (λ a. true) (λ a aggregate. aggregate_parcels layout (Aggregate a) aggregate k) held.aggregates.at (length layout.spare))
        (aggregates-elsewhere layout held) h)
