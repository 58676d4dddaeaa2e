-- A set has nothing at a number that is none of its nodes'.
use Rattle.std.proofs.Common.{◌≡◌, ◌≢◌, ℕ, zero, suc, ◌<◌, Bool, true, false, List, Option, Some, None, length, refl, sym, ap, subst, arith, slice_get, ◌==◌}
use Rattle.std.specs.Prelude.{if◌then◌else◌}
use Rattle.std.proofs.lemmas.Bool.{ne_eqb, eqb-true}
use Rattle.nfs_model.specs.Tree.{Layout, Serial, Aggregate, Volume, Logical, Stripe, Vbn, Range, stripes_of, aggregate_of}
use Rattle.affinity.specs.Numbers.{number_of}
use Rattle.parcels.specs.lemmas.Below.{OnLogical, OnVbn, OnVolume, OnAggregate, OnSerial}
use Rattle.parcels.specs.Slots.{alone, or_else, in_slot, in_used_place, in_places}
use Rattle.parcels.specs.Sets.{range_parcels, vbn_parcels, stripe_parcels, logical_parcels, volume_parcels, aggregate_parcels, serial_parcels}
use Rattle.parcels.specs.declared.family.Parcel.TheVariants as parcels
use Rattle.parcels.specs.declared.sets.RangeHeld.{RangeHeld}
use Rattle.parcels.specs.declared.sets.StripeHeld.{StripeHeld}
use Rattle.parcels.specs.declared.sets.VbnHeld.{VbnHeld}
use Rattle.parcels.specs.declared.sets.LogicalHeld.{LogicalHeld}
use Rattle.parcels.specs.declared.sets.VolumeHeld.{VolumeHeld}
use Rattle.parcels.specs.declared.sets.AggrHeld.{AggrHeld}
use Rattle.parcels.specs.declared.sets.SerialHeld.{SerialHeld}

pub alone-none : {T : Type 0} (n : ℕ) (x : T) (k : ℕ) → k ≢ n → alone n x k ≡ None
unfolding alone
alone-none n x k h = ap (λ b. if b then Some x else None) (ne_eqb k n h)

pub or_else-none : {T : Type 0} (a b : Option T) → a ≡ None → b ≡ None → or_else a b ≡ None
or_else-none a b e d = subst (λ o. or_else o b ≡ None) (sym e) d

pub slot-none : {H T : Type 0} (f : H → Option T) (o : Option (Option H)) → ((held : H) → f held ≡ None) → in_slot f o ≡ None
slot-none f None h = refl
slot-none f (Some None) h = refl
slot-none f (Some (Some x)) h = h x

pub used-none : {T : Type 0} (b : Bool) (o : Option T) → (b ≡ true → o ≡ None) → (if b then o else None) ≡ None
used-none true o h = h refl
used-none false o h = refl

module _ {H T : Type 0} (u : ℕ → Bool) (f : ℕ → H → Option T) where
  -- nothing where no set has anything
  pub in_places-none : (slots : List (Option H)) (n : ℕ) → ((i : ℕ) → i < n → u i ≡ true → (held : H) → f i held ≡ None) → in_places u f slots n ≡ None
  unfolding in_places
  in_places-none slots zero h = refl
  in_places-none slots (suc n) h =
      or_else-none (in_places u f slots n) (in_used_place u f slots n)
      (in_places-none slots n (λ i l. h i (omega arith)))
      (used-none (u n) (in_slot (f n) (slice_get slots n)) (λ e. slot-none (f n) (slice_get slots n) (h n (omega arith) e)))

module _ {P R B S L V A X : Type 0} (layout : Layout) (k : ℕ) where
  pub range-none : (v r : ℕ) (held : RangeHeld P R B S L V A X) → k ≢ number_of layout (Range v r) → range_parcels layout (Range v r) held k ≡ None
  unfolding range_parcels
  range-none v r held = alone-none (number_of layout (Range v r)) (parcels.Range held.own) k

  pub stripe-none : (v i : ℕ) (held : StripeHeld P R B S L V A X) → k ≢ number_of layout (Stripe v i) → stripe_parcels layout (Stripe v i) held k ≡ None
  unfolding stripe_parcels
  stripe-none v i held = alone-none (number_of layout (Stripe v i)) (parcels.Stripe held.own) k

  pub vbn-none : (v : ℕ) (held : VbnHeld P R B S L V A X) → OnVbn layout (λ b. k ≢ number_of layout b) v → vbn_parcels layout (Vbn v) held k ≡ None
  unfolding vbn_parcels range_parcels
  vbn-none v held on =
      or_else-none
      (alone (number_of layout (Vbn v)) (parcels.Vbn held.own) k)
      (in_places (λ r. true) (λ r range. range_parcels layout (Range v r) range k) held.ranges.at 16)
      (alone-none (number_of layout (Vbn v)) (parcels.Vbn held.own) k on.own)
      (in_places-none (λ r. true) (λ r range. range_parcels layout (Range v r) range k) held.ranges.at 16
      (λ r l used range. alone-none (number_of layout (Range v r)) (parcels.Range range.own) k (on.ranges r l)))

  pub logical-none : (v : ℕ) (held : LogicalHeld P R B S L V A X) → OnLogical layout (λ b. k ≢ number_of layout b) v
      → logical_parcels layout (Logical v) held k ≡ None
  unfolding logical_parcels stripe_parcels
  logical-none v held on =
      or_else-none
      (alone (number_of layout (Logical v)) (parcels.Logical held.own) k)
      (in_places (λ i. true) (λ i stripe. stripe_parcels layout (Stripe v i) stripe k) held.stripes.at (stripes_of layout v))
      (alone-none (number_of layout (Logical v)) (parcels.Logical held.own) k on.own)
      (in_places-none (λ i. true) (λ i stripe. stripe_parcels layout (Stripe v i) stripe k) held.stripes.at (stripes_of layout v)
      (λ i l used stripe. alone-none (number_of layout (Stripe v i)) (parcels.Stripe stripe.own) k (on.stripes i l)))

  pub volume-none : (v : ℕ) (held : VolumeHeld P R B S L V A X) → OnVolume layout (λ b. k ≢ number_of layout b) v
      → volume_parcels layout (Volume v) held k ≡ None
  unfolding volume_parcels
  volume-none v held on =
      or_else-none
      (alone (number_of layout (Volume v)) (parcels.Volume held.own) k)
      (or_else (logical_parcels layout (Logical v) held.logical k) (vbn_parcels layout (Vbn v) held.vbn k))
      (alone-none (number_of layout (Volume v)) (parcels.Volume held.own) k on.own)
      (or_else-none (logical_parcels layout (Logical v) held.logical k) (vbn_parcels layout (Vbn v) held.vbn k)
      (logical-none v held.logical on.logical) (vbn-none v held.vbn on.vbn))

  pub aggregate-none : (a : ℕ) (held : AggrHeld P R B S L V A X) → OnAggregate layout (λ b. k ≢ number_of layout b) a
      → aggregate_parcels layout (Aggregate a) held k ≡ None
  unfolding aggregate_parcels
  aggregate-none a held on =
      or_else-none
      (alone (number_of layout (Aggregate a)) (parcels.Aggregate held.own) k)
      (in_places (λ v. aggregate_of layout v == a) (λ v volume. volume_parcels layout (Volume v) volume k) held.volumes.at (length layout.volumes))
      (alone-none (number_of layout (Aggregate a)) (parcels.Aggregate held.own) k on.own)
      (in_places-none (λ v. aggregate_of layout v == a) (λ v volume. volume_parcels layout (Volume v) volume k) held.volumes.at (length layout.volumes)
      (λ v l used volume. volume-none v volume (on.volumes v l (eqb-true (aggregate_of layout v) a used))))

  pub serial-none : (held : SerialHeld P R B S L V A X) → OnSerial layout (λ b. k ≢ number_of layout b) → serial_parcels layout Serial held k ≡ None
  unfolding serial_parcels
  serial-none held on =
      or_else-none
      (alone 1 (parcels.Serial held.own) k)
      (in_places (λ a. true) (λ a aggregate. aggregate_parcels layout (Aggregate a) aggregate k) held.aggregates.at (length layout.spare))
      (alone-none 1 (parcels.Serial held.own) k on.own)
      (in_places-none (λ a. true) (λ a aggregate. aggregate_parcels layout (Aggregate a) aggregate k) held.aggregates.at (length layout.spare)
      (λ a l used aggregate. aggregate-none a aggregate (on.aggregates a l)))
