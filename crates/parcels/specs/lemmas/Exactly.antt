-- A changed set of one form with that before has exactly the parcels of its node.
use Rattle.std.proofs.Common.{◌≡◌, ℕ, zero, suc, ◌==◌, Bool, true, false, List, Option, Some, None, length, refl, sym, ap, ◌∙◌, slice_get}
use Rattle.std.specs.Option.{option_map}
use Rattle.std.specs.Prelude.{if◌then◌else◌}
use Rattle.nfs_model.specs.Tree as trees
use Rattle.nfs_model.specs.Tree.{Layout, Affinity, stripes_of, aggregate_of}
use Rattle.affinity.specs.declared.affinity.Kind.{Kind}
use Rattle.affinity.specs.Numbers.{number_of}
use Rattle.parcels.specs.declared.family.Parcel.TheVariants.{Range, Vbn, Stripe, Logical, Volume, Aggregate, Serial}
use Rattle.parcels.specs.declared.sets.RangeHeld.{RangeHeld}
use Rattle.parcels.specs.declared.sets.VbnHeld.{VbnHeld}
use Rattle.parcels.specs.declared.sets.StripeHeld.{StripeHeld}
use Rattle.parcels.specs.declared.sets.LogicalHeld.{LogicalHeld}
use Rattle.parcels.specs.declared.sets.VolumeHeld.{VolumeHeld}
use Rattle.parcels.specs.declared.sets.AggrHeld.{AggrHeld}
use Rattle.parcels.specs.declared.sets.SerialHeld.{SerialHeld}
use Rattle.parcels.specs.Exact.{HasExactly, kind_in}
use Rattle.parcels.specs.Filled.{is_filled, AreFilledAlike, InEachPlace, range_alike, stripe_alike, vbn_alike, logical_alike}
use Rattle.parcels.specs.Filled.{volume_alike, aggregate_alike, serial_alike}
use Rattle.parcels.specs.Slots.{alone, or_else, in_slot, in_used_place, in_places}
use Rattle.parcels.specs.Sets.{volume_around, aggregate_number, range_parcels, vbn_parcels, stripe_parcels, logical_parcels, volume_parcels}
use Rattle.parcels.specs.Sets.{aggregate_parcels, serial_parcels}

-- ---- kinds by number

module _ {T K : Type 0} (kind : T → K) where
  alone-kind : (n k : ℕ) (x y : T) → kind x ≡ kind y → option_map kind (alone n x k) ≡ option_map kind (alone n y k)
  unfolding alone
  alone-kind n k x y e = by (k == n)
    where
      by : (b : Bool) → option_map kind (if b then Some x else None) ≡ option_map kind (if b then Some y else None)
      by true = ap Some e
      by false = refl

  or-kind : (a b : Option T) → option_map kind (or_else a b) ≡ or_else (option_map kind a) (option_map kind b)
  or-kind None b = refl
  or-kind (Some x) b = refl

  or-same : (a a' b b' : Option T) → option_map kind a ≡ option_map kind a' → option_map kind b ≡ option_map kind b'
      → option_map kind (or_else a b) ≡ option_map kind (or_else a' b')
  or-same a a' b b' e d = or-kind a b ∙ (λ j. or_else (e j) (d j)) ∙ sym (or-kind a' b')

  slot-same : {H : Type 0} (f : H → Option T) (o p : Option (Option H)) → is_filled o ≡ is_filled p
      → ((x y : H) → o ≡ Some (Some x) → p ≡ Some (Some y) → option_map kind (f x) ≡ option_map kind (f y))
      → option_map kind (in_slot f o) ≡ option_map kind (in_slot f p)
  slot-same f None None e same = refl
  slot-same f None (Some None) e same = refl
  slot-same f None (Some (Some y)) e same = absurd cc
  slot-same f (Some None) None e same = refl
  slot-same f (Some None) (Some None) e same = refl
  slot-same f (Some None) (Some (Some y)) e same = absurd cc
  slot-same f (Some (Some x)) None e same = absurd cc
  slot-same f (Some (Some x)) (Some None) e same = absurd cc
  slot-same f (Some (Some x)) (Some (Some y)) e same = same x y refl refl

  used-same : (b : Bool) (o p : Option T) → option_map kind o ≡ option_map kind p
      → option_map kind (if b then o else None) ≡ option_map kind (if b then p else None)
  used-same true o p e = e
  used-same false o p e = refl

  slots-same : {H : Type 0} (u : ℕ → Bool) (f : ℕ → H → Option T) (ps qs : List (Option H)) (n : ℕ) → AreFilledAlike ps qs
      → InEachPlace (λ x y. (i : ℕ) → option_map kind (f i x) ≡ option_map kind (f i y)) ps qs
      → option_map kind (in_places u f ps n) ≡ option_map kind (in_places u f qs n)
  unfolding in_places
  slots-same u f ps qs zero e same = refl
  slots-same u f ps qs (suc n) e same =
      or-same (in_places u f ps n) (in_places u f qs n) (in_used_place u f ps n) (in_used_place u f qs n)
      (slots-same u f ps qs n e same)
      (used-same (u n) (in_slot (f n) (slice_get ps n)) (in_slot (f n) (slice_get qs n))
      (slot-same (f n) (slice_get ps n) (slice_get qs n) (e n) (λ x y here there. same n x y here there n)))

  found : (o : Option T) (k : K) → option_map kind o ≡ Some k → (x : T) × (o ≡ Some x) × (kind x ≡ k)
  found None k e = absurd cc
  found (Some x) k e = (x, refl, cc)

  missing : (o : Option T) → option_map kind o ≡ None → o ≡ None
  missing None e = refl
  missing (Some x) e = absurd cc

-- where the kinds by number are the same, so is what is exactly there
exact-same : {T : Type 0} (kind : T → Kind) (layout : Layout) (a : Affinity) (f g : ℕ → Option T)
    → ((k : ℕ) → option_map kind (f k) ≡ option_map kind (g k)) → HasExactly kind layout a f → HasExactly kind layout a g
exact-same kind layout a f g same e = record {
  each = λ node under.
      let here = e.each node under in
      let there = found kind (g (number_of layout node)) (kind here.0) (sym (same (number_of layout node)) ∙ ap (option_map kind) here.1) in
      (there.0, there.1, there.2 ∙ here.2);
  no_other = λ k none_under. missing kind (g k) (sym (same k) ∙ ap (option_map kind) (e.no_other k none_under));
}

-- ---- sets of one form have the same kinds by number

module _ {P R B S L V A X : Type 0} (layout : Layout) where
  range-same : (a : Affinity) (old new : RangeHeld P R B S L V A X) (k : ℕ)
      → option_map kind_in (range_parcels layout a old k) ≡ option_map kind_in (range_parcels layout a new k)
  unfolding range_parcels
  range-same a old new k = alone-kind kind_in (number_of layout a) k (Range old.own) (Range new.own) refl

  stripe-same : (a : Affinity) (old new : StripeHeld P R B S L V A X) (k : ℕ)
      → option_map kind_in (stripe_parcels layout a old k) ≡ option_map kind_in (stripe_parcels layout a new k)
  unfolding stripe_parcels
  stripe-same a old new k = alone-kind kind_in (number_of layout a) k (Stripe old.own) (Stripe new.own) refl

  vbn-same : (a : Affinity) (old new : VbnHeld P R B S L V A X) (k : ℕ) → vbn_alike old new
      → option_map kind_in (vbn_parcels layout a old k) ≡ option_map kind_in (vbn_parcels layout a new k)
  unfolding vbn_parcels
  vbn-same a old new k alike =
      or-same kind_in _ _ _ _
      (alone-kind kind_in (number_of layout a) k (Vbn old.own) (Vbn new.own) refl)
      (slots-same kind_in (λ r. true) (λ r (range : RangeHeld P R B S L V A X). range_parcels layout (trees.Range (volume_around a) r) range k)
      old.ranges.at new.ranges.at 16
      alike (λ i x y here there r. range-same (trees.Range (volume_around a) r) x y k))

  logical-same : (a : Affinity) (old new : LogicalHeld P R B S L V A X) (k : ℕ) → logical_alike old new
      → option_map kind_in (logical_parcels layout a old k) ≡ option_map kind_in (logical_parcels layout a new k)
  unfolding logical_parcels
  logical-same a old new k alike =
      or-same kind_in _ _ _ _
      (alone-kind kind_in (number_of layout a) k (Logical old.own) (Logical new.own) refl)
      (slots-same kind_in (λ i. true) (λ i (stripe : StripeHeld P R B S L V A X). stripe_parcels layout (trees.Stripe (volume_around a) i) stripe k)
      old.stripes.at new.stripes.at (stripes_of layout (volume_around a))
      alike (λ i x y here there j. stripe-same (trees.Stripe (volume_around a) j) x y k))

  volume-same : (a : Affinity) (old new : VolumeHeld P R B S L V A X) (k : ℕ) → volume_alike old new
      → option_map kind_in (volume_parcels layout a old k) ≡ option_map kind_in (volume_parcels layout a new k)
  unfolding volume_parcels
  volume-same a old new k alike =
      or-same kind_in _ _ _ _
      (alone-kind kind_in (number_of layout a) k (Volume old.own) (Volume new.own) refl)
      (or-same kind_in _ _ _ _
      (logical-same (trees.Logical (volume_around a)) old.logical new.logical k alike.0)
      (vbn-same (trees.Vbn (volume_around a)) old.vbn new.vbn k alike.1))

  aggregate-same : (a : Affinity) (old new : AggrHeld P R B S L V A X) (k : ℕ) → aggregate_alike old new
      → option_map kind_in (aggregate_parcels layout a old k) ≡ option_map kind_in (aggregate_parcels layout a new k)
  unfolding aggregate_parcels
  aggregate-same a old new k alike =
      or-same kind_in _ _ _ _
      (alone-kind kind_in (number_of layout a) k (Aggregate old.own) (Aggregate new.own) refl)
      (slots-same kind_in (λ v. aggregate_of layout v == aggregate_number a)
      (λ v (volume : VolumeHeld P R B S L V A X). volume_parcels layout (trees.Volume v) volume k) old.volumes.at new.volumes.at (length layout.volumes)
      alike.0 (λ i x y here there v. volume-same (trees.Volume v) x y k (alike.1 i x y here there)))

  serial-same : (a : Affinity) (old new : SerialHeld P R B S L V A X) (k : ℕ) → serial_alike old new
      → option_map kind_in (serial_parcels layout a old k) ≡ option_map kind_in (serial_parcels layout a new k)
  unfolding serial_parcels
  serial-same a old new k alike =
      or-same kind_in _ _ _ _
      (alone-kind kind_in (number_of layout a) k (Serial old.own) (Serial new.own) refl)
      (slots-same kind_in (λ i. true) (λ i (aggregate : AggrHeld P R B S L V A X). aggregate_parcels layout (trees.Aggregate i) aggregate k)
      old.aggregates.at new.aggregates.at (length layout.spare)
      alike.0 (λ i x y here there j. aggregate-same (trees.Aggregate j) x y k (alike.1 i x y here there)))

  -- ---- and so each stays exact

  pub range-exact : (a : Affinity) (old new : RangeHeld P R B S L V A X) → range_alike old new
      → HasExactly kind_in layout a (range_parcels layout a old) → HasExactly kind_in layout a (range_parcels layout a new)
  range-exact a old new alike = exact-same kind_in layout a (range_parcels layout a old) (range_parcels layout a new) (range-same a old new)

  pub stripe-exact : (a : Affinity) (old new : StripeHeld P R B S L V A X) → stripe_alike old new
      → HasExactly kind_in layout a (stripe_parcels layout a old) → HasExactly kind_in layout a (stripe_parcels layout a new)
  stripe-exact a old new alike = exact-same kind_in layout a (stripe_parcels layout a old) (stripe_parcels layout a new) (stripe-same a old new)

  pub vbn-exact : (a : Affinity) (old new : VbnHeld P R B S L V A X) → vbn_alike old new → HasExactly kind_in layout a (vbn_parcels layout a old)
      → HasExactly kind_in layout a (vbn_parcels layout a new)
  vbn-exact a old new alike = exact-same kind_in layout a (vbn_parcels layout a old) (vbn_parcels layout a new) (λ k. vbn-same a old new k alike)

  pub logical-exact : (a : Affinity) (old new : LogicalHeld P R B S L V A X) → logical_alike old new
      → HasExactly kind_in layout a (logical_parcels layout a old) → HasExactly kind_in layout a (logical_parcels layout a new)
  logical-exact a old new alike = exact-same kind_in layout a (logical_parcels layout a old) (logical_parcels layout a new)
      (λ k. logical-same a old new k alike)

  pub volume-exact : (a : Affinity) (old new : VolumeHeld P R B S L V A X) → volume_alike old new
      → HasExactly kind_in layout a (volume_parcels layout a old) → HasExactly kind_in layout a (volume_parcels layout a new)
  volume-exact a old new alike = exact-same kind_in layout a (volume_parcels layout a old) (volume_parcels layout a new) (λ k. volume-same a old new k alike)

  pub aggregate-exact : (a : Affinity) (old new : AggrHeld P R B S L V A X) → aggregate_alike old new
      → HasExactly kind_in layout a (aggregate_parcels layout a old) → HasExactly kind_in layout a (aggregate_parcels layout a new)
  aggregate-exact a old new alike = exact-same kind_in layout a (aggregate_parcels layout a old) (aggregate_parcels layout a new)
      (λ k. aggregate-same a old new k alike)

  pub serial-exact : (a : Affinity) (old new : SerialHeld P R B S L V A X) → serial_alike old new
      → HasExactly kind_in layout a (serial_parcels layout a old) → HasExactly kind_in layout a (serial_parcels layout a new)
  serial-exact a old new alike = exact-same kind_in layout a (serial_parcels layout a old) (serial_parcels layout a new) (λ k. serial-same a old new k alike)
