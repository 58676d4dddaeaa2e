-- What a set has at the number of each of its nodes.
use Rattle.std.proofs.Common.{◌≡◌, ◌≢◌, ℕ, zero, suc, ◌+◌, ◌<◌, ◌≤◌, ◌==◌, Bool, true, List, Option, Some, None, length, refl, sym, ap, ◌∙◌}
use Rattle.std.proofs.Common.{arith, slice_get, ◌⊎◌, inl, inr, ⊎_elim}
use Rattle.std.specs.Prelude.{if◌then◌else◌}
use Rattle.std.proofs.lemmas.Bool.{cases_lt, eq-eqb}
use mathlib.Core.Logic.{dite}
use native.Mathlib.Decide.{ℕ_discrete}
use Rattle.nfs_model.specs.Tree as trees
use Rattle.nfs_model.specs.Tree.{Layout, Affinity, stripes_of, aggregate_of}
use Rattle.affinity.specs.Numbers.{number_of, volume_number}
use Rattle.affinity.specs.lemmas.Places.{volume_number_next}
use Rattle.parcels.specs.declared.family.Parcel.TheVariants.{Range, Vbn, Stripe, Logical, Volume, Aggregate, Serial}
use Rattle.parcels.specs.declared.sets.RangeHeld.{RangeHeld}
use Rattle.parcels.specs.declared.sets.StripeHeld.{StripeHeld}
use Rattle.parcels.specs.declared.sets.VbnHeld.{VbnHeld}
use Rattle.parcels.specs.declared.sets.LogicalHeld.{LogicalHeld}
use Rattle.parcels.specs.declared.sets.VolumeHeld.{VolumeHeld}
use Rattle.parcels.specs.declared.sets.AggrHeld.{AggrHeld}
use Rattle.parcels.specs.declared.sets.SerialHeld.{SerialHeld}
use Rattle.parcels.specs.Slots.{alone, or_else, in_slot, in_used_place, in_places}
use Rattle.parcels.specs.Sets.{range_parcels, vbn_parcels, stripe_parcels, logical_parcels, volume_parcels, aggregate_parcels, serial_parcels}
use Rattle.parcels.specs.lemmas.Below.{OnVolume}
use Rattle.parcels.specs.lemmas.Nothing.{alone-none, slot-none, used-none, in_places-none, vbn-none, logical-none, volume-none, aggregate-none}

-- ---- one parcel, and one of several slots

alone-here : {T : Type 0} (n : ℕ) (x : T) → alone n x n ≡ Some x
unfolding alone
alone-here n x = ap (λ b. if b then Some x else None) (eq-eqb n n refl)

first-some : {T : Type 0} (o others : Option T) (x : T) → o ≡ Some x → or_else o others ≡ Some x
first-some o others x e = ap (λ y. or_else y others) e

or-left : {T : Type 0} (o others : Option T) → others ≡ None → or_else o others ≡ o
or-left None others e = e
or-left (Some x) others e = refl

or-right : {T : Type 0} (o others : Option T) → o ≡ None → or_else o others ≡ others
or-right o others e = ap (λ y. or_else y others) e

module _ {H T : Type 0} (u : ℕ → Bool) (f : ℕ → H → Option T) (slots : List (Option H)) where
  -- where no other slot has anything, there is what one slot has
  in-slots-at : (n i : ℕ) → i < n → u i ≡ true → ((j : ℕ) → j < n → j ≢ i → u j ≡ true → (held : H) → f j held ≡ None)
      → in_places u f slots n ≡ in_slot (f i) (slice_get slots i)
  unfolding in_places
  in-slots-at zero i less used others = absurd (omega arith)
  in-slots-at (suc n) i less used others = dite (ℕ_discrete i n)
      (λ e. or-right (in_places u f slots n) (in_used_place u f slots n)
      (in_places-none u f slots n (λ j l. others j (omega arith) (λ same. omega arith)))
      ∙ ap (λ (j : ℕ). in_used_place u f slots j) (sym e)
      ∙ ap (λ (b : Bool). if b then in_slot (f i) (slice_get slots i) else None) used)
      (λ ne. or-left (in_places u f slots n) (in_used_place u f slots n)
      (used-none (u n) (in_slot (f n) (slice_get slots n))
      (λ e. slot-none (f n) (slice_get slots n) (others n (omega arith) (λ same. ne (sym same)) e)))
      ∙ in-slots-at n i (omega arith) used (λ j l. others j (omega arith)))

slot-same : {H T : Type 0} (f g : H → Option T) (o : Option (Option H)) → ((held : H) → f held ≡ g held) → in_slot f o ≡ in_slot g o
slot-same f g None e = refl
slot-same f g (Some None) e = refl
slot-same f g (Some (Some held)) e = e held

-- ---- the node's own parcel

module _ {P R B S L V A X : Type 0} (layout : Layout) (a : Affinity) where
  pub range-own : (held : RangeHeld P R B S L V A X) → range_parcels layout a held (number_of layout a) ≡ Some (Range held.own)
  unfolding range_parcels
  range-own held = alone-here (number_of layout a) (Range held.own)

  pub stripe-own : (held : StripeHeld P R B S L V A X) → stripe_parcels layout a held (number_of layout a) ≡ Some (Stripe held.own)
  unfolding stripe_parcels
  stripe-own held = alone-here (number_of layout a) (Stripe held.own)

  pub vbn-own : (held : VbnHeld P R B S L V A X) → vbn_parcels layout a held (number_of layout a) ≡ Some (Vbn held.own)
  unfolding vbn_parcels
  vbn-own held = first-some (alone (number_of layout a) (Vbn held.own) (number_of layout a)) _ (Vbn held.own) (alone-here (number_of layout a) (Vbn held.own))

  pub logical-own : (held : LogicalHeld P R B S L V A X) → logical_parcels layout a held (number_of layout a) ≡ Some (Logical held.own)
  unfolding logical_parcels
  logical-own held = first-some (alone (number_of layout a) (Logical held.own) (number_of layout a)) _ (Logical held.own)
      (alone-here (number_of layout a) (Logical held.own))

  pub volume-own : (held : VolumeHeld P R B S L V A X) → volume_parcels layout a held (number_of layout a) ≡ Some (Volume held.own)
  unfolding volume_parcels
  volume-own held = first-some (alone (number_of layout a) (Volume held.own) (number_of layout a)) _ (Volume held.own)
      (alone-here (number_of layout a) (Volume held.own))

  pub aggregate-own : (held : AggrHeld P R B S L V A X) → aggregate_parcels layout a held (number_of layout a) ≡ Some (Aggregate held.own)
  unfolding aggregate_parcels
  aggregate-own held = first-some (alone (number_of layout a) (Aggregate held.own) (number_of layout a)) _ (Aggregate held.own)
      (alone-here (number_of layout a) (Aggregate held.own))

  pub serial-own : (held : SerialHeld P R B S L V A X) → serial_parcels layout a held (number_of layout a) ≡ Some (Serial held.own)
  unfolding serial_parcels
  serial-own held = first-some (alone (number_of layout a) (Serial held.own) (number_of layout a)) _ (Serial held.own)
      (alone-here (number_of layout a) (Serial held.own))

-- ---- the parcels of the sets below

-- a number of a volume's nodes
abbrev pub IsOfVolume : Layout → ℕ → ℕ → Type 0
IsOfVolume layout v k = (volume_number layout v ≤ k) × (k < volume_number layout v + (19 + stripes_of layout v))

-- it is no other volume's
other-volume : (layout : Layout) (v w k : ℕ) → v < length layout.volumes → w < length layout.volumes → w ≢ v → IsOfVolume layout v k
    → (k < volume_number layout w) ⊎ (volume_number layout w + (19 + stripes_of layout w) ≤ k)
other-volume layout v w k there here ne of =
    let low = of.0 in
    let high = of.1 in
    ⊎_elim
    (λ (less : w < v). let next = volume_number_next layout w v here less in inr (omega arith))
    (λ (more : v ≤ w). let next = volume_number_next layout v w there (omega (arith, ne)) in inl (omega arith))
    (cases_lt w v)

module _ (layout : Layout) (v k : ℕ) (of : (k < volume_number layout v) ⊎ (volume_number layout v + (19 + stripes_of layout v) ≤ k)) where
  outside : (slot : ℕ) → slot < 19 + stripes_of layout v → k ≢ volume_number layout v + slot
  outside slot less e = ⊎_elim
      (λ (low : k < volume_number layout v). omega arith)
      (λ (high : volume_number layout v + (19 + stripes_of layout v) ≤ k). omega arith)
      of

  on-volume : OnVolume layout (λ b. k ≢ number_of layout b) v
  on-volume = record {
    own = λ e. outside 0 (omega arith) (omega (arith, e));
    logical = record {
      own = λ e. outside 1 (omega arith) e;
      stripes = λ i l e. outside (2 + i) (omega arith) (omega (arith, e));
    };
    vbn = record {
      own = λ e. outside (2 + stripes_of layout v) (omega arith) (omega (arith, e));
      ranges = λ r l e. outside (3 + stripes_of layout v + r) (omega arith) (omega (arith, e));
    };
  }

module _ {P R B S L V A X : Type 0} (layout : Layout) where
  -- a stripe's parcel in the set of its volume's names
  pub logical-stripe : (v i : ℕ) (held : LogicalHeld P R B S L V A X) → i < stripes_of layout v
      → logical_parcels layout (trees.Logical v) held (number_of layout (trees.Stripe v i)) ≡ in_slot (λ stripe. Some (Stripe stripe.own))
      (slice_get held.stripes.at i)
  unfolding logical_parcels stripe_parcels
  logical-stripe v i held less =
      let k : ℕ = number_of layout (trees.Stripe v i) in
      or-right (alone (number_of layout (trees.Logical v)) (Logical held.own) k) _
      (alone-none (number_of layout (trees.Logical v)) (Logical held.own) k (λ e. omega (arith, e)))
      ∙ in-slots-at (λ j. true) (λ j (stripe : StripeHeld P R B S L V A X). stripe_parcels layout (trees.Stripe v j) stripe k) held.stripes.at
      (stripes_of layout v) i less refl
      (λ j l ne used stripe. alone-none (number_of layout (trees.Stripe v j)) (Stripe stripe.own) k (λ e. ne (omega (arith, e))))
      ∙ slot-same _ _ (slice_get held.stripes.at i) (λ stripe. alone-here (number_of layout (trees.Stripe v i)) (Stripe stripe.own))

  -- a range's parcel in the set of its volume's block numbers
  pub vbn-range : (v r : ℕ) (held : VbnHeld P R B S L V A X) → r < 16
      → vbn_parcels layout (trees.Vbn v) held (number_of layout (trees.Range v r)) ≡ in_slot (λ range. Some (Range range.own)) (slice_get held.ranges.at r)
  unfolding vbn_parcels range_parcels
  vbn-range v r held less =
      let k : ℕ = number_of layout (trees.Range v r) in
      or-right (alone (number_of layout (trees.Vbn v)) (Vbn held.own) k) _
      (alone-none (number_of layout (trees.Vbn v)) (Vbn held.own) k (λ e. omega (arith, e)))
      ∙ in-slots-at (λ j. true) (λ j (range : RangeHeld P R B S L V A X). range_parcels layout (trees.Range v j) range k) held.ranges.at 16 r less refl
      (λ j l ne used range. alone-none (number_of layout (trees.Range v j)) (Range range.own) k (λ e. ne (omega (arith, e))))
      ∙ slot-same _ _ (slice_get held.ranges.at r) (λ range. alone-here (number_of layout (trees.Range v r)) (Range range.own))

  -- a volume has at its names' numbers, up to the last stripe's, what their set has
  pub volume-logical : (v k : ℕ) (held : VolumeHeld P R B S L V A X) → volume_number layout v < k → k < volume_number layout v + 2 + stripes_of layout v
      → volume_parcels layout (trees.Volume v) held k ≡ logical_parcels layout (trees.Logical v) held.logical k
  unfolding volume_parcels
  volume-logical v k held low high =
      or-right (alone (number_of layout (trees.Volume v)) (Volume held.own) k) _
      (alone-none (number_of layout (trees.Volume v)) (Volume held.own) k (λ e. omega (arith, e)))
      ∙ or-left (logical_parcels layout (trees.Logical v) held.logical k) (vbn_parcels layout (trees.Vbn v) held.vbn k)
      (vbn-none layout k v held.vbn (record { own = λ e. omega (arith, e); ranges = λ r l e. omega (arith, e) }))

  -- and at its block numbers' what theirs has
  pub volume-vbn : (v k : ℕ) (held : VolumeHeld P R B S L V A X) → volume_number layout v + 2 + stripes_of layout v ≤ k
      → volume_parcels layout (trees.Volume v) held k ≡ vbn_parcels layout (trees.Vbn v) held.vbn k
  unfolding volume_parcels
  volume-vbn v k held low =
      or-right (alone (number_of layout (trees.Volume v)) (Volume held.own) k) _
      (alone-none (number_of layout (trees.Volume v)) (Volume held.own) k (λ e. omega (arith, e)))
      ∙ or-right (logical_parcels layout (trees.Logical v) held.logical k) (vbn_parcels layout (trees.Vbn v) held.vbn k)
      (logical-none layout k v held.logical (record { own = λ e. omega (arith, e); stripes = λ i l e. omega (arith, e) }))

  -- an aggregate has at a volume's numbers what the set in its place has
  pub aggregate-volume : (v k : ℕ) (held : AggrHeld P R B S L V A X) → v < length layout.volumes → aggregate_of layout v < length layout.spare
      → IsOfVolume layout v k
      → aggregate_parcels layout (trees.Aggregate (aggregate_of layout v)) held k ≡ in_slot
      (λ volume. volume_parcels layout (trees.Volume v) volume k) (slice_get held.volumes.at v)
  unfolding aggregate_parcels
  aggregate-volume v k held there known of =
      let a : ℕ = aggregate_of layout v in
      let low = of.0 in
      or-right (alone (number_of layout (trees.Aggregate a)) (Aggregate held.own) k) _
      (alone-none (number_of layout (trees.Aggregate a)) (Aggregate held.own) k (λ e. omega (arith, e)))
      ∙ in-slots-at (λ w. aggregate_of layout w == a) (λ w (volume : VolumeHeld P R B S L V A X). volume_parcels layout (trees.Volume w) volume k)
      held.volumes.at (length layout.volumes) v there
      (eq-eqb a a refl)
      (λ w l ne used volume. volume-none layout k w volume (on-volume layout w k (other-volume layout v w k there l ne of)))

  -- the root has at a volume's numbers what the set of its aggregate has
  pub serial-volume : (v k : ℕ) (held : SerialHeld P R B S L V A X) → v < length layout.volumes → aggregate_of layout v < length layout.spare
      → IsOfVolume layout v k
      → serial_parcels layout trees.Serial held k ≡ in_slot
      (λ aggregate. aggregate_parcels layout (trees.Aggregate (aggregate_of layout v)) aggregate k) (slice_get held.aggregates.at (aggregate_of layout v))
  unfolding serial_parcels
  serial-volume v k held there known of =
      let low = of.0 in
      or-right (alone 1 (Serial held.own) k) _ (alone-none 1 (Serial held.own) k (λ e. omega (arith, e)))
      ∙ in-slots-at (λ b. true) (λ b (aggregate : AggrHeld P R B S L V A X). aggregate_parcels layout (trees.Aggregate b) aggregate k)
      held.aggregates.at (length layout.spare)
      (aggregate_of layout v) known refl
      (λ b l ne used aggregate. aggregate-none layout k b aggregate (record {
        own = λ e. omega (arith, e);
        volumes = λ w m on. on-volume layout w k (other-volume layout v w k there m (λ same. ne (sym on ∙ ap (aggregate_of layout) same)) of);
      }))

  -- and at an aggregate's number that one's own parcel
  pub serial-aggregate : (a : ℕ) (held : SerialHeld P R B S L V A X) → a < length layout.spare
      → serial_parcels layout trees.Serial held (number_of layout (trees.Aggregate a)) ≡ in_slot (λ aggregate. Some (Aggregate aggregate.own))
      (slice_get held.aggregates.at a)
  unfolding serial_parcels
  serial-aggregate a held less =
      let k : ℕ = number_of layout (trees.Aggregate a) in
      or-right (alone 1 (Serial held.own) k) _ (alone-none 1 (Serial held.own) k (λ e. omega (arith, e)))
      ∙ in-slots-at (λ b. true) (λ b (aggregate : AggrHeld P R B S L V A X). aggregate_parcels layout (trees.Aggregate b) aggregate k)
      held.aggregates.at (length layout.spare) a less refl
      (λ b l ne used aggregate. aggregate-none layout k b aggregate (record {
        own = λ e. ne (omega (arith, e));
        volumes = λ w m on. on-volume layout w k (inl (omega arith));
      }))
      ∙ slot-same _ _ (slice_get held.aggregates.at a) (λ aggregate. aggregate-own layout (trees.Aggregate a) aggregate)
