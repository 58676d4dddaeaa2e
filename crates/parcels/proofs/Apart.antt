-- Of two parts of a set, or of two slots, one has nothing at a number.
use Rattle.std.proofs.Common.{◌≡◌, ℕ, zero, suc, ◌+◌, ◌<◌, ◌≤◌, true, ◌==◌, None, length, refl, sym, subst, arith, ◌⊎◌, inl, inr, ⊎_elim}
use Rattle.std.proofs.lemmas.Bool.{cases_eq, cases_order}
use Rattle.nfs_model.specs.Tree.{Layout, Aggregate, Volume, Logical, Stripe, Vbn, Range, stripes_of, aggregate_of}
use Rattle.affinity.specs.Numbers.{number_of, volume_number}
use Rattle.parcels.specs.Slots.{or_else, in_places}
use Rattle.parcels.specs.Sets.{range_parcels, vbn_parcels, stripe_parcels, logical_parcels, volume_parcels, aggregate_parcels}
use Rattle.parcels.specs.declared.family.Parcel.TheVariants as parcels
use Rattle.parcels.specs.declared.sets.RangeHeld.{RangeHeld}
use Rattle.parcels.specs.declared.sets.VbnHeld.{VbnHeld}
use Rattle.parcels.specs.declared.sets.StripeHeld.{StripeHeld}
use Rattle.parcels.specs.declared.sets.LogicalHeld.{LogicalHeld}
use Rattle.parcels.specs.declared.sets.VolumeHeld.{VolumeHeld}
use Rattle.parcels.specs.declared.sets.AggrHeld.{AggrHeld}
use Rattle.parcels.specs.declared.sets.SerialHeld.{SerialHeld}
use Rattle.parcels.proofs.PlaceLemmas.{alone-none, or_else-none, in_places-none}
use Rattle.parcels.proofs.Parts.{logical-none, vbn-none, volume-none, aggregate-none, logical-outside, vbn-outside, volume-outside, volumes-apart}
use Rattle.parcels.proofs.Steps.{aggregate-outside, volume-outside-aggregate}

-- a number is between two others, or outside
between : (low high k : ℕ) → ((low ≤ k) × (k ≤ high)) ⊎ ((k < low) ⊎ (high < k))
between low high k =
    ⊎_elim
    (λ (e : k ≡ low). side (omega arith))
    (λ (h : (k < low) ⊎ (low < k)). ⊎_elim (λ (below : k < low). inr (inl below)) (λ (above : low < k). side (omega arith)) h)
    (cases_order k low)
  where
    side : low ≤ k → ((low ≤ k) × (k ≤ high)) ⊎ ((k < low) ⊎ (high < k))
    side here =
        ⊎_elim
        (λ (e : k ≡ high). inl (here, omega arith))
        (λ (h : (k < high) ⊎ (high < k)). ⊎_elim (λ (below : k < high). inl (here, omega arith)) (λ (above : high < k). inr (inr above)) h)
        (cases_order k high)

-- a number is of some volume, or of none
in_volumes : (layout : Layout) (k n : ℕ)
    → ((w : ℕ) × (w < n) × (volume_number layout w ≤ k) × (k ≤ volume_number layout w + 18 + stripes_of layout w))
    ⊎ ((w : ℕ) → w < n → (k < volume_number layout w) ⊎ (volume_number layout w + 18 + stripes_of layout w < k))
in_volumes layout k zero = inr (λ w l. absurd (let no : ⊥ = omega arith in no))
in_volumes layout k (suc n) =
    ⊎_elim
    (λ (found : (w : ℕ) × (w < n) × (volume_number layout w ≤ k) × (k ≤ volume_number layout w + 18 + stripes_of layout w)). inl
    (found.0, (let below = found.1 in omega arith), found.2, found.3))
    (λ (none : (w : ℕ) → w < n → (k < volume_number layout w) ⊎ (volume_number layout w + 18 + stripes_of layout w < k)).
    ⊎_elim
    (λ (here : (volume_number layout n ≤ k) × (k ≤ volume_number layout n + 18 + stripes_of layout n)). inl (n, omega arith, here.0, here.1))
    (λ (out : (k < volume_number layout n) ⊎ (volume_number layout n + 18 + stripes_of layout n < k)).
    inr (λ w l. ⊎_elim
    (λ (e : w ≡ n). subst (λ m. (k < volume_number layout m) ⊎ (volume_number layout m + 18 + stripes_of layout m < k)) (sym e) out)
    (λ (d : w ≡ n → ⊥). none w (omega arith))
    (cases_eq w n)))
    (between (volume_number layout n) (volume_number layout n + 18 + stripes_of layout n) k))
    (in_volumes layout k n)

module _ {P R B S L V A X : Type 0} (layout : Layout) where
  -- ---- slots

  pub ranges-apart : (v r k : ℕ)
      → ((j : ℕ) → j < r → (held : RangeHeld P R B S L V A X) → range_parcels layout (Range v j) held k ≡ None) ⊎
      ((held : RangeHeld P R B S L V A X) → range_parcels layout (Range v r) held k ≡ None)
  unfolding range_parcels
  ranges-apart v r k =
      ⊎_elim
      (λ (e : k ≡ number_of layout (Range v r)). inl (λ j l held. alone-none (number_of layout (Range v j)) (parcels.Range held.own) k (λ same. omega arith)))
      (λ (d : k ≡ number_of layout (Range v r) → ⊥). inr (λ held. alone-none (number_of layout (Range v r)) (parcels.Range held.own) k d))
      (cases_eq k (number_of layout (Range v r)))

  pub stripes-apart : (v i k : ℕ)
      → ((j : ℕ) → j < i → (held : StripeHeld P R B S L V A X) → stripe_parcels layout (Stripe v j) held k ≡ None) ⊎
      ((held : StripeHeld P R B S L V A X) → stripe_parcels layout (Stripe v i) held k ≡ None)
  unfolding stripe_parcels
  stripes-apart v i k =
      ⊎_elim
      (λ (e : k ≡ number_of layout (Stripe v i)). inl
      (λ j l held. alone-none (number_of layout (Stripe v j)) (parcels.Stripe held.own) k (λ same. omega arith)))
      (λ (d : k ≡ number_of layout (Stripe v i) → ⊥). inr (λ held. alone-none (number_of layout (Stripe v i)) (parcels.Stripe held.own) k d))
      (cases_eq k (number_of layout (Stripe v i)))

  pub sets_of_volumes-apart : (v k : ℕ) → v < length layout.volumes
      → ((w : ℕ) → w < v → (held : VolumeHeld P R B S L V A X) → volume_parcels layout (Volume w) held k ≡ None) ⊎
      ((held : VolumeHeld P R B S L V A X) → volume_parcels layout (Volume v) held k ≡ None)
  sets_of_volumes-apart v k there =
      ⊎_elim
      (λ (here : (volume_number layout v ≤ k) × (k ≤ volume_number layout v + 18 + stripes_of layout v)).
      inl (λ w l held. volume-none layout k w held
      (volume-outside layout w k (volumes-apart layout w v k (omega arith) there (λ e. omega arith) here.0 here.1))))
      (λ (out : (k < volume_number layout v) ⊎ (volume_number layout v + 18 + stripes_of layout v < k)). inr
      (λ held. volume-none layout k v held (volume-outside layout v k out)))
      (between (volume_number layout v) (volume_number layout v + 18 + stripes_of layout v) k)

  pub sets_of_aggregates-apart : (a k : ℕ) → a < length layout.spare
      → ((c : ℕ) → c < a → (held : AggrHeld P R B S L V A X) → aggregate_parcels layout (Aggregate c) held k ≡ None) ⊎
      ((held : AggrHeld P R B S L V A X) → aggregate_parcels layout (Aggregate a) held k ≡ None)
  sets_of_aggregates-apart a k there =
      ⊎_elim
      (λ (e : k ≡ 2 + a). inl (λ c l held. aggregate-none layout k c held (aggregate-outside layout k c a there (λ same. omega arith) e)))
      (λ (d : k ≡ 2 + a → ⊥).
      ⊎_elim
      (λ (found : (w : ℕ) × (w < length layout.volumes) × (volume_number layout w ≤ k) × (k ≤ volume_number layout w + 18 + stripes_of layout w)).
      ⊎_elim
      (λ (e : aggregate_of layout found.0 ≡ a).
      inl (λ c l held. aggregate-none layout k c held
      (volume-outside-aggregate layout k c a found.0 (omega arith) found.1 e (λ same. omega arith) found.2 found.3)))
      (λ (n : aggregate_of layout found.0 ≡ a → ⊥).
      inr (λ held. aggregate-none layout k a held
      (volume-outside-aggregate layout k a (aggregate_of layout found.0) found.0 there found.1 refl n found.2 found.3)))
      (cases_eq (aggregate_of layout found.0) a))
      (λ (none : (w : ℕ) → w < length layout.volumes → (k < volume_number layout w) ⊎ (volume_number layout w + 18 + stripes_of layout w < k)).
      inr (λ held. aggregate-none layout k a held record { own = d; volumes = λ v l on. volume-outside layout v k (none v l) }))
      (in_volumes layout k (length layout.volumes)))
      (cases_eq k (2 + a))

  -- ---- nothing below a node is at its own number

  pub ranges-elsewhere : (v : ℕ) (held : VbnHeld P R B S L V A X)
      → in_places (λ r. true) (λ r range. range_parcels layout (Range v r) range (number_of layout (Vbn v))) held.ranges.at 16 ≡ None
  unfolding range_parcels
  ranges-elsewhere v held =
      in_places-none (λ r. true) (λ r range. range_parcels layout (Range v r) range (number_of layout (Vbn v))) held.ranges.at 16
      (λ r l used range. alone-none (number_of layout (Range v r)) (parcels.Range range.own) (number_of layout (Vbn v)) (λ e. omega arith))

  pub stripes-elsewhere : (v : ℕ) (held : LogicalHeld P R B S L V A X)
      → in_places (λ i. true) (λ i stripe. stripe_parcels layout (Stripe v i) stripe (number_of layout (Logical v))) held.stripes.at
      (stripes_of layout v) ≡ None
  unfolding stripe_parcels
  stripes-elsewhere v held =
      in_places-none (λ i. true) (λ i stripe. stripe_parcels layout (Stripe v i) stripe (number_of layout (Logical v))) held.stripes.at (stripes_of layout v)
      (λ i l used stripe. alone-none (number_of layout (Stripe v i)) (parcels.Stripe stripe.own) (number_of layout (Logical v)) (λ e. omega arith))

  pub halves-elsewhere : (v : ℕ) (held : VolumeHeld P R B S L V A X)
      → or_else (logical_parcels layout (Logical v) held.logical (number_of layout (Volume v)))
      (vbn_parcels layout (Vbn v) held.vbn (number_of layout (Volume v))) ≡ None
  halves-elsewhere v held =
      or_else-none (logical_parcels layout (Logical v) held.logical (number_of layout (Volume v)))
      (vbn_parcels layout (Vbn v) held.vbn (number_of layout (Volume v)))
      (logical-none layout (number_of layout (Volume v)) v held.logical (logical-outside layout v (number_of layout (Volume v)) (inl (omega arith))))
      (vbn-none layout (number_of layout (Volume v)) v held.vbn (vbn-outside layout v (number_of layout (Volume v)) (inl (omega arith))))

  pub halves-apart : (v : ℕ) (held : VolumeHeld P R B S L V A X) (k : ℕ)
      → (logical_parcels layout (Logical v) held.logical k ≡ None) ⊎ (vbn_parcels layout (Vbn v) held.vbn k ≡ None)
  halves-apart v held k =
      ⊎_elim
      (λ (here : (volume_number layout v + 1 ≤ k) × (k ≤ volume_number layout v + 1 + stripes_of layout v)).
      let high = here.1 in inr (vbn-none layout k v held.vbn (vbn-outside layout v k (inl (omega arith)))))
      (λ (out : (k < volume_number layout v + 1) ⊎ (volume_number layout v + 1 + stripes_of layout v < k)). inl
      (logical-none layout k v held.logical (logical-outside layout v k out)))
      (between (volume_number layout v + 1) (volume_number layout v + 1 + stripes_of layout v) k)

  pub volumes-elsewhere : (a : ℕ) → a < length layout.spare → (held : AggrHeld P R B S L V A X)
      → in_places (λ v. aggregate_of layout v == a) (λ v volume. volume_parcels layout (Volume v) volume (2 + a)) held.volumes.at (length layout.volumes) ≡ None
  volumes-elsewhere a there held =
      in_places-none (λ v. aggregate_of layout v == a) (λ v volume. volume_parcels layout (Volume v) volume (2 + a)) held.volumes.at (length layout.volumes)
      (λ v l used volume. volume-none layout (2 + a) v volume (volume-outside layout v (2 + a) (inl (omega arith))))

  pub aggregates-elsewhere : (held : SerialHeld P R B S L V A X)
      → in_places (λ a. true) (λ a aggregate. aggregate_parcels layout (Aggregate a) aggregate 1) held.aggregates.at (length layout.spare) ≡ None
  aggregates-elsewhere held =
      in_places-none (λ a. true) (λ a aggregate. aggregate_parcels layout (Aggregate a) aggregate 1) held.aggregates.at (length layout.spare)
      (λ a l used aggregate. aggregate-none layout 1 a aggregate record
      { own = λ e. omega arith; volumes = λ v m on. volume-outside layout v 1 (inl (omega arith)) })
