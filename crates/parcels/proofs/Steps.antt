-- What a step of a taking or of a giving leaves at other nodes.
use Rattle.std.proofs.Common.{◌≡◌, ◌≢◌, ℕ, ◌+◌, ◌<◌, ◌≤◌, Option, None, length, refl, sym, ◌∙◌, ap, subst, arith, inl, inr, ⊎_elim}
use Rattle.std.proofs.lemmas.Bool.{cases_eq}
use Rattle.nfs_model.specs.Tree.{Layout, Affinity, Aggregate, Volume, Logical, Stripe, Vbn, Range, stripes_of, aggregate_of}
use Rattle.affinity.specs.Numbers.{number_of, volume_number}
use Rattle.parcels.specs.lemmas.Below.{OnLogical, OnVbn, OnVolume, OnAggregate}
use Rattle.parcels.specs.Exact.{IsVacant}
use Rattle.parcels.proofs.Parts.{logical-over, vbn-over, volume-over, logical-outside, volume-outside, volumes-apart}

-- ---- loops

-- what is so from slot i on
pub fewer : (W Z : ℕ → Type 0) (i n : ℕ) → ((j : ℕ) → j ≢ i → j < n → W j → Z j) → ((j : ℕ) → i ≤ j → j < n → W j) → (j : ℕ) → i + 1 ≤ j → j < n → Z j
fewer W Z i n over before j low high = over j (λ e. omega arith) high (before j (omega arith) high)

-- what is so up to slot i
pub more : (W Z : ℕ → Type 0) (i : ℕ) → ((j : ℕ) → W j → Z j) → ((j : ℕ) → j < i → W j) → Z i → (j : ℕ) → j < i + 1 → Z j
more W Z i over before here j below =
    ⊎_elim
    (λ (e : j ≡ i). subst Z (sym e) here)
    (λ (n : j ≡ i → ⊥). over j (before j (omega arith)))
    (cases_eq j i)

-- ---- numbers of other parts

module _ (layout : Layout) (k : ℕ) where
  -- an aggregate's own number is none of another's part
  pub aggregate-outside : (a c : ℕ) → c < length layout.spare → c ≢ a → k ≡ 2 + c → OnAggregate layout (λ b. k ≢ number_of layout b) a
  aggregate-outside a c there n e = record {
    own = λ same. n (omega arith);
    volumes = λ v l on. volume-outside layout v k (inl (omega arith));
  }

  -- nor is a number of a volume that is on another
  pub volume-outside-aggregate : (a c w : ℕ) → a < length layout.spare → w < length layout.volumes → aggregate_of layout w ≡ c → c ≢ a
      → volume_number layout w ≤ k → k ≤ volume_number layout w + 18 + stripes_of layout w
      → OnAggregate layout (λ b. k ≢ number_of layout b) a
  volume-outside-aggregate a c w there l on n low high = record {
    own = λ same. omega arith;
    volumes = λ v m of_a. volume-outside layout v k (volumes-apart layout v w k m l (λ same. n (sym on ∙ ap (aggregate_of layout) (sym same) ∙ of_a)) low high);
  }

-- ---- a fact of nodes by what is at their numbers goes over to a shelf that is the same there

module _ {T : Type 0} (layout : Layout) (K : (ℕ → Option T) → Affinity → Type 0)
    (over : (f g : ℕ → Option T) (b : Affinity) → g (number_of layout b) ≡ f (number_of layout b) → K f b → K g b)
    (f g : ℕ → Option T) where
  pub stripes-after : (v : ℕ) → ((k : ℕ) → k ≢ number_of layout (Logical v) → g k ≡ f k) → ((i : ℕ) → i < stripes_of layout v → K f (Stripe v i))
      → (i : ℕ) → i < stripes_of layout v → K g (Stripe v i)
  stripes-after v same on i l = over f g (Stripe v i) (same (number_of layout (Stripe v i)) (λ e. omega arith)) (on i l)

  pub ranges-after : (v : ℕ) → ((k : ℕ) → k ≢ number_of layout (Vbn v) → g k ≡ f k) → ((r : ℕ) → r < 16 → K f (Range v r)) → (r : ℕ) → r < 16 → K g (Range v r)
  ranges-after v same on r l = over f g (Range v r) (same (number_of layout (Range v r)) (λ e. omega arith)) (on r l)

  pub stripe-after : (v i j : ℕ) → ((k : ℕ) → k ≢ number_of layout (Stripe v i) → g k ≡ f k) → j ≢ i → K f (Stripe v j) → K g (Stripe v j)
  stripe-after v i j same n = over f g (Stripe v j) (same (number_of layout (Stripe v j)) (λ e. n (omega arith)))

  pub range-after : (v i j : ℕ) → ((k : ℕ) → k ≢ number_of layout (Range v i) → g k ≡ f k) → j ≢ i → K f (Range v j) → K g (Range v j)
  range-after v i j same n = over f g (Range v j) (same (number_of layout (Range v j)) (λ e. n (omega arith)))

  pub logical-after : (v : ℕ) → ((k : ℕ) → k ≢ number_of layout (Volume v) → g k ≡ f k) → OnLogical layout (K f) v → OnLogical layout (K g) v
  logical-after v same on = logical-over layout (K f) (K g) v (λ b low high. over f g b (same (number_of layout b) (λ e. omega arith))) on

  pub vbn-after : (v : ℕ) → ((k : ℕ) → k ≢ number_of layout (Volume v) → g k ≡ f k) → OnVbn layout (K f) v → OnVbn layout (K g) v
  vbn-after v same on = vbn-over layout (K f) (K g) v (λ b low high. over f g b (same (number_of layout b) (λ e. omega arith))) on

  pub vbn-after-logical : (v : ℕ) → ((k : ℕ) → OnLogical layout (λ b. k ≢ number_of layout b) v → g k ≡ f k) → OnVbn layout (K f) v → OnVbn layout (K g) v
  vbn-after-logical v same on = vbn-over layout (K f) (K g) v
      (λ b low high. over f g b (same (number_of layout b) (logical-outside layout v (number_of layout b) (inr (omega arith))))) on

  pub volume-after : (v w : ℕ) → v < length layout.volumes → w < length layout.volumes → w ≢ v
      → ((k : ℕ) → OnVolume layout (λ b. k ≢ number_of layout b) v → g k ≡ f k) → OnVolume layout (K f) w → OnVolume layout (K g) w
  volume-after v w l m n same on =
      volume-over layout (K f) (K g) w
      (λ b low high. over f g b
      (same (number_of layout b)
      (volume-outside layout v (number_of layout b) (volumes-apart layout v w (number_of layout b) l m (λ e. n (sym e)) low high)))) on

  pub volumes-after : (a v : ℕ) → a < length layout.spare → ((k : ℕ) → k ≢ number_of layout (Aggregate a) → g k ≡ f k) → OnVolume layout (K f) v
      → OnVolume layout (K g) v
  volumes-after a v l same on = volume-over layout (K f) (K g) v (λ b low high. over f g b (same (number_of layout b) (λ e. omega arith))) on

  pub aggregate-after : (a c : ℕ) → a < length layout.spare → c < length layout.spare → c ≢ a
      → ((k : ℕ) → OnAggregate layout (λ b. k ≢ number_of layout b) a → g k ≡ f k) → OnAggregate layout (K f) c → OnAggregate layout (K g) c
  aggregate-after a c l m n same on = record {
    own = over f g (Aggregate c) (same (2 + c) (aggregate-outside layout (2 + c) a c m n refl)) on.own;
    volumes = λ w there of_c. volume-over layout (K f) (K g) w
        (λ b low high. over f g b (same (number_of layout b) (volume-outside-aggregate layout (number_of layout b) a c w l there of_c n low high)))
        (on.volumes w there of_c);
  }

  pub aggregates-after : (a : ℕ) → ((k : ℕ) → k ≢ 1 → g k ≡ f k) → OnAggregate layout (K f) a → OnAggregate layout (K g) a
  aggregates-after a same on = record {
    own = over f g (Aggregate a) (same (2 + a) (λ e. omega arith)) on.own;
    volumes = λ w there of_a. volume-over layout (K f) (K g) w (λ b low high. over f g b (same (number_of layout b) (λ e. omega arith)))
        (on.volumes w there of_a);
  }

-- ---- what is gone stays gone

module _ {T : Type 0} (layout : Layout) (f g : ℕ → Option T) (stays : (k : ℕ) → f k ≡ None → g k ≡ None) where
  pub logical-stays : (v : ℕ) → OnLogical layout (IsVacant layout f) v → OnLogical layout (IsVacant layout g) v
  logical-stays v on = logical-over layout (IsVacant layout f) (IsVacant layout g) v (λ b low high. stays (number_of layout b)) on

pub vacant_kept : {T : Type 0} (layout : Layout) (f g : ℕ → Option T) (b : Affinity) → g (number_of layout b) ≡ f (number_of layout b)
    → IsVacant layout f b → IsVacant layout g b
vacant_kept layout f g b e h = e ∙ h
