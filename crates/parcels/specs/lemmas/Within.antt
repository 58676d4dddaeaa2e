-- The facts of the parts below a node, from one of all nodes under it; and so a set has no parcel of another node.
use Rattle.std.proofs.Common.{◌≡◌, ◌≢◌, ℕ, ◌<◌, true, List, [], ◌∷◌, ◌++◌, None, length, refl, sym, ap, subst, inl}
use Rattle.nfs_model.specs.Tree.{Layout, Affinity, Serial, Aggregate, Volume, Logical, Stripe, Vbn, Range, path, begins}
use Rattle.affinity.specs.declared.affinity.Kind.TheVariants as kinds
use Rattle.affinity.specs.Affinity.{kind_of}
use Rattle.affinity.specs.Numbers.{number_of}
use Rattle.affinity.specs.Tree.{IsNode}
use Rattle.affinity.specs.Under.{IsUnder}
use Rattle.affinity.specs.lemmas.Ways.{begins-self, begins-longer}
use Rattle.affinity.specs.lemmas.Sharing.{covers-cases}
use Rattle.parcels.specs.lemmas.Below.{OnLogical, OnVbn, OnVolume, OnAggregate, OnSerial}
use Rattle.parcels.specs.Exact.{Under}
use Rattle.parcels.specs.lemmas.Nothing.{range-none, stripe-none, vbn-none, logical-none, volume-none, aggregate-none, serial-none}
use Rattle.parcels.specs.Sets.{range_parcels, vbn_parcels, stripe_parcels, logical_parcels, volume_parcels, aggregate_parcels, serial_parcels}
use Rattle.parcels.specs.declared.sets.RangeHeld.{RangeHeld}
use Rattle.parcels.specs.declared.sets.VbnHeld.{VbnHeld}
use Rattle.parcels.specs.declared.sets.StripeHeld.{StripeHeld}
use Rattle.parcels.specs.declared.sets.LogicalHeld.{LogicalHeld}
use Rattle.parcels.specs.declared.sets.VolumeHeld.{VolumeHeld}
use Rattle.parcels.specs.declared.sets.AggrHeld.{AggrHeld}
use Rattle.parcels.specs.declared.sets.SerialHeld.{SerialHeld}

-- a node whose way goes on from another's is under it
goes_on : (layout : Layout) (a b : Affinity) (more : List ℕ) → IsNode layout b → path layout b ≡ path layout a ++ more → IsUnder layout a b
goes_on layout a b more there e = (
  there,
  covers-cases layout a b
      (subst (λ way. begins (path layout a) way ≡ true) (sym e) (begins-longer (path layout a) (path layout a) more (begins-self (path layout a)))),
)

module _ (layout : Layout) (Q : Affinity → Type 0) (v : ℕ) (there : v < length layout.volumes) where
  pub logical-from : Under layout (Logical v) Q → OnLogical layout Q v
  logical-from under = record {
    own = under (Logical v) (there, inl refl);
    stripes = λ i l. under (Stripe v i) (goes_on layout (Logical v) (Stripe v i) (i ∷ []) (there, l) refl);
  }

  pub vbn-from : Under layout (Vbn v) Q → OnVbn layout Q v
  vbn-from under = record {
    own = under (Vbn v) (there, inl refl);
    ranges = λ r l. under (Range v r) (goes_on layout (Vbn v) (Range v r) (r ∷ []) (there, l) refl);
  }

  pub volume-from : Under layout (Volume v) Q → OnVolume layout Q v
  volume-from under = record {
    own = under (Volume v) (there, inl refl);
    logical = record {
      own = under (Logical v) (goes_on layout (Volume v) (Logical v) (0 ∷ []) there refl);
      stripes = λ i l. under (Stripe v i) (goes_on layout (Volume v) (Stripe v i) (0 ∷ i ∷ []) (there, l) refl);
    };
    vbn = record {
      own = under (Vbn v) (goes_on layout (Volume v) (Vbn v) (1 ∷ []) there refl);
      ranges = λ r l. under (Range v r) (goes_on layout (Volume v) (Range v r) (1 ∷ r ∷ []) (there, l) refl);
    };
  }

pub range-from : (layout : Layout) (Q : Affinity → Type 0) (v r : ℕ) → IsNode layout (Range v r) → Under layout (Range v r) Q → Q (Range v r)
range-from layout Q v r there under = under (Range v r) (there, inl refl)

pub stripe-from : (layout : Layout) (Q : Affinity → Type 0) (v i : ℕ) → IsNode layout (Stripe v i) → Under layout (Stripe v i) Q → Q (Stripe v i)
stripe-from layout Q v i there under = under (Stripe v i) (there, inl refl)

pub aggregate-from : (layout : Layout) (Q : Affinity → Type 0) (a : ℕ) → a < length layout.spare → Under layout (Aggregate a) Q → OnAggregate layout Q a
aggregate-from layout Q a there under = record {
  own = under (Aggregate a) (there, inl refl);
  volumes = λ v l on. record {
    own = under (Volume v) (goes_on layout (Aggregate a) (Volume v) (v ∷ []) l (ap (λ n. n ∷ v ∷ []) on));
    logical = record {
      own = under (Logical v) (goes_on layout (Aggregate a) (Logical v) (v ∷ 0 ∷ []) l (ap (λ n. n ∷ v ∷ 0 ∷ []) on));
      stripes = λ i m. under (Stripe v i) (goes_on layout (Aggregate a) (Stripe v i) (v ∷ 0 ∷ i ∷ []) (l, m) (ap (λ n. n ∷ v ∷ 0 ∷ i ∷ []) on));
    };
    vbn = record {
      own = under (Vbn v) (goes_on layout (Aggregate a) (Vbn v) (v ∷ 1 ∷ []) l (ap (λ n. n ∷ v ∷ 1 ∷ []) on));
      ranges = λ r m. under (Range v r) (goes_on layout (Aggregate a) (Range v r) (v ∷ 1 ∷ r ∷ []) (l, m) (ap (λ n. n ∷ v ∷ 1 ∷ r ∷ []) on));
    };
  };
}

-- all nodes are under the root
pub serial-from : (layout : Layout) (Q : Affinity → Type 0) → Under layout Serial Q → OnSerial layout Q
serial-from layout Q under = record {
  own = under Serial (tt, inl refl);
  aggregates = λ a l. aggregate-from layout Q a l (λ b u. under b (goes_on layout Serial b (path layout b) u.0 refl));
}

-- ---- a set has no parcel of another node, by the kind of its node

module _ {P R B S L V A X : Type 0} (layout : Layout) where
  pub serial-within : (affinity : Affinity) (held : SerialHeld P R B S L V A X) (k : ℕ) → IsNode layout affinity → kind_of affinity ≡ kinds.Serial
      → Under layout affinity (λ node. k ≢ number_of layout node) → serial_parcels layout affinity held k ≡ None
  serial-within Serial held k node e under = serial-none layout k held (serial-from layout (λ b. k ≢ number_of layout b) under)
  serial-within _ held k node e under = cc

  pub aggregate-within : (affinity : Affinity) (held : AggrHeld P R B S L V A X) (k : ℕ) → IsNode layout affinity → kind_of affinity ≡ kinds.Aggregate
      → Under layout affinity (λ node. k ≢ number_of layout node) → aggregate_parcels layout affinity held k ≡ None
  aggregate-within (Aggregate a) held k node e under = aggregate-none layout k a held (aggregate-from layout (λ b. k ≢ number_of layout b) a node under)
  aggregate-within _ held k node e under = cc

  pub volume-within : (affinity : Affinity) (held : VolumeHeld P R B S L V A X) (k : ℕ) → IsNode layout affinity → kind_of affinity ≡ kinds.Volume
      → Under layout affinity (λ node. k ≢ number_of layout node) → volume_parcels layout affinity held k ≡ None
  volume-within (Volume v) held k node e under = volume-none layout k v held (volume-from layout (λ b. k ≢ number_of layout b) v node under)
  volume-within _ held k node e under = cc

  pub logical-within : (affinity : Affinity) (held : LogicalHeld P R B S L V A X) (k : ℕ) → IsNode layout affinity
      → kind_of affinity ≡ kinds.VolumeLogical → Under layout affinity (λ node. k ≢ number_of layout node) → logical_parcels layout affinity held k ≡ None
  logical-within (Logical v) held k node e under = logical-none layout k v held (logical-from layout (λ b. k ≢ number_of layout b) v node under)
  logical-within _ held k node e under = cc

  pub stripe-within : (affinity : Affinity) (held : StripeHeld P R B S L V A X) (k : ℕ) → IsNode layout affinity → kind_of affinity ≡ kinds.Stripe
      → Under layout affinity (λ node. k ≢ number_of layout node) → stripe_parcels layout affinity held k ≡ None
  stripe-within (Stripe v i) held k node e under = stripe-none layout k v i held (stripe-from layout (λ b. k ≢ number_of layout b) v i node under)
  stripe-within _ held k node e under = cc

  pub vbn-within : (affinity : Affinity) (held : VbnHeld P R B S L V A X) (k : ℕ) → IsNode layout affinity → kind_of affinity ≡ kinds.VolumeVbn
      → Under layout affinity (λ node. k ≢ number_of layout node) → vbn_parcels layout affinity held k ≡ None
  vbn-within (Vbn v) held k node e under = vbn-none layout k v held (vbn-from layout (λ b. k ≢ number_of layout b) v node under)
  vbn-within _ held k node e under = cc

  pub range-within : (affinity : Affinity) (held : RangeHeld P R B S L V A X) (k : ℕ) → IsNode layout affinity → kind_of affinity ≡ kinds.Range
      → Under layout affinity (λ node. k ≢ number_of layout node) → range_parcels layout affinity held k ≡ None
  range-within (Range v r) held k node e under = range-none layout k v r held (range-from layout (λ b. k ≢ number_of layout b) v r node under)
  range-within _ held k node e under = cc
