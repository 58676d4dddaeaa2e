-- The parcels of a set are those under its node.
use Rattle.std.proofs.Common.{◌≡◌, ◌≢◌, ℕ, ◌<◌, ◌==◌, true, false, ◌&&◌, List, [], ◌∷◌, Option, Some, None, length, refl, sym, ◌∙◌, subst}
use Rattle.std.proofs.lemmas.Bool.{and_parts, eqb-true}
use Rattle.nfs_model.specs.Tree.{Layout, Affinity, Serial, Aggregate, Volume, Logical, Stripe, Vbn, Range, stripes_of, aggregate_of, begins}
use Rattle.affinity.specs.Tree.{IsNode, covers}
use Rattle.affinity.specs.Numbers.{number_of}
use Rattle.affinity.specs.lemmas.Sharing.{covers_from}
pub use Rattle.parcels.specs.lemmas.Within.{range-from, stripe-from, vbn-from, logical-from, volume-from, aggregate-from, serial-from}
use Rattle.parcels.specs.lemmas.Below.{OnLogical, OnVbn, OnVolume, OnAggregate, OnSerial}
use Rattle.parcels.specs.Exact.{Under, HasParcel, IsVacant, HasExactly, kind_in}
use Rattle.parcels.specs.Moved.{Moved}
use Rattle.parcels.specs.Sets.{range_parcels, stripe_parcels, vbn_parcels, logical_parcels, volume_parcels, aggregate_parcels, serial_parcels}
use Rattle.parcels.specs.declared.family.Parcel.{Parcel}
use Rattle.parcels.specs.declared.sets.RangeHeld.{RangeHeld}
use Rattle.parcels.specs.declared.sets.StripeHeld.{StripeHeld}
use Rattle.parcels.specs.declared.sets.AggrHeld.{AggrHeld}
use Rattle.parcels.specs.declared.sets.SerialHeld.{SerialHeld}
use Rattle.parcels.specs.declared.sets.VbnHeld.{VbnHeld}
use Rattle.parcels.specs.declared.sets.LogicalHeld.{LogicalHeld}
use Rattle.parcels.specs.declared.sets.VolumeHeld.{VolumeHeld}
use Rattle.parcels.proofs.Parts.{range-none, stripe-none, vbn-none, logical-none, volume-none, aggregate-none, serial-none}

-- the first step of a way that begins another
first_step : (a b : ℕ) (xs : List ℕ) → begins (a ∷ []) (b ∷ xs) ≡ true → b ≡ a
first_step a b xs h = sym (eqb-true a b (and_parts (a == b) true h).0)

-- the second step of a way that begins another
second : (a b v w : ℕ) (xs ys : List ℕ) → begins (a ∷ v ∷ xs) (b ∷ w ∷ ys) ≡ true → (v ≡ w) × (begins xs ys ≡ true)
second a b v w xs ys h =
    let parts = and_parts (v == w) (begins xs ys) ((and_parts (a == b) ((v == w) && begins xs ys) h).1) in
    (eqb-true v w parts.0, parts.1)

-- a way of two steps begins none of fewer
too_short : (a v b : ℕ) (xs : List ℕ) → begins (a ∷ v ∷ xs) (b ∷ []) ≡ true → ⊥
too_short a v b xs h = let no : false ≡ true = (and_parts (a == b) false h).1 in cc

module _ (layout : Layout) (Q : Affinity → Type 0) (v : ℕ) where
  volume-to_covered : OnVolume layout Q v → (b : Affinity) → IsNode layout b → covers layout (Volume v) b ≡ true → Q b
  volume-to_covered on Serial node h = absurd (let no : false ≡ true = h in cc)
  volume-to_covered on (Aggregate a) node h = absurd (too_short (aggregate_of layout v) v a [] h)
  volume-to_covered on (Volume w) node h = subst (λ n. Q (Volume n)) (second (aggregate_of layout v) (aggregate_of layout w) v w [] [] h).0 on.own
  volume-to_covered on (Logical w) node h = subst (λ n. Q (Logical n)) (second (aggregate_of layout v) (aggregate_of layout w) v w [] (0 ∷ []) h).0
      on.logical.own
  volume-to_covered on (Stripe w i) node h =
      let same : v ≡ w = (second (aggregate_of layout v) (aggregate_of layout w) v w [] (0 ∷ i ∷ []) h).0 in
      subst (λ n. Q (Stripe n i)) same (on.logical.stripes i (subst (λ n. i < stripes_of layout n) (sym same) node.1))
  volume-to_covered on (Vbn w) node h = subst (λ n. Q (Vbn n)) (second (aggregate_of layout v) (aggregate_of layout w) v w [] (1 ∷ []) h).0 on.vbn.own
  volume-to_covered on (Range w r) node h =
      subst (λ n. Q (Range n r)) (second (aggregate_of layout v) (aggregate_of layout w) v w [] (1 ∷ r ∷ []) h).0 (on.vbn.ranges r node.1)

  -- a fact of all parts of a volume is one of each node under it
  pub volume-to : OnVolume layout Q v → Under layout (Volume v) Q
  volume-to on b under = volume-to_covered on b under.0 (covers_from layout (Volume v) b under.1)

  logical-to_covered : OnLogical layout Q v → (b : Affinity) → IsNode layout b → covers layout (Logical v) b ≡ true → Q b
  logical-to_covered on Serial node h = absurd (let no : false ≡ true = h in cc)
  logical-to_covered on (Aggregate a) node h = absurd (too_short (aggregate_of layout v) v a (0 ∷ []) h)
  logical-to_covered on (Volume w) node h = absurd (let no : false ≡ true = (second (aggregate_of layout v) (aggregate_of layout w) v w (0 ∷ []) [] h).1 in cc)
  logical-to_covered on (Logical w) node h = subst (λ n. Q (Logical n))
      (second (aggregate_of layout v) (aggregate_of layout w) v w (0 ∷ []) (0 ∷ []) h).0 on.own
  logical-to_covered on (Stripe w i) node h =
      let same : v ≡ w = (second (aggregate_of layout v) (aggregate_of layout w) v w (0 ∷ []) (0 ∷ i ∷ []) h).0 in
      subst (λ n. Q (Stripe n i)) same (on.stripes i (subst (λ n. i < stripes_of layout n) (sym same) node.1))
  logical-to_covered on (Vbn w) node h = absurd
      (let no : false ≡ true = (second (aggregate_of layout v) (aggregate_of layout w) v w (0 ∷ []) (1 ∷ []) h).1 in cc)
  logical-to_covered on (Range w r) node h = absurd
      (let no : false ≡ true = (second (aggregate_of layout v) (aggregate_of layout w) v w (0 ∷ []) (1 ∷ r ∷ []) h).1 in cc)

  pub logical-to : OnLogical layout Q v → Under layout (Logical v) Q
  logical-to on b under = logical-to_covered on b under.0 (covers_from layout (Logical v) b under.1)

  vbn-to_covered : OnVbn layout Q v → (b : Affinity) → IsNode layout b → covers layout (Vbn v) b ≡ true → Q b
  vbn-to_covered on Serial node h = absurd (let no : false ≡ true = h in cc)
  vbn-to_covered on (Aggregate a) node h = absurd (too_short (aggregate_of layout v) v a (1 ∷ []) h)
  vbn-to_covered on (Volume w) node h = absurd (let no : false ≡ true = (second (aggregate_of layout v) (aggregate_of layout w) v w (1 ∷ []) [] h).1 in cc)
  vbn-to_covered on (Logical w) node h = absurd
      (let no : false ≡ true = (second (aggregate_of layout v) (aggregate_of layout w) v w (1 ∷ []) (0 ∷ []) h).1 in cc)
  vbn-to_covered on (Stripe w i) node h = absurd
      (let no : false ≡ true = (second (aggregate_of layout v) (aggregate_of layout w) v w (1 ∷ []) (0 ∷ i ∷ []) h).1 in cc)
  vbn-to_covered on (Vbn w) node h = subst (λ n. Q (Vbn n)) (second (aggregate_of layout v) (aggregate_of layout w) v w (1 ∷ []) (1 ∷ []) h).0 on.own
  vbn-to_covered on (Range w r) node h =
      subst (λ n. Q (Range n r)) (second (aggregate_of layout v) (aggregate_of layout w) v w (1 ∷ []) (1 ∷ r ∷ []) h).0 (on.ranges r node.1)

  pub vbn-to : OnVbn layout Q v → Under layout (Vbn v) Q
  vbn-to on b under = vbn-to_covered on b under.0 (covers_from layout (Vbn v) b under.1)

range-to_covered : (layout : Layout) (Q : Affinity → Type 0) (v r : ℕ) → Q (Range v r) → (b : Affinity) → covers layout (Range v r) b ≡ true → Q b
range-to_covered layout Q v r q Serial h = absurd (let no : false ≡ true = h in cc)
range-to_covered layout Q v r q (Aggregate a) h = absurd (too_short (aggregate_of layout v) v a (1 ∷ r ∷ []) h)
range-to_covered layout Q v r q (Volume w) h = absurd
    (let no : false ≡ true = (second (aggregate_of layout v) (aggregate_of layout w) v w (1 ∷ r ∷ []) [] h).1 in cc)
range-to_covered layout Q v r q (Logical w) h = absurd
    (let no : false ≡ true = (second (aggregate_of layout v) (aggregate_of layout w) v w (1 ∷ r ∷ []) (0 ∷ []) h).1 in cc)
range-to_covered layout Q v r q (Stripe w i) h = absurd
    (let no : false ≡ true = (second (aggregate_of layout v) (aggregate_of layout w) v w (1 ∷ r ∷ []) (0 ∷ i ∷ []) h).1 in cc)
range-to_covered layout Q v r q (Vbn w) h = absurd
    (let no : false ≡ true = (second (aggregate_of layout v) (aggregate_of layout w) v w (1 ∷ r ∷ []) (1 ∷ []) h).1 in cc)
range-to_covered layout Q v r q (Range w s) h =
    let both = second (aggregate_of layout v) (aggregate_of layout w) v w (1 ∷ r ∷ []) (1 ∷ s ∷ []) h in
    subst (λ n. Q (Range w n)) (sym (first_step r s [] both.1)) (subst (λ n. Q (Range n r)) both.0 q)

stripe-to_covered : (layout : Layout) (Q : Affinity → Type 0) (v i : ℕ) → Q (Stripe v i) → (b : Affinity) → covers layout (Stripe v i) b ≡ true → Q b
stripe-to_covered layout Q v i q Serial h = absurd (let no : false ≡ true = h in cc)
stripe-to_covered layout Q v i q (Aggregate a) h = absurd (too_short (aggregate_of layout v) v a (0 ∷ i ∷ []) h)
stripe-to_covered layout Q v i q (Volume w) h = absurd
    (let no : false ≡ true = (second (aggregate_of layout v) (aggregate_of layout w) v w (0 ∷ i ∷ []) [] h).1 in cc)
stripe-to_covered layout Q v i q (Logical w) h = absurd
    (let no : false ≡ true = (second (aggregate_of layout v) (aggregate_of layout w) v w (0 ∷ i ∷ []) (0 ∷ []) h).1 in cc)
stripe-to_covered layout Q v i q (Stripe w j) h =
    let both = second (aggregate_of layout v) (aggregate_of layout w) v w (0 ∷ i ∷ []) (0 ∷ j ∷ []) h in
    subst (λ n. Q (Stripe w n)) (sym (first_step i j [] both.1)) (subst (λ n. Q (Stripe n i)) both.0 q)
stripe-to_covered layout Q v i q (Vbn w) h = absurd
    (let no : false ≡ true = (second (aggregate_of layout v) (aggregate_of layout w) v w (0 ∷ i ∷ []) (1 ∷ []) h).1 in cc)
stripe-to_covered layout Q v i q (Range w r) h = absurd
    (let no : false ≡ true = (second (aggregate_of layout v) (aggregate_of layout w) v w (0 ∷ i ∷ []) (1 ∷ r ∷ []) h).1 in cc)

pub range-to : (layout : Layout) (Q : Affinity → Type 0) (v r : ℕ) → Q (Range v r) → Under layout (Range v r) Q
range-to layout Q v r q b under = range-to_covered layout Q v r q b (covers_from layout (Range v r) b under.1)

pub stripe-to : (layout : Layout) (Q : Affinity → Type 0) (v i : ℕ) → Q (Stripe v i) → Under layout (Stripe v i) Q
stripe-to layout Q v i q b under = stripe-to_covered layout Q v i q b (covers_from layout (Stripe v i) b under.1)

module _ (layout : Layout) (Q : Affinity → Type 0) (a : ℕ) where
  aggregate-to_covered : OnAggregate layout Q a → (b : Affinity) → IsNode layout b → covers layout (Aggregate a) b ≡ true → Q b
  aggregate-to_covered on Serial node h = absurd (let no : false ≡ true = h in cc)
  aggregate-to_covered on (Aggregate c) node h = subst (λ n. Q (Aggregate n)) (sym (first_step a c [] h)) on.own
  aggregate-to_covered on (Volume w) node h = (on.volumes w node (first_step a (aggregate_of layout w) (w ∷ []) h)).own
  aggregate-to_covered on (Logical w) node h = (on.volumes w node (first_step a (aggregate_of layout w) (w ∷ 0 ∷ []) h)).logical.own
  aggregate-to_covered on (Stripe w i) node h = (on.volumes w node.0 (first_step a (aggregate_of layout w) (w ∷ 0 ∷ i ∷ []) h)).logical.stripes i node.1
  aggregate-to_covered on (Vbn w) node h = (on.volumes w node (first_step a (aggregate_of layout w) (w ∷ 1 ∷ []) h)).vbn.own
  aggregate-to_covered on (Range w r) node h = (on.volumes w node.0 (first_step a (aggregate_of layout w) (w ∷ 1 ∷ r ∷ []) h)).vbn.ranges r node.1

  pub aggregate-to : OnAggregate layout Q a → Under layout (Aggregate a) Q
  aggregate-to on b under = aggregate-to_covered on b under.0 (covers_from layout (Aggregate a) b under.1)

-- each volume's aggregate is there
module _ (layout : Layout) (Q : Affinity → Type 0) (known : (v : ℕ) → v < length layout.volumes → aggregate_of layout v < length layout.spare) where
  serial-to_node : OnSerial layout Q → (b : Affinity) → IsNode layout b → Q b
  serial-to_node on Serial node = on.own
  serial-to_node on (Aggregate a) node = (on.aggregates a node).own
  serial-to_node on (Volume w) node = ((on.aggregates (aggregate_of layout w) (known w node)).volumes w node refl).own
  serial-to_node on (Logical w) node = ((on.aggregates (aggregate_of layout w) (known w node)).volumes w node refl).logical.own
  serial-to_node on (Stripe w i) node = ((on.aggregates (aggregate_of layout w) (known w node.0)).volumes w node.0 refl).logical.stripes i node.1
  serial-to_node on (Vbn w) node = ((on.aggregates (aggregate_of layout w) (known w node)).volumes w node refl).vbn.own
  serial-to_node on (Range w r) node = ((on.aggregates (aggregate_of layout w) (known w node.0)).volumes w node.0 refl).vbn.ranges r node.1

  serial-to : OnSerial layout Q → Under layout Serial Q
  serial-to on b under = serial-to_node on b under.0

-- what was there and is gone was taken
taken-there : {T : Type 0} (a s b : Option T) (x : T) → a ≡ Some x → b ≡ None → Moved a s b → s ≡ Some x
taken-there a None b x e d m = absurd (let no : None ≡ Some x = sym d ∙ m ∙ e in cc)
taken-there a (Some y) b x e d m = sym m.0 ∙ e

module _ {P R B S L V A X : Type 0} (layout : Layout) (f s g : ℕ → Option (Parcel P R B S L V A X)) (moved : (k : ℕ) → Moved (f k) (s k) (g k)) where
  has-taken : (b : Affinity) → HasParcel layout f b → IsVacant layout g b → HasParcel layout s b
  has-taken b has gone =
      (has.0, taken-there (f (number_of layout b)) (s (number_of layout b)) (g (number_of layout b)) has.0 has.1 gone (moved (number_of layout b)), has.2)

  logical-taken : (v : ℕ) → OnLogical layout (HasParcel layout f) v → OnLogical layout (IsVacant layout g) v → OnLogical layout (HasParcel layout s) v
  logical-taken v has gone = record {
    own = has-taken (Logical v) has.own gone.own;
    stripes = λ i l. has-taken (Stripe v i) (has.stripes i l) (gone.stripes i l);
  }

  vbn-taken : (v : ℕ) → OnVbn layout (HasParcel layout f) v → OnVbn layout (IsVacant layout g) v → OnVbn layout (HasParcel layout s) v
  vbn-taken v has gone = record {
    own = has-taken (Vbn v) has.own gone.own;
    ranges = λ r l. has-taken (Range v r) (has.ranges r l) (gone.ranges r l);
  }

  volume-taken : (v : ℕ) → OnVolume layout (HasParcel layout f) v → OnVolume layout (IsVacant layout g) v → OnVolume layout (HasParcel layout s) v
  volume-taken v has gone = record {
    own = has-taken (Volume v) has.own gone.own;
    logical = logical-taken v has.logical gone.logical;
    vbn = vbn-taken v has.vbn gone.vbn;
  }

  aggregate-taken : (a : ℕ) → OnAggregate layout (HasParcel layout f) a → OnAggregate layout (IsVacant layout g) a → OnAggregate layout (HasParcel layout s) a
  aggregate-taken a has gone = record {
    own = has-taken (Aggregate a) has.own gone.own;
    volumes = λ v l on. volume-taken v (has.volumes v l on) (gone.volumes v l on);
  }

  serial-taken : OnSerial layout (HasParcel layout f) → OnSerial layout (IsVacant layout g) → OnSerial layout (HasParcel layout s)
  serial-taken has gone = record {
    own = has-taken Serial has.own gone.own;
    aggregates = λ a l. aggregate-taken a (has.aggregates a l) (gone.aggregates a l);
  }

module _ {P R B S L V A X : Type 0} (layout : Layout) (f g : ℕ → Option (Parcel P R B S L V A X)) where
  pub range-exact : (v r : ℕ) → IsNode layout (Range v r) → (held : RangeHeld P R B S L V A X) → HasParcel layout f (Range v r) → IsVacant layout g (Range v r)
      → ((k : ℕ) → Moved (f k) (range_parcels layout (Range v r) held k) (g k)) → HasExactly kind_in layout (Range v r) (range_parcels layout (Range v r) held)
  range-exact v r there held has gone moved = record {
    each = range-to layout (HasParcel layout (range_parcels layout (Range v r) held)) v r
        (has-taken layout f (range_parcels layout (Range v r) held) g moved (Range v r) has gone);
    no_other = λ k under. range-none layout k v r held (range-from layout (λ b. k ≢ number_of layout b) v r there under);
  }

  pub stripe-exact : (v i : ℕ) → IsNode layout (Stripe v i) → (held : StripeHeld P R B S L V A X) → HasParcel layout f (Stripe v i)
      → IsVacant layout g (Stripe v i)
      → ((k : ℕ) → Moved (f k) (stripe_parcels layout (Stripe v i) held k) (g k))
      → HasExactly kind_in layout (Stripe v i) (stripe_parcels layout (Stripe v i) held)
  stripe-exact v i there held has gone moved = record {
    each = stripe-to layout (HasParcel layout (stripe_parcels layout (Stripe v i) held)) v i
        (has-taken layout f (stripe_parcels layout (Stripe v i) held) g moved (Stripe v i) has gone);
    no_other = λ k under. stripe-none layout k v i held (stripe-from layout (λ b. k ≢ number_of layout b) v i there under);
  }

  pub aggregate-exact : (a : ℕ) → a < length layout.spare → (held : AggrHeld P R B S L V A X) → OnAggregate layout (HasParcel layout f) a
      → OnAggregate layout (IsVacant layout g) a
      → ((k : ℕ) → Moved (f k) (aggregate_parcels layout (Aggregate a) held k) (g k))
      → HasExactly kind_in layout (Aggregate a) (aggregate_parcels layout (Aggregate a) held)
  aggregate-exact a there held has gone moved = record {
    each = aggregate-to layout (HasParcel layout (aggregate_parcels layout (Aggregate a) held)) a
        (aggregate-taken layout f (aggregate_parcels layout (Aggregate a) held) g moved a has gone);
    no_other = λ k under. aggregate-none layout k a held (aggregate-from layout (λ b. k ≢ number_of layout b) a there under);
  }

  pub serial-exact : ((v : ℕ) → v < length layout.volumes → aggregate_of layout v < length layout.spare) → (held : SerialHeld P R B S L V A X)
      → OnSerial layout (HasParcel layout f) → OnSerial layout (IsVacant layout g)
      → ((k : ℕ) → Moved (f k) (serial_parcels layout Serial held k) (g k)) → HasExactly kind_in layout Serial (serial_parcels layout Serial held)
  serial-exact known held has gone moved = record {
    each = serial-to layout (HasParcel layout (serial_parcels layout Serial held)) known
        (serial-taken layout f (serial_parcels layout Serial held) g moved has gone);
    no_other = λ k under. serial-none layout k held (serial-from layout (λ b. k ≢ number_of layout b) under);
  }

module _ {P R B S L V A X : Type 0} (layout : Layout) (v : ℕ) (there : v < length layout.volumes) (f g : ℕ → Option (Parcel P R B S L V A X)) where
  pub logical-exact : (held : LogicalHeld P R B S L V A X) → OnLogical layout (HasParcel layout f) v → OnLogical layout (IsVacant layout g) v
      → ((k : ℕ) → Moved (f k) (logical_parcels layout (Logical v) held k) (g k))
      → HasExactly kind_in layout (Logical v) (logical_parcels layout (Logical v) held)
  logical-exact held has gone moved = record {
    each = logical-to layout (HasParcel layout (logical_parcels layout (Logical v) held)) v
        (logical-taken layout f (logical_parcels layout (Logical v) held) g moved v has gone);
    no_other = λ k under. logical-none layout k v held (logical-from layout (λ b. k ≢ number_of layout b) v there under);
  }

  pub vbn-exact : (held : VbnHeld P R B S L V A X) → OnVbn layout (HasParcel layout f) v → OnVbn layout (IsVacant layout g) v
      → ((k : ℕ) → Moved (f k) (vbn_parcels layout (Vbn v) held k) (g k)) → HasExactly kind_in layout (Vbn v) (vbn_parcels layout (Vbn v) held)
  vbn-exact held has gone moved = record {
    each = vbn-to layout (HasParcel layout (vbn_parcels layout (Vbn v) held)) v (vbn-taken layout f (vbn_parcels layout (Vbn v) held) g moved v has gone);
    no_other = λ k under. vbn-none layout k v held (vbn-from layout (λ b. k ≢ number_of layout b) v there under);
  }

  pub volume-exact : (held : VolumeHeld P R B S L V A X) → OnVolume layout (HasParcel layout f) v → OnVolume layout (IsVacant layout g) v
      → ((k : ℕ) → Moved (f k) (volume_parcels layout (Volume v) held k) (g k)) → HasExactly kind_in layout (Volume v) (volume_parcels layout (Volume v) held)
  volume-exact held has gone moved = record {
    each = volume-to layout (HasParcel layout (volume_parcels layout (Volume v) held)) v
        (volume-taken layout f (volume_parcels layout (Volume v) held) g moved v has gone);
    no_other = λ k under. volume-none layout k v held (volume-from layout (λ b. k ≢ number_of layout b) v there under);
  }
