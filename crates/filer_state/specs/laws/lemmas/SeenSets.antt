-- The lenses of the seven kinds of node: which part of what is stored a typed set is. That a changed set is exactly under its
-- node again is in `parcel_sets`, where it is filled as before.
use Rattle.std.proofs.Common.{◌≡◌, ℕ, zero, suc, ◌+◌, ◌<◌, ◌==◌, Bool, true, false, List, [], ◌∷◌, ◌++◌, length, Option, Some, None}
use Rattle.std.proofs.Common.{refl, sym, ap, ◌∙◌, arith, eqb}
use Rattle.std.specs.Prelude.{slice_set, slice_get, if◌then◌else◌}
use Rattle.std.proofs.lemmas.Bool.{and_parts, eqb-true, eq-eqb}
use Rattle.nfs_model.specs.Tree.{Layout, Affinity, Serial, Aggregate, Volume, Logical, Stripe, Vbn, Range, path, begins, stripes_of, aggregate_of}
use Rattle.nfs_model.specs.Parts.{most_ranges}
use Rattle.affinity.specs.Fault.{fault_of}
use Rattle.affinity.specs.Tree.{IsNode}
use Rattle.affinity.specs.Under.{IsUnder}
use Rattle.affinity.specs.Numbers.{number_of}
use Rattle.affinity.specs.lemmas.Lawful.{aggregate_known}
use Rattle.affinity.specs.lemmas.Sharing.{covers-cases}
use Rattle.affinity.specs.lemmas.Ways.{begins-self, begins-longer, begins-length}
use Rattle.parcels.specs.declared.family.Parcel.TheVariants as parcels
use Rattle.parcels.specs.Slots.{in_slot}
use Rattle.parcels.specs.Sets.{range_parcels, vbn_parcels, stripe_parcels, logical_parcels, volume_parcels, aggregate_parcels, serial_parcels}
use Rattle.parcels.specs.lemmas.At.{IsOfVolume, range-own, stripe-own, logical-own, aggregate-own, logical-stripe, vbn-range, volume-logical}
use Rattle.parcels.specs.lemmas.At.{volume-vbn, aggregate-volume, serial-volume, serial-aggregate}
use Rattle.filer_state.specs.state.Parcels.{FilerParcel, no_range, no_stripe}
use Rattle.filer_state.specs.state.Contents.{VolumeContents, each, logical_in, stripe_in, range_in, spare_in, at, contents_of}
use Rattle.filer_state.specs.state.Lenses.{VolumeSet, stripe_lens, range_lens, vbn_lens, logical_lens, volume_lens, in_volume}
use Rattle.filer_state.specs.state.Lenses.{set_on, put_if, put_each, aggregate_lens, serial_lens}
use Rattle.filer_state.specs.state.Promises.{IsSeenBy}
use Rattle.filer_state.specs.state.Sets.{FilerRange, FilerStripe, FilerVbn, FilerLogical, FilerVolume, FilerAggregate, FilerSerial, in_one, placed}
use Rattle.filer_state.specs.state.Sets.{range_value, stripe_value, vbn_set, logical_set, volume_set, volume_value, volume_placed, aggregate_set, spare_value}
use Rattle.filer_state.specs.state.Sets.{volume_with, serial_set}
use Rattle.filer_state.specs.laws.lemmas.Each.{each-same, each-set, each-index, each-map}
use Rattle.filer_state.specs.laws.lemmas.Seen.{AgreeUnder, seen-by, below-volume-seen, volume-stays}

-- ---- ways

way-step : (x y : ℕ) (r q : List ℕ) → begins (x ∷ r) (y ∷ q) ≡ true → (x ≡ y) × (begins r q ≡ true)
way-step x y r q h = let both = and_parts (eqb x y) (begins r q) h in (eqb-true x y both.0, both.1)

third : (a b c d e f : ℕ) (r q : List ℕ) → begins (a ∷ b ∷ c ∷ r) (d ∷ e ∷ f ∷ q) ≡ true → (c ≡ f) × (begins r q ≡ true)
third a b c d e f r q h =
    let one = way-step a d (b ∷ c ∷ r) (e ∷ f ∷ q) h in
    let two = way-step b e (c ∷ r) (f ∷ q) one.1 in
    way-step c f r q two.1

fourth : (a b c i d e f k : ℕ) → begins (a ∷ b ∷ c ∷ i ∷ []) (d ∷ e ∷ f ∷ k ∷ []) ≡ true → i ≡ k
fourth a b c i d e f k h = (way-step i k [] [] (third a b c d e f (i ∷ []) (k ∷ []) h).1).0

-- a node whose way goes on from a's is under a
below : (layout : Layout) (a b : Affinity) (more : List ℕ) → IsNode layout b → path layout b ≡ path layout a ++ more → IsUnder layout a b
below layout a b more node e =
    (node, covers-cases layout a b (ap (begins (path layout a)) e ∙ begins-longer (path layout a) (path layout a) more (begins-self (path layout a))))

-- ---- what is in a place

module _ {P : Type 0} where
  stripe-placed : (o : Option (Option (FilerStripe P)))
      → stripe_in {P = P} (in_slot (λ (s : FilerStripe P). Some (parcels.Stripe s.own)) o) ≡ stripe_value (in_one o)
  stripe-placed None = refl
  stripe-placed (Some None) = refl
  stripe-placed (Some (Some s)) = refl

  range-placed : (o : Option (Option (FilerRange P)))
      → range_in {P = P} (in_slot (λ (r : FilerRange P). Some (parcels.Range r.own)) o) ≡ range_value (in_one o)
  range-placed None = refl
  range-placed (Some None) = refl
  range-placed (Some (Some r)) = refl

  spare-placed : (o : Option (Option (FilerAggregate P))) → spare_in {P = P} (in_slot (λ (a : FilerAggregate P). Some (parcels.Aggregate a.own)) o)
      ≡ spare_value (in_one o)
  spare-placed None = refl
  spare-placed (Some None) = refl
  spare-placed (Some (Some a)) = refl

-- ---- kinds below a volume

module _ {P : Type 0} (layout : Layout) (lawful : fault_of layout ≡ None) (v : ℕ) (on : v < length layout.volumes) where
  pub stripe-seen : (i : ℕ) → i < stripes_of layout v → (held : FilerStripe P)
      → IsSeenBy layout (Stripe v i) (in_volume v (stripe_lens i)) (stripe_parcels layout (Stripe v i) held) held.own
  stripe-seen i less held =
      let a : Affinity = Stripe v i in
      let n : ℕ = stripes_of layout v in
      let own : (ℕ → Option (FilerParcel P)) → ℕ → _ = λ f k. stripe_in (at layout f (Stripe v k)) in
      below-volume-seen layout lawful a (on, less) v on (0 ∷ i ∷ []) refl (stripe_lens i) (stripe_parcels layout a held) held.own
      (λ f same. each-index (own f) no_stripe n i less ∙ ap stripe_in (same a (below layout a a [] (on, less) refl) ∙ stripe-own layout a held))
      (λ f g same. λ j. record (contents_of layout g v) {
        logical = logical_in (same (Logical v) on (λ h. let long = begins-length (path layout a) (path layout (Logical v)) h in omega arith) j);
        stripes = (each-set (own f) (own g) n i less
            (λ k l ne. ap stripe_in (same (Stripe v k) (on, l) (λ h. ne (sym (fourth (aggregate_of layout v) v 0 i (aggregate_of layout v) v 0 k h)))))
            ∙ ap (slice_set (each (own f) 0 n) i) (sym (each-index (own g) no_stripe n i less))) j;
        ranges = each-same (λ r. range_in (at layout g (Range v r))) (λ r. range_in (at layout f (Range v r))) 0 most_ranges
            (λ r low high. ap range_in (same (Range v r) (on, omega arith)
            (λ h. let no = (third (aggregate_of layout v) v 0 (aggregate_of layout v) v 1 (i ∷ []) (r ∷ []) h).0 in absurd cc))) j;
      })

  pub range-seen : (r : ℕ) → r < 16 → (held : FilerRange P)
      → IsSeenBy layout (Range v r) (in_volume v (range_lens r)) (range_parcels layout (Range v r) held) held.own
  range-seen r less held =
      let a : Affinity = Range v r in
      let own : (ℕ → Option (FilerParcel P)) → ℕ → _ = λ f k. range_in (at layout f (Range v k)) in
      below-volume-seen layout lawful a (on, less) v on (1 ∷ r ∷ []) refl (range_lens r) (range_parcels layout a held) held.own
      (λ f same. each-index (own f) no_range most_ranges r less ∙ ap range_in (same a (below layout a a [] (on, less) refl) ∙ range-own layout a held))
      (λ f g same. λ j. record (contents_of layout g v) {
        logical = logical_in (same (Logical v) on (λ h. let long = begins-length (path layout a) (path layout (Logical v)) h in omega arith) j);
        stripes = each-same (λ i. stripe_in (at layout g (Stripe v i))) (λ i. stripe_in (at layout f (Stripe v i))) 0 (stripes_of layout v)
            (λ i low high. ap stripe_in (same (Stripe v i) (on, omega arith)
            (λ h. let no = (third (aggregate_of layout v) v 1 (aggregate_of layout v) v 0 (r ∷ []) (i ∷ []) h).0 in absurd cc))) j;
        ranges = (each-set (own f) (own g) most_ranges r less
            (λ k l ne. ap range_in (same (Range v k) (on, l) (λ h. ne (sym (fourth (aggregate_of layout v) v 1 r (aggregate_of layout v) v 1 k h)))))
            ∙ ap (slice_set (each (own f) 0 most_ranges) r) (sym (each-index (own g) no_range most_ranges r less))) j;
      })

  pub vbn-seen : (held : FilerVbn P) → IsSeenBy layout (Vbn v) (in_volume v vbn_lens) (vbn_parcels layout (Vbn v) held) (vbn_set held)
  vbn-seen held =
      let a : Affinity = Vbn v in
      below-volume-seen layout lawful a on v on (1 ∷ []) refl vbn_lens (vbn_parcels layout a held) (vbn_set held)
      (λ f same. each-same (λ r. range_in (at layout f (Range v r))) (λ r. range_value (placed held.ranges.at r)) 0 most_ranges
      (λ r low high. ap range_in (same (Range v r) (below layout a (Range v r) (r ∷ []) (on, omega arith) refl) ∙ vbn-range layout v r held (omega arith))
      ∙ range-placed (slice_get held.ranges.at r)))
      (λ f g same. λ j. record (contents_of layout g v) {
        logical = logical_in (same (Logical v) on
            (λ h. let no = (third (aggregate_of layout v) v 1 (aggregate_of layout v) v 0 [] [] h).0 in absurd cc) j);
        stripes = each-same (λ i. stripe_in (at layout g (Stripe v i))) (λ i. stripe_in (at layout f (Stripe v i))) 0 (stripes_of layout v)
            (λ i low high. ap stripe_in (same (Stripe v i) (on, omega arith)
            (λ h. let no = (third (aggregate_of layout v) v 1 (aggregate_of layout v) v 0 [] (i ∷ []) h).0 in absurd cc))) j;
      })

  pub logical-seen : (held : FilerLogical P)
      → IsSeenBy layout (Logical v) (in_volume v logical_lens) (logical_parcels layout (Logical v) held) (logical_set (stripes_of layout v) held)
  logical-seen held =
      let a : Affinity = Logical v in
      below-volume-seen layout lawful a on v on (0 ∷ []) refl logical_lens (logical_parcels layout a held) (logical_set (stripes_of layout v) held)
      (λ f same. λ j. record {
        own = logical_in ((same a (below layout a a [] on refl) ∙ logical-own layout a held) j);
        stripes = each-same (λ i. stripe_in (at layout f (Stripe v i))) (λ i. stripe_value (placed held.stripes.at i)) 0 (stripes_of layout v)
            (λ i low high. ap stripe_in (same (Stripe v i) (below layout a (Stripe v i) (i ∷ []) (on, omega arith) refl)
            ∙ logical-stripe layout v i held (omega arith))
            ∙ stripe-placed (slice_get held.stripes.at i)) j;
      })
      (λ f g same. λ j. record (contents_of layout g v) {
        ranges = each-same (λ r. range_in (at layout g (Range v r))) (λ r. range_in (at layout f (Range v r))) 0 most_ranges
            (λ r low high. ap range_in (same (Range v r) (on, omega arith)
            (λ h. let no = (third (aggregate_of layout v) v 0 (aggregate_of layout v) v 1 [] (r ∷ []) h).0 in absurd cc))) j;
      })

-- ---- volumes

-- the parcels of a volume's nodes that have contents are as q says
record VolumeIs {P : Type 0} (layout : Layout) (v : ℕ) (f q : ℕ → Option (FilerParcel P)) : Type 0 where
  pub logical : at layout f (Logical v) ≡ at layout q (Logical v)
  pub stripes : (i : ℕ) → i < stripes_of layout v → at layout f (Stripe v i) ≡ at layout q (Stripe v i)
  pub ranges : (r : ℕ) → r < 16 → at layout f (Range v r) ≡ at layout q (Range v r)

module _ {P : Type 0} (layout : Layout) (v : ℕ) where
  volume-values : (f : ℕ → Option (FilerParcel P)) (held : FilerVolume P) → VolumeIs layout v f (volume_parcels layout (Volume v) held)
      → volume_lens.of (contents_of layout f v) ≡ volume_set (stripes_of layout v) held
  volume-values f held is = λ j. record {
    logical = record {
      own = logical_in ((is.logical
          ∙ volume-logical layout v (number_of layout (Logical v)) held (omega arith) (omega arith)
          ∙ logical-own layout (Logical v) held.logical) j);
      stripes = each-same (λ i. stripe_in (at layout f (Stripe v i))) (λ i. stripe_value (placed held.logical.stripes.at i)) 0 (stripes_of layout v)
          (λ i low high. ap stripe_in
          (is.stripes i (omega arith)
          ∙ volume-logical layout v (number_of layout (Stripe v i)) held (omega arith) (omega arith)
          ∙ logical-stripe layout v i held.logical (omega arith))
          ∙ stripe-placed (slice_get held.logical.stripes.at i)) j;
    };
    ranges = each-same (λ r. range_in (at layout f (Range v r))) (λ r. range_value (placed held.vbn.ranges.at r)) 0 most_ranges
        (λ r low high. ap range_in
        (is.ranges r (omega arith)
        ∙ volume-vbn layout v (number_of layout (Range v r)) held (omega arith)
        ∙ vbn-range layout v r held.vbn (omega arith))
        ∙ range-placed (slice_get held.vbn.ranges.at r)) j;
  }

  volume-missing : (f : ℕ → Option (FilerParcel P)) → VolumeIs layout v f (λ k. None)
      → volume_lens.of (contents_of layout f v) ≡ volume_value {P = P} (stripes_of layout v) None
  volume-missing f is = λ j. record {
    logical = record {
      own = logical_in (is.logical j);
      stripes = each-same (λ i. stripe_in (at layout f (Stripe v i))) (λ i. no_stripe) 0 (stripes_of layout v)
          (λ i low high. ap stripe_in (is.stripes i (omega arith))) j;
    };
    ranges = each-same (λ r. range_in (at layout f (Range v r))) (λ r. no_range) 0 most_ranges
        (λ r low high. ap range_in (is.ranges r (omega arith))) j;
  }

  volume-in-place : (f : ℕ → Option (FilerParcel P)) (o : Option (Option (FilerVolume P)))
      → VolumeIs layout v f (λ k. in_slot (λ held. volume_parcels layout (Volume v) held k) o)
      → volume_lens.of (contents_of layout f v) ≡ volume_value (stripes_of layout v) (in_one o)
  volume-in-place f None is = volume-missing f is
  volume-in-place f (Some None) is = volume-missing f is
  volume-in-place f (Some (Some held)) is = volume-values f held is

-- of two choices by whether a volume is on it
chosen-same : {X : Type 0} (x y : ℕ) (p q : X) → (x ≡ y → p ≡ q) → (if x == y then Some p else None) ≡ (if x == y then Some q else None)
chosen-same x y p q same = by (x == y) (λ e. same (eqb-true x y e))
  where
    by : {X : Type 0} {p q : X} (b : Bool) → (b ≡ true → p ≡ q) → (if b then Some p else None) ≡ (if b then Some q else None)
    by true h = ap Some (h refl)
    by false h = refl

put-each : (h : ℕ → Option VolumeSet) (c : ℕ → VolumeContents) (from n : ℕ) → put_each (each h from n) (each c from n) ≡ each (λ v. put_if (h v) (c v)) from n
put-each h c from zero = refl
put-each h c from (suc n) = ap (λ rest. put_if (h from) (c from) ∷ rest) (put-each h c (from + 1) n)

-- a choice put in
put-chosen : (b : Bool) (new old : VolumeContents) → volume_lens.put (volume_lens.of new) old ≡ new → (b ≡ false → old ≡ new)
    → put_if (if b then Some (volume_lens.of new) else None) old ≡ new
put-chosen true new old e stays = e
put-chosen false new old e stays = stays refl

module _ {P : Type 0} (layout : Layout) (lawful : fault_of layout ≡ None) where
  -- a volume's nodes that have contents, where all of them are under a
  volume-is : (a : Affinity) (v : ℕ) → v < length layout.volumes → ((more : List ℕ) → begins (path layout a) (aggregate_of layout v ∷ v ∷ more) ≡ true)
      → (f q : ℕ → Option (FilerParcel P)) → AgreeUnder layout a f q → VolumeIs layout v f q
  volume-is a v on all f q same = record {
    logical = same (Logical v) (on, covers-cases layout a (Logical v) (all (0 ∷ [])));
    stripes = λ i less. same (Stripe v i) ((on, less), covers-cases layout a (Stripe v i) (all (0 ∷ i ∷ [])));
    ranges = λ r less. same (Range v r) ((on, less), covers-cases layout a (Range v r) (all (1 ∷ r ∷ [])));
  }

  pub volume-seen : (v : ℕ) (on : v < length layout.volumes) (held : FilerVolume P)
      → IsSeenBy layout (Volume v) (in_volume v volume_lens) (volume_parcels layout (Volume v) held) (volume_set (stripes_of layout v) held)
  volume-seen v on held =
      let a : Affinity = Volume v in
      let q : ℕ → Option (FilerParcel P) = volume_parcels layout a held in
      below-volume-seen layout lawful a on v on [] refl volume_lens q (volume_set (stripes_of layout v) held)
      (λ f same. volume-values layout v f held
      (volume-is a v on (λ more. begins-longer (path layout a) (path layout a) more (begins-self (path layout a))) f q same))
      (λ f g same. refl)

  -- ---- an aggregate

  -- a volume that is on it
  on-aggregate : (a v : ℕ) → v < length layout.volumes → aggregate_of layout v ≡ a → (held : FilerAggregate P) (f : ℕ → Option (FilerParcel P))
      → VolumeIs layout v f (aggregate_parcels layout (Aggregate a) held)
      → VolumeIs layout v f (λ k. in_slot (λ volume. volume_parcels layout (Volume v) volume k) (slice_get held.volumes.at v))
  on-aggregate a v on e held f is =
      let known = aggregate_known layout v lawful on in
      let found : (k : ℕ) → IsOfVolume layout v k → aggregate_parcels layout (Aggregate a) held k
      ≡ in_slot (λ volume. volume_parcels layout (Volume v) volume k) (slice_get held.volumes.at v) =
      λ k of. ap (λ (b : ℕ). aggregate_parcels layout (Aggregate b) held k) (sym e) ∙ aggregate-volume layout v k held on known of in
      record {
        logical = is.logical ∙ found (number_of layout (Logical v)) (omega arith, omega arith);
        stripes = λ i less. is.stripes i less ∙ found (number_of layout (Stripe v i)) (omega arith, omega arith);
        ranges = λ r less. is.ranges r less ∙ found (number_of layout (Range v r)) (omega arith, omega arith);
      }

  pub aggregate-seen : (a : ℕ) → a < length layout.spare → (held : FilerAggregate P)
      → IsSeenBy layout (Aggregate a) (aggregate_lens a) (aggregate_parcels layout (Aggregate a) held) (aggregate_set layout a held)
  aggregate-seen a less held =
      let node : Affinity = Aggregate a in
      let q : ℕ → Option (FilerParcel P) = aggregate_parcels layout node held in
      let count : ℕ = length layout.volumes in
      seen-by layout lawful node less (aggregate_lens a) q (aggregate_set layout a held)
      (λ f same. λ j. record {
        spare = (each-index (λ b. spare_in (at layout f (Aggregate b))) 0 (length layout.spare) a less
            ∙ ap spare_in (same node (below layout node node [] less refl) ∙ aggregate-own layout node held)) j;
        volumes = (each-map (set_on a) (contents_of layout f) 0 count
            ∙ each-same (λ v. set_on a (contents_of layout f v))
            (λ v. if aggregate_of layout v == a then Some (volume_placed layout (Some held) v) else None) 0 count
            (λ v low high. chosen-same (aggregate_of layout v) a (volume_lens.of (contents_of layout f v)) (volume_placed layout (Some held) v)
            (λ e. volume-in-place layout v f (slice_get held.volumes.at v) (on-aggregate a v (omega arith) e held f
            (volume-is node v (omega arith) (λ more. below-it a v e more) f q same))))) j;
      })
      (λ f g same. λ j. record {
        spare = (each-set (λ b. spare_in (at layout f (Aggregate b))) (λ b. spare_in (at layout g (Aggregate b))) (length layout.spare) a less
            (λ b l ne. ap spare_in (same (Aggregate b) l (λ h. ne (sym (way-step a b [] [] h).0))))
            ∙ ap (slice_set (each (λ b. spare_in (at layout f (Aggregate b))) 0 (length layout.spare)) a)
            (sym (each-index (λ b. spare_in (at layout g (Aggregate b))) 0 (length layout.spare) a less))) j;
        volumes = (each-same (contents_of layout g) (λ v. put_if (set_on a (contents_of layout g v)) (contents_of layout f v)) 0 count
            (λ v low high. sym (put-chosen (aggregate_of layout v == a) (contents_of layout g v) (contents_of layout f v) refl
            (λ e. sym (volume-stays layout node f g same v (omega arith)
            (λ more h. not-it a v e (way-step a (aggregate_of layout v) [] (v ∷ more) h).0)))))
            ∙ sym (put-each (λ v. set_on a (contents_of layout g v)) (contents_of layout f) 0 count)
            ∙ ap (λ sets. put_each sets (each (contents_of layout f) 0 count)) (sym (each-map (set_on a) (contents_of layout g) 0 count))) j;
      })
    where
      below-it : (a v : ℕ) → aggregate_of layout v ≡ a → (more : List ℕ) → begins (a ∷ []) (aggregate_of layout v ∷ v ∷ more) ≡ true
      below-it a v e more = ap (λ (x : ℕ). begins (x ∷ []) (aggregate_of layout v ∷ v ∷ more)) (sym e)
          ∙ begins-longer (aggregate_of layout v ∷ []) (aggregate_of layout v ∷ []) (v ∷ more) (begins-self (aggregate_of layout v ∷ []))

      not-it : (a v : ℕ) → (aggregate_of layout v == a) ≡ false → a ≡ aggregate_of layout v → ⊥
      not-it a v differs e = let same = eq-eqb (aggregate_of layout v) a (sym e) in cc

  -- ---- the root

  -- a volume's nodes in the parcels of the root
  on-serial : (v : ℕ) → v < length layout.volumes → (held : FilerSerial P) (f : ℕ → Option (FilerParcel P))
      → VolumeIs layout v f (serial_parcels layout Serial held)
      → VolumeIs layout v f (λ k. in_slot (λ aggregate. aggregate_parcels layout (Aggregate (aggregate_of layout v)) aggregate k)
      (slice_get held.aggregates.at (aggregate_of layout v)))
  on-serial v on held f is =
      let known = aggregate_known layout v lawful on in
      record {
        logical = is.logical ∙ serial-volume layout v (number_of layout (Logical v)) held on known (omega arith, omega arith);
        stripes = λ i less. is.stripes i less ∙ serial-volume layout v (number_of layout (Stripe v i)) held on known (omega arith, omega arith);
        ranges = λ r less. is.ranges r less ∙ serial-volume layout v (number_of layout (Range v r)) held on known (omega arith, omega arith);
      }

  volume-of-aggregate : (v : ℕ) → v < length layout.volumes → (f : ℕ → Option (FilerParcel P)) (o : Option (Option (FilerAggregate P)))
      → VolumeIs layout v f (λ k. in_slot (λ aggregate. aggregate_parcels layout (Aggregate (aggregate_of layout v)) aggregate k) o)
      → volume_lens.of (contents_of layout f v) ≡ volume_placed layout (in_one o) v
  volume-of-aggregate v on f None is = volume-missing layout v f is
  volume-of-aggregate v on f (Some None) is = volume-missing layout v f is
  volume-of-aggregate v on f (Some (Some held)) is =
      volume-in-place layout v f (slice_get held.volumes.at v) (on-aggregate (aggregate_of layout v) v on refl held f is)

  pub serial-seen : (held : FilerSerial P) → IsSeenBy layout Serial serial_lens (serial_parcels layout Serial held) (serial_set layout held)
  serial-seen held =
      let q : ℕ → Option (FilerParcel P) = serial_parcels layout Serial held in
      seen-by layout lawful Serial tt serial_lens q (serial_set layout held)
      (λ f same. λ j. record {
        spare = each-same (λ a. spare_in (at layout f (Aggregate a))) (λ a. spare_value (placed held.aggregates.at a)) 0 (length layout.spare)
            (λ a low high. ap spare_in (same (Aggregate a) (omega arith, covers-cases layout Serial (Aggregate a) refl)
            ∙ serial-aggregate layout a held (omega arith))
            ∙ spare-placed (slice_get held.aggregates.at a)) j;
        volumes = each-same (contents_of layout f)
            (λ v. volume_with layout v (volume_placed layout (placed held.aggregates.at (aggregate_of layout v)) v)) 0 (length layout.volumes)
            (λ v low high. ap (volume_with layout v) (volume-of-aggregate v (omega arith) f (slice_get held.aggregates.at (aggregate_of layout v))
            (on-serial v (omega arith) held f (volume-is Serial v (omega arith) (λ more. refl) f q same)))) j;
      })
      (λ f g same. refl)
