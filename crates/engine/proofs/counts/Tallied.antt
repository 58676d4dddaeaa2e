-- The counts taken anew are right of what is stored with the parcels of a node put in.
use Rattle.std.proofs.Common.{◌≡◌, ℕ, zero, suc, ◌+◌, ◌==◌, Bool, true, false, List, [], ◌∷◌, length, map, Option, Some, None, refl, sym, ap, ◌∙◌}
use Rattle.std.proofs.Common.{subst}
use Rattle.std.specs.Prelude.{◌*◌, slice_get, slice_set, if◌then◌else◌}
use Rattle.std.specs.Global.{Vec}
use Rattle.std.specs.Ordering.{nat_cmp}
use Rattle.std.specs.FinSet.{len-empty}
use Rattle.nfs_model.specs.Tree.{Layout, Affinity, Serial, Aggregate, Volume, Logical, Stripe, Vbn, Range, stripes_of, aggregate_of}
use Rattle.nfs_model.specs.World.{changed_at}
use Rattle.nfs_laws.specs.Sizes.{HaveSizes}
use Rattle.affinity.specs.declared.affinity.Kind.TheVariants as kinds
use Rattle.affinity.specs.Affinity.{kind_of}
use Rattle.affinity.specs.Fault.{fault_of}
use Rattle.affinity.specs.Tree.{IsNode}
use Rattle.affinity.specs.Numbers.{number_of, parents}
use Rattle.depot_rule.specs.History.{patched}
use Rattle.parcels.specs.Sets.{stripe_parcels, logical_parcels, volume_parcels, aggregate_parcels, serial_parcels}
use Rattle.filer_state.specs.state.Parcels.{FilerParcel}
use Rattle.filer_state.specs.state.Contents.{VolumeContents, FilerContents, volume_at, each, filer_contents}
use Rattle.filer_state.specs.state.Lenses.{LogicalSet, VolumeSet, logical_lens, volume_lens, stripe_lens, in_volume, with_contents}
use Rattle.filer_state.specs.state.Lenses.{volume_or_none, put_if, put_each}
use Rattle.filer_state.specs.state.Sets.{FilerStripe, FilerLogical, FilerVolume, FilerAggregate, FilerSerial, logical_set, volume_set}
use Rattle.filer_state.specs.state.Sets.{placed, volume_value, volume_placed, volume_with}
use Rattle.filer_state.specs.state.Tree.{server_of, ranges_used}
use Rattle.filer_state.specs.laws.lemmas.Each.{each-map}
use Rattle.filer_state.specs.laws.lemmas.LayoutSizes.{contents-sized}
use Rattle.filer_state.specs.laws.lemmas.SeenSets.{stripe-seen, logical-seen, volume-seen, aggregate-seen, serial-seen}
use Rattle.engine.specs.declared.counts.counts.VolumeCounts.{VolumeCounts}
use Rattle.engine.specs.counts.Counts.{counted, IsCounted, AreSized, counts_of, counts_in, with_logical, with_set, if_on, in_whole, recounted}
use Rattle.engine.specs.counts.Counts.{HasCounted}
use Rattle.engine.specs.counts.lemmas.Happening.{set-there}
use Rattle.engine.proofs.counts.Recounted.{recounted-all}

-- ---- lists

-- a volume that changes, counted
changed-counted : (h : VolumeContents → VolumeContents) (k : VolumeCounts → VolumeCounts) (volumes : List VolumeContents) (v : ℕ)
    → ((p : VolumeContents) → slice_get volumes v ≡ Some p → counted (h p) ≡ k (counted p))
    → changed_at k (map counted volumes) v ≡ map counted (slice_set volumes v (h (volume_or_none (slice_get volumes v))))
changed-counted h k [] v same = refl
changed-counted h k (p ∷ volumes) zero same = ap (λ c. c ∷ map counted volumes) (sym (same p refl))
changed-counted h k (p ∷ volumes) (suc v) same = ap (λ rest. counted p ∷ rest) (changed-counted h k volumes v same)

-- where something else is put in under Logical a range has as many blocks as before: those that the layout says
kept-size : (layout : Layout) (c : FilerContents) (v : ℕ) (set : LogicalSet) → HaveSizes layout (server_of c)
    → HaveSizes layout (server_of ((in_volume v logical_lens).put set c)) → (p : VolumeContents) → volume_at c v ≡ Some p
    → set.own.dead.range_blocks ≡ p.logical.dead.range_blocks
kept-size layout c v set before after p there =
    let q : VolumeContents = logical_lens.put set (volume_or_none (volume_at c v)) in
    contents-sized layout (with_contents c v q) after v q (set-there c.volumes v q p there) ∙ sym (contents-sized layout c before v p there)

unchanged : {A : Type 0} (xs : List A) (i : ℕ) → changed_at (λ x. x) xs i ≡ xs
unchanged [] i = refl
unchanged (x ∷ xs) zero = refl
unchanged (x ∷ xs) (suc i) = ap (λ rest. x ∷ rest) (unchanged xs i)

-- volumes that are put in, counted
put-counted : (s : ℕ → Option VolumeSet) (h : ℕ → VolumeCounts → VolumeCounts)
    → ((v : ℕ) (p : VolumeContents) → counted (put_if (s v) p) ≡ h v (counted p)) → (from n : ℕ) (volumes : List VolumeContents)
    → recounted h from n (map counted volumes) ≡ map counted (put_each (each s from n) volumes)
put-counted s h same from zero volumes = refl
put-counted s h same from (suc n) [] = refl
put-counted s h same from (suc n) (p ∷ volumes) = λ j. sym (same from p) j ∷ put-counted s h same (from + 1) n volumes j

-- one that is chosen
put-chosen : (b : Bool) (set : VolumeSet) (p : VolumeContents)
    → counted (put_if (if b then Some set else None) p) ≡ (if b then counts_in set else counted p)
put-chosen true set p = refl
put-chosen false set p = refl

-- where there is no volume there are no blocks
pub no-blocks : (stripes : ℕ) → record { files = 0; stock = 0; dead = 0; total = 0 } ≡ counts_in (volume_value {P = Unit {0}} stripes None)
no-blocks stripes = λ j. record { files = 0; stock = sym (len-empty nat_cmp) j; dead = sym (len-empty nat_cmp) j; total = 0 }

-- ---- nodes

module _ {P : Type 0} (layout : Layout) (lawful : fault_of layout ≡ None) where
  -- what the counts come to, by what is stored after it
  by-contents : (a : Affinity) (parcels : ℕ → Option (FilerParcel P)) (counts : List VolumeCounts) (new : Vec VolumeCounts)
      → ((g : ℕ → Option (FilerParcel P)) → AreSized layout g → AreSized layout (patched (parents layout) (number_of layout a) parcels g)
      → IsCounted layout counts g
      → new.items ≡ map counted (filer_contents layout (patched (parents layout) (number_of layout a) parcels g)).volumes)
      → HasCounted counts layout a parcels new parcels
  by-contents a parcels counts new right = ((λ k. refl), right)

  logical-at : (v : ℕ) → IsNode layout (Logical v) → (held : FilerLogical P) (counts : List VolumeCounts) (new : Vec VolumeCounts)
      → new.items ≡ changed_at (with_logical held.own) counts v
      → HasCounted counts layout (Logical v) (logical_parcels layout (Logical v) held) new (logical_parcels layout (Logical v) held)
  logical-at v on held counts new e = by-contents (Logical v) (logical_parcels layout (Logical v) held) counts new (λ g before after is.
      let set : LogicalSet = logical_set (stripes_of layout v) held in
      let put = (logical-seen layout lawful v on held).put g in
      e ∙ ap (λ ks. changed_at (with_logical held.own) ks v) is
      ∙ changed-counted (logical_lens.put set) (with_logical held.own) (filer_contents layout g).volumes v
      (λ p there. ap (λ (size : ℕ). counts_of held.own (size * ranges_used p.ranges))
      (kept-size layout (filer_contents layout g) v set before (subst (λ (c : FilerContents). HaveSizes layout (server_of c)) put after) p there))
      ∙ ap (λ (c : FilerContents). map counted c.volumes) (sym put))

  pub logical-tallied : (v : ℕ) (a : Affinity) → a ≡ Logical v → IsNode layout a → (held : FilerLogical P) (counts : List VolumeCounts)
      (new : Vec VolumeCounts) → new.items ≡ changed_at (with_logical held.own) counts v
      → HasCounted counts layout a (logical_parcels layout a held) new (logical_parcels layout a held)
  logical-tallied v a is on held counts new e =
      subst (λ (b : Affinity). IsNode layout b → HasCounted counts layout b (logical_parcels layout b held) new (logical_parcels layout b held)) (sym is)
      (λ there. logical-at v there held counts new e) on

  volume-at : (v : ℕ) → IsNode layout (Volume v) → (held : FilerVolume P) (counts : List VolumeCounts) (new : Vec VolumeCounts)
      → new.items ≡ changed_at (with_set held) counts v
      → HasCounted counts layout (Volume v) (volume_parcels layout (Volume v) held) new (volume_parcels layout (Volume v) held)
  volume-at v on held counts new e = by-contents (Volume v) (volume_parcels layout (Volume v) held) counts new (λ g before after is.
      e ∙ ap (λ ks. changed_at (with_set held) ks v) is
      ∙ changed-counted (volume_lens.put (volume_set (stripes_of layout v) held)) (with_set held) (filer_contents layout g).volumes v (λ p there. refl)
      ∙ ap (λ (c : FilerContents). map counted c.volumes) (sym ((volume-seen layout lawful v on held).put g)))

  pub volume-tallied : (v : ℕ) (a : Affinity) → a ≡ Volume v → IsNode layout a → (held : FilerVolume P) (counts : List VolumeCounts)
      (new : Vec VolumeCounts) → new.items ≡ changed_at (with_set held) counts v
      → HasCounted counts layout a (volume_parcels layout a held) new (volume_parcels layout a held)
  volume-tallied v a is on held counts new e =
      subst (λ (b : Affinity). IsNode layout b → HasCounted counts layout b (volume_parcels layout b held) new (volume_parcels layout b held)) (sym is)
      (λ there. volume-at v there held counts new e) on

  -- under a stripe nothing is counted
  stripe-at : (v i : ℕ) → IsNode layout (Stripe v i) → (held : FilerStripe P) (counts : List VolumeCounts) (new : Vec VolumeCounts) → new.items ≡ counts
      → HasCounted counts layout (Stripe v i) (stripe_parcels layout (Stripe v i) held) new (stripe_parcels layout (Stripe v i) held)
  stripe-at v i on held counts new e = by-contents (Stripe v i) (stripe_parcels layout (Stripe v i) held) counts new (λ g before after is.
      e ∙ is ∙ sym (unchanged (map counted (filer_contents layout g).volumes) v)
      ∙ changed-counted ((stripe_lens i).put held.own) (λ c. c) (filer_contents layout g).volumes v (λ p there. refl)
      ∙ ap (λ (c : FilerContents). map counted c.volumes) (sym ((stripe-seen layout lawful v on.0 i on.1 held).put g)))

  pub stripe-tallied : (a : Affinity) → kind_of a ≡ kinds.Stripe → IsNode layout a → (held : FilerStripe P) (counts : List VolumeCounts)
      (new : Vec VolumeCounts) → new.items ≡ counts → HasCounted counts layout a (stripe_parcels layout a held) new (stripe_parcels layout a held)
  stripe-tallied Serial is on held counts new e = absurd cc
  stripe-tallied (Aggregate a) is on held counts new e = absurd cc
  stripe-tallied (Volume v) is on held counts new e = absurd cc
  stripe-tallied (Logical v) is on held counts new e = absurd cc
  stripe-tallied (Stripe v i) is on held counts new e = stripe-at v i on held counts new e
  stripe-tallied (Vbn v) is on held counts new e = absurd cc
  stripe-tallied (Range v r) is on held counts new e = absurd cc

  aggregate-at : (a : ℕ) → IsNode layout (Aggregate a) → (held : FilerAggregate P) (counts : List VolumeCounts) (new : Vec VolumeCounts)
      → new.items ≡ recounted (if_on layout a held) 0 (length layout.volumes) counts
      → HasCounted counts layout (Aggregate a) (aggregate_parcels layout (Aggregate a) held) new (aggregate_parcels layout (Aggregate a) held)
  aggregate-at a on held counts new e = by-contents (Aggregate a) (aggregate_parcels layout (Aggregate a) held) counts new (λ g before after is.
      e ∙ ap (recounted (if_on layout a held) 0 (length layout.volumes)) is
      ∙ put-counted (λ v. if aggregate_of layout v == a then Some (volume_placed layout (Some held) v) else None) (if_on layout a held)
      (λ v p. put-chosen (aggregate_of layout v == a) (volume_placed layout (Some held) v) p) 0 (length layout.volumes) (filer_contents layout g).volumes
      ∙ ap (λ (c : FilerContents). map counted c.volumes) (sym ((aggregate-seen layout lawful a on held).put g)))

  pub aggregate-tallied : (n : ℕ) (a : Affinity) → a ≡ Aggregate n → IsNode layout a → (held : FilerAggregate P) (counts : List VolumeCounts)
      (new : Vec VolumeCounts) → new.items ≡ recounted (if_on layout n held) 0 (length layout.volumes) counts
      → HasCounted counts layout a (aggregate_parcels layout a held) new (aggregate_parcels layout a held)
  aggregate-tallied n a is on held counts new e =
      subst (λ (b : Affinity). IsNode layout b → HasCounted counts layout b (aggregate_parcels layout b held) new (aggregate_parcels layout b held)) (sym is)
      (λ there. aggregate-at n there held counts new e) on

  serial-at : (held : FilerSerial P) (counts : List VolumeCounts) (new : Vec VolumeCounts)
      → new.items ≡ recounted (in_whole layout held) 0 (length layout.volumes) counts → length counts ≡ length layout.volumes
      → HasCounted counts layout Serial (serial_parcels layout Serial held) new (serial_parcels layout Serial held)
  serial-at held counts new e long = by-contents Serial (serial_parcels layout Serial held) counts new (λ g before after is.
      let set : ℕ → VolumeSet = λ v. volume_placed layout (placed held.aggregates.at (aggregate_of layout v)) v in
      e ∙ recounted-all (λ v. counts_in (set v)) 0 (length layout.volumes) counts long
      ∙ sym (each-map counted (λ (v : ℕ). volume_with layout v (set v)) 0 (length layout.volumes))
      ∙ ap (λ (c : FilerContents). map counted c.volumes) (sym ((serial-seen layout lawful held).put g)))

  pub serial-tallied : (a : Affinity) → kind_of a ≡ kinds.Serial → (held : FilerSerial P) (counts : List VolumeCounts) (new : Vec VolumeCounts)
      → new.items ≡ recounted (in_whole layout held) 0 (length layout.volumes) counts → length counts ≡ length layout.volumes
      → HasCounted counts layout a (serial_parcels layout a held) new (serial_parcels layout a held)
  serial-tallied Serial is held counts new e long = serial-at held counts new e long
  serial-tallied (Aggregate n) is held counts new e long = absurd cc
  serial-tallied (Volume v) is held counts new e long = absurd cc
  serial-tallied (Logical v) is held counts new e long = absurd cc
  serial-tallied (Stripe v i) is held counts new e long = absurd cc
  serial-tallied (Vbn v) is held counts new e long = absurd cc
  serial-tallied (Range v r) is held counts new e long = absurd cc
