-- For each kind of node: what a call is granted of a sound filer is a part of some sound whole.
use Rattle.std.proofs.Common.{◌≡◌, ℕ, ◌<◌, List, [], length, Option, None, refl, sym, ap, ◌∙◌, subst, arith}
use Rattle.nfs_model.specs.Tree.{Layout, Affinity, Serial, Aggregate, Volume, Logical, Stripe, Vbn, Range, stripes_of}
use Rattle.nfs_model.specs.Parts.{Hand}
use Rattle.affinity.specs.Fault.{fault_of}
use Rattle.affinity.specs.Numbers.{parents}
use Rattle.affinity.specs.lemmas.Alike.{alike}
use Rattle.parcels.specs.Sets.{range_parcels, vbn_parcels, stripe_parcels, logical_parcels, volume_parcels, aggregate_parcels, serial_parcels}
use Rattle.depot_rule.specs.Shares.{too_many}
use Rattle.filer_state.specs.state.Parcels.{FilerParcel}
use Rattle.filer_state.specs.state.Contents.{VolumeContents, FilerContents, filer_contents}
use Rattle.filer_state.specs.state.Sound.{IsFiler, AreSound}
use Rattle.filer_state.specs.state.Lenses.{Lens, LogicalSet, VolumeSet, stripe_lens, range_lens, vbn_lens, logical_lens, volume_lens, in_volume, volume_or_none}
use Rattle.filer_state.specs.state.Lenses.{aggregate_lens, serial_lens}
use Rattle.filer_state.specs.state.Promises.{HasAll, HasVolume, IsSeenBy}
use Rattle.filer_state.specs.state.Running.{AreUnder, HasFiler}
use Rattle.filer_state.specs.state.Sets.{FilerRange, FilerStripe, FilerVbn, FilerLogical, FilerVolume, FilerAggregate, FilerSerial}
use Rattle.filer_state.specs.state.Sets.{vbn_set, logical_set, volume_set, logical_before, volume_before, aggregate_set, serial_set}
use Rattle.filer_state.specs.laws.lemmas.Alike.{filer-same}
use Rattle.filer_state.specs.laws.lemmas.SeenSets.{stripe-seen, range-seen, vbn-seen, logical-seen, volume-seen, aggregate-seen, serial-seen}
use Rattle.filer_state.specs.laws.lemmas.Steps.{laid-out, get-some}

-- parcels that a sound filer has under a node
pub filer-has : {P : Type 0} (layout : Layout) (node : Affinity) (f g : ℕ → Option (FilerParcel P)) (hands : List Hand) (made : ℕ)
    → IsFiler (parents layout) g hands made → made < too_many → AreUnder layout node f g → HasFiler layout node [] f
filer-has layout node f g hands made good low under =
    let same = alike good.0 layout good.1.1 in (
      g,
      hands,
      hands,
      made,
      under,
      low,
      (λ weigh. refl),
      subst (λ (c : FilerContents). AreSound c hands made) (filer-same good.0 layout same g) good.2,
    )

-- the part of all that is stored that they are
seen-has : {P S : Type 0} (layout : Layout) (node : Affinity) (lens : Lens FilerContents S) (parcels : ℕ → Option (FilerParcel P)) (set : S)
    → IsSeenBy layout node lens parcels set → (given : List Hand) → HasFiler layout node given parcels → HasAll layout lens given set
seen-has layout node lens parcels set seen given h = (filer_contents layout h.0, h.1, h.2, h.3, seen.has h.0 h.4, laid-out layout h.0, h.5, h.6, h.7)

-- a part of a volume
volume-has-part : {S : Type 0} (layout : Layout) (v : ℕ) → v < length layout.volumes → (lens : Lens VolumeContents S) (given : List Hand) (set : S)
    → HasAll layout (in_volume v lens) given set → HasVolume v lens given set
volume-has-part layout v on lens given set h =
    let found = get-some h.0.volumes v (let count = h.5.volumes in omega arith) in
    let s = h.8 v found.0 found.1 in
    (found.0, h.1, h.2, h.3, ap (λ o. lens.of (volume_or_none o)) (sym found.1) ∙ h.4, s.0, h.6, h.7, s.1)

-- a sound volume has as many stripes as its layout says
striped : {S : Type 0} (layout : Layout) (v : ℕ) → v < length layout.volumes → (lens : Lens VolumeContents S) (given : List Hand) (set : S) (stripes : S → ℕ)
    → ((p : VolumeContents) → stripes (lens.of p) ≡ p.logical.stripes) → HasAll layout (in_volume v lens) given set → stripes set ≡ stripes_of layout v
striped layout v on lens given set stripes is h =
    let found = get-some h.0.volumes v (let count = h.5.volumes in omega arith) in
    let s = h.8 v found.0 found.1 in
    ap stripes (sym h.4 ∙ ap (λ o. lens.of (volume_or_none o)) found.1) ∙ is found.0 ∙ sym s.1.well_formed.as_many ∙ (h.5.volume v found.0 found.1).1

module _ {P : Type 0} (layout : Layout) (lawful : fault_of layout ≡ None) (given : List Hand) where
  module _ (v : ℕ) (on : v < length layout.volumes) where
    pub stripe-has : (i : ℕ) → i < stripes_of layout v → (held : FilerStripe P)
        → HasFiler layout (Stripe v i) given (stripe_parcels layout (Stripe v i) held) → HasVolume v (stripe_lens i) given held.own
    stripe-has i less held h = volume-has-part layout v on (stripe_lens i) given held.own
        (seen-has layout (Stripe v i) (in_volume v (stripe_lens i)) (stripe_parcels layout (Stripe v i) held) held.own
        (stripe-seen layout lawful v on i less held) given h)

    pub range-has : (r : ℕ) → r < 16 → (held : FilerRange P)
        → HasFiler layout (Range v r) given (range_parcels layout (Range v r) held) → HasVolume v (range_lens r) given held.own
    range-has r less held h = volume-has-part layout v on (range_lens r) given held.own
        (seen-has layout (Range v r) (in_volume v (range_lens r)) (range_parcels layout (Range v r) held) held.own
        (range-seen layout lawful v on r less held) given h)

    pub vbn-has : (held : FilerVbn P) → HasFiler layout (Vbn v) given (vbn_parcels layout (Vbn v) held) → HasVolume v vbn_lens given (vbn_set held)
    vbn-has held h = volume-has-part layout v on vbn_lens given (vbn_set held)
        (seen-has layout (Vbn v) (in_volume v vbn_lens) (vbn_parcels layout (Vbn v) held) (vbn_set held) (vbn-seen layout lawful v on held) given h)

    pub logical-has : (held : FilerLogical P) → HasFiler layout (Logical v) given (logical_parcels layout (Logical v) held)
        → (held.own.stripes ≡ stripes_of layout v) × HasVolume v logical_lens given (logical_before held)
    logical-has held h =
        let all = seen-has layout (Logical v) (in_volume v logical_lens) (logical_parcels layout (Logical v) held) (logical_set (stripes_of layout v) held)
        (logical-seen layout lawful v on held) given h in
        let own : held.own.stripes ≡ stripes_of layout v =
        striped layout v on logical_lens given (logical_set (stripes_of layout v) held) (λ (s : LogicalSet). s.own.stripes) (λ p. refl) all in (
          own,
          subst (λ (n : ℕ). HasVolume v logical_lens given (logical_set n held)) (sym own)
              (volume-has-part layout v on logical_lens given (logical_set (stripes_of layout v) held) all),
        )

    pub volume-has : (held : FilerVolume P) → HasFiler layout (Volume v) given (volume_parcels layout (Volume v) held)
        → (held.logical.own.stripes ≡ stripes_of layout v) × HasVolume v volume_lens given (volume_before held)
    volume-has held h =
        let all = seen-has layout (Volume v) (in_volume v volume_lens) (volume_parcels layout (Volume v) held) (volume_set (stripes_of layout v) held)
        (volume-seen layout lawful v on held) given h in
        let own : held.logical.own.stripes ≡ stripes_of layout v =
        striped layout v on volume_lens given (volume_set (stripes_of layout v) held) (λ (s : VolumeSet). s.logical.own.stripes) (λ p. refl) all in (
          own,
          subst (λ (n : ℕ). HasVolume v volume_lens given (volume_set n held)) (sym own)
              (volume-has-part layout v on volume_lens given (volume_set (stripes_of layout v) held) all),
        )

  pub aggregate-has : (a : ℕ) → a < length layout.spare → (held : FilerAggregate P)
      → HasFiler layout (Aggregate a) given (aggregate_parcels layout (Aggregate a) held) → HasAll layout (aggregate_lens a) given (aggregate_set layout a held)
  aggregate-has a less held h =
      seen-has layout (Aggregate a) (aggregate_lens a) (aggregate_parcels layout (Aggregate a) held) (aggregate_set layout a held)
      (aggregate-seen layout lawful a less held) given h

  pub serial-has : (held : FilerSerial P) → HasFiler layout Serial given (serial_parcels layout Serial held)
      → HasAll layout serial_lens given (serial_set layout held)
  serial-has held h = seen-has layout Serial serial_lens (serial_parcels layout Serial held) (serial_set layout held) (serial-seen layout lawful held) given h
