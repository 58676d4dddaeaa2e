-- The kind of node that a set is of.
use Rattle.std.proofs.Common.{◌≡◌, ℕ, Option, Some, refl, sym, ap, ◌∙◌, inl}
use Rattle.nfs_model.specs.Tree.{Layout, Affinity}
use Rattle.affinity.specs.declared.affinity.Kind.TheVariants as kinds
use Rattle.affinity.specs.Affinity.{kind_of}
use Rattle.affinity.specs.Tree.{IsNode}
use Rattle.affinity.specs.Numbers.{number_of}
use Rattle.parcels.specs.Exact.{kind_in, HasExactly}
use Rattle.parcels.specs.lemmas.At.{range-own, vbn-own, stripe-own, logical-own, volume-own, aggregate-own, serial-own}
use Rattle.parcels.specs.Sets.{range_parcels, vbn_parcels, stripe_parcels, logical_parcels, volume_parcels, aggregate_parcels, serial_parcels}
use Rattle.parcels.specs.declared.family.Parcel.{Parcel}
use Rattle.parcels.specs.declared.family.Parcel.TheVariants.{Range, Vbn, Stripe, Logical, Volume, Aggregate, Serial}
use Rattle.parcels.specs.declared.sets.RangeHeld.{RangeHeld}
use Rattle.parcels.specs.declared.sets.VbnHeld.{VbnHeld}
use Rattle.parcels.specs.declared.sets.StripeHeld.{StripeHeld}
use Rattle.parcels.specs.declared.sets.LogicalHeld.{LogicalHeld}
use Rattle.parcels.specs.declared.sets.VolumeHeld.{VolumeHeld}
use Rattle.parcels.specs.declared.sets.AggrHeld.{AggrHeld}
use Rattle.parcels.specs.declared.sets.SerialHeld.{SerialHeld}

same-inside : {T : Type 0} (x y : T) → Some x ≡ Some y → x ≡ y
same-inside x y e = cc

module _ {P R B S L V A X : Type 0} (layout : Layout) (a : Affinity) where
  -- a set whose own parcel is of a kind
  kind-here : (f : ℕ → Option (Parcel P R B S L V A X)) (p : Parcel P R B S L V A X) → IsNode layout a → HasExactly kind_in layout a f
      → f (number_of layout a) ≡ Some p → kind_of a ≡ kind_in p
  kind-here f p node exact at =
      let own = exact.each a (node, inl refl) in
      sym own.2 ∙ ap kind_in (same-inside own.0 p (sym own.1 ∙ at))

  pub range-kind : (held : RangeHeld P R B S L V A X) → IsNode layout a → HasExactly kind_in layout a (range_parcels layout a held) → kind_of a ≡ kinds.Range
  range-kind held node exact = kind-here (range_parcels layout a held) (Range held.own) node exact (range-own layout a held)

  pub stripe-kind : (held : StripeHeld P R B S L V A X) → IsNode layout a → HasExactly kind_in layout a (stripe_parcels layout a held)
      → kind_of a ≡ kinds.Stripe
  stripe-kind held node exact = kind-here (stripe_parcels layout a held) (Stripe held.own) node exact (stripe-own layout a held)

  pub vbn-kind : (held : VbnHeld P R B S L V A X) → IsNode layout a → HasExactly kind_in layout a (vbn_parcels layout a held) → kind_of a ≡ kinds.VolumeVbn
  vbn-kind held node exact = kind-here (vbn_parcels layout a held) (Vbn held.own) node exact (vbn-own layout a held)

  pub logical-kind : (held : LogicalHeld P R B S L V A X) → IsNode layout a → HasExactly kind_in layout a (logical_parcels layout a held)
      → kind_of a ≡ kinds.VolumeLogical
  logical-kind held node exact = kind-here (logical_parcels layout a held) (Logical held.own) node exact (logical-own layout a held)

  pub volume-kind : (held : VolumeHeld P R B S L V A X) → IsNode layout a → HasExactly kind_in layout a (volume_parcels layout a held)
      → kind_of a ≡ kinds.Volume
  volume-kind held node exact = kind-here (volume_parcels layout a held) (Volume held.own) node exact (volume-own layout a held)

  pub aggregate-kind : (held : AggrHeld P R B S L V A X) → IsNode layout a → HasExactly kind_in layout a (aggregate_parcels layout a held)
      → kind_of a ≡ kinds.Aggregate
  aggregate-kind held node exact = kind-here (aggregate_parcels layout a held) (Aggregate held.own) node exact (aggregate-own layout a held)

  pub serial-kind : (held : SerialHeld P R B S L V A X) → IsNode layout a → HasExactly kind_in layout a (serial_parcels layout a held)
      → kind_of a ≡ kinds.Serial
  serial-kind held node exact = kind-here (serial_parcels layout a held) (Serial held.own) node exact (serial-own layout a held)
