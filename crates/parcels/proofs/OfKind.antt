-- Parcels by their kinds.
use Rattle.std.proofs.Common.{◌≡◌, ℕ, Option, refl, ◌∙◌}
use Rattle.nfs_model.specs.Tree.{Layout, Affinity}
use Rattle.affinity.specs.declared.affinity.Kind.TheVariants as kinds
use Rattle.affinity.specs.Numbers.{number_of}
use Rattle.parcels.specs.Exact.{kind_in, HasParcel}
use Rattle.parcels.specs.declared.family.Parcel.{Parcel}
use Rattle.parcels.specs.declared.family.Parcel.TheVariants.{Range, Vbn, Stripe, Logical, Volume, Aggregate, Serial}

module _ {P R B S L V A X : Type 0} where
  pub is_range : (x : Parcel P R B S L V A X) → kind_in x ≡ kinds.Range → ((y : R) → x ≡ Range y → ⊥) → ⊥
  is_range (Range y) e n = n y refl
  is_range _ e n = cc

  pub is_stripe : (x : Parcel P R B S L V A X) → kind_in x ≡ kinds.Stripe → ((y : S) → x ≡ Stripe y → ⊥) → ⊥
  is_stripe (Stripe y) e n = n y refl
  is_stripe _ e n = cc

  pub is_vbn : (x : Parcel P R B S L V A X) → kind_in x ≡ kinds.VolumeVbn → ((y : B) → x ≡ Vbn y → ⊥) → ⊥
  is_vbn (Vbn y) e n = n y refl
  is_vbn _ e n = cc

  pub is_logical : (x : Parcel P R B S L V A X) → kind_in x ≡ kinds.VolumeLogical → ((y : L) → x ≡ Logical y → ⊥) → ⊥
  is_logical (Logical y) e n = n y refl
  is_logical _ e n = cc

  pub is_volume : (x : Parcel P R B S L V A X) → kind_in x ≡ kinds.Volume → ((y : V) → x ≡ Volume y → ⊥) → ⊥
  is_volume (Volume y) e n = n y refl
  is_volume _ e n = cc

  pub is_aggregate : (x : Parcel P R B S L V A X) → kind_in x ≡ kinds.Aggregate → ((y : A) → x ≡ Aggregate y → ⊥) → ⊥
  is_aggregate (Aggregate y) e n = n y refl
  is_aggregate _ e n = cc

  pub is_serial : (x : Parcel P R B S L V A X) → kind_in x ≡ kinds.Serial → ((y : X) → x ≡ Serial y → ⊥) → ⊥
  is_serial (Serial y) e n = n y refl
  is_serial _ e n = cc

  pub has_kept : (layout : Layout) (f g : ℕ → Option (Parcel P R B S L V A X)) (node : Affinity)
      → g (number_of layout node) ≡ f (number_of layout node) → HasParcel layout f node → HasParcel layout g node
  has_kept layout f g node e has = (has.0, e ∙ has.1, has.2)
