-- How what is stored changes with the parcels of a node: what is under the node is as the parcels say, and the rest stays.
use Rattle.std.proofs.Common.{◌≡◌, ℕ, ◌<◌, true, false, ◌&&◌, List, [], ◌∷◌, length, Option, None, sym, ap, ◌∙◌, arith, eqb}
use Rattle.std.specs.Prelude.{slice_set}
use Rattle.std.proofs.lemmas.Bool.{and_parts, eqb-true}
use Rattle.nfs_model.specs.Tree.{Layout, Affinity, Aggregate, Logical, Stripe, Range, path, begins, stripes_of, aggregate_of}
use Rattle.nfs_model.specs.Parts.{most_ranges}
use Rattle.affinity.specs.Fault.{fault_of}
use Rattle.affinity.specs.Tree.{IsNode, covers}
use Rattle.affinity.specs.Under.{IsUnder}
use Rattle.affinity.specs.Numbers.{number_of, parents}
use Rattle.affinity.specs.lemmas.Sharing.{covers_from}
use Rattle.affinity.specs.lemmas.Standing.{covers-under, under-number}
use Rattle.depot_rule.specs.History.{patched}
use Rattle.depot_rule.specs.lemmas.Covering.{patched-in, patched-out}
use Rattle.filer_state.specs.state.Parcels.{FilerParcel}
use Rattle.filer_state.specs.state.Contents.{VolumeContents, FilerContents, each, logical_in, stripe_in, range_in, spare_in, at, contents_of, volume_at}
use Rattle.filer_state.specs.state.Contents.{filer_contents}
use Rattle.filer_state.specs.state.Lenses.{Lens, in_volume, volume_or_none}
use Rattle.filer_state.specs.state.Promises.{IsSeenBy}
use Rattle.filer_state.specs.laws.lemmas.Each.{each-same, each-set, each-get}

module _ {P : Type 0} (layout : Layout) (a : Affinity) where
  -- the same parcels under a, and the same parcels at all other nodes
  abbrev pub AgreeUnder : (ℕ → Option (FilerParcel P)) → (ℕ → Option (FilerParcel P)) → Type 0
  AgreeUnder f g = (b : Affinity) → IsUnder layout a b → at layout f b ≡ at layout g b

  abbrev pub AgreeElsewhere : (ℕ → Option (FilerParcel P)) → (ℕ → Option (FilerParcel P)) → Type 0
  AgreeElsewhere f g = (b : Affinity) → IsNode layout b → (covers layout a b ≡ true → ⊥) → at layout f b ≡ at layout g b

module _ {P S : Type 0} (layout : Layout) (lawful : fault_of layout ≡ None) (a : Affinity) (there : IsNode layout a) (lens : Lens FilerContents S) where
  -- what makes a lens
  pub seen-by : (parcels : ℕ → Option (FilerParcel P)) (set : S)
      → ((f : ℕ → Option (FilerParcel P)) → AgreeUnder layout a f parcels → lens.of (filer_contents layout f) ≡ set)
      → ((f g : ℕ → Option (FilerParcel P)) → AgreeElsewhere layout a g f
      → filer_contents layout g ≡ lens.put (lens.of (filer_contents layout g)) (filer_contents layout f))
      → IsSeenBy layout a lens parcels set
  seen-by parcels set under elsewhere =
      let ps : List ℕ = parents layout in
      let n : ℕ = number_of layout a in
      record {
        has = λ f same. under f (λ b below. same (number_of layout b) (covers-under layout lawful a b there below));
        put = λ f.
            let g : ℕ → Option (FilerParcel P) = patched ps n parcels f in
            elsewhere f g (λ b node out. patched-out ps n parcels f (number_of layout b)
            (λ c. out (covers_from layout a b (under-number layout lawful a b there node c).1)))
            ∙ ap (λ s. lens.put s (filer_contents layout f))
            (under g (λ b below. patched-in ps n parcels f (number_of layout b) (covers-under layout lawful a b there below)));
      }

-- ---- a node below a volume

second-same : (x v y w : ℕ) (r q : List ℕ) → begins (x ∷ v ∷ r) (y ∷ w ∷ q) ≡ true → v ≡ w
second-same x v y w r q h =
    let one = and_parts (eqb x y) (eqb v w && begins r q) h in
    eqb-true v w (and_parts (eqb v w) (begins r q) one.1).0

not-shorter : (x v y : ℕ) (r : List ℕ) → begins (x ∷ v ∷ r) (y ∷ []) ≡ true → ⊥
not-shorter x v y r h = let one = and_parts (eqb x y) false h in cc

-- a volume stays where none of its nodes is under a
pub volume-stays : {P : Type 0} (layout : Layout) (a : Affinity) (f g : ℕ → Option (FilerParcel P)) → AgreeElsewhere layout a g f
    → (w : ℕ) → w < length layout.volumes → ((more : List ℕ) → begins (path layout a) (aggregate_of layout w ∷ w ∷ more) ≡ true → ⊥)
    → contents_of layout g w ≡ contents_of layout f w
volume-stays layout a f g same w on apart = λ j. record {
  number = w;
  aggregate = aggregate_of layout w;
  logical = logical_in (same (Logical w) on (apart (0 ∷ [])) j);
  stripes = each-same (λ i. stripe_in (at layout g (Stripe w i))) (λ i. stripe_in (at layout f (Stripe w i))) 0 (stripes_of layout w)
      (λ i low high. ap stripe_in (same (Stripe w i) (on, omega arith) (apart (0 ∷ i ∷ [])))) j;
  ranges = each-same (λ r. range_in (at layout g (Range w r))) (λ r. range_in (at layout f (Range w r))) 0 most_ranges
      (λ r low high. ap range_in (same (Range w r) (on, omega arith) (apart (1 ∷ r ∷ [])))) j;
}

module _ {P : Type 0} (layout : Layout) (a : Affinity) (v : ℕ) (rest : List ℕ) (way : path layout a ≡ aggregate_of layout v ∷ v ∷ rest)
    (f g : ℕ → Option (FilerParcel P)) (same : AgreeElsewhere layout a g f) where
  other-volumes : (w : ℕ) → w < length layout.volumes → (w ≡ v → ⊥) → contents_of layout g w ≡ contents_of layout f w
  other-volumes w on ne = volume-stays layout a f g same w on
      (λ more h. ne (sym (second-same (aggregate_of layout v) v (aggregate_of layout w) w rest more
      (ap (λ p. begins p (aggregate_of layout w ∷ w ∷ more)) (sym way) ∙ h))))

  other-spares : (filer_contents layout g).spare ≡ (filer_contents layout f).spare
  other-spares = each-same (λ b. spare_in (at layout g (Aggregate b))) (λ b. spare_in (at layout f (Aggregate b))) 0 (length layout.spare)
      (λ b low high. ap spare_in (same (Aggregate b) (omega arith)
      (λ h. not-shorter (aggregate_of layout v) v b rest (ap (λ p. begins p (b ∷ [])) (sym way) ∙ h))))

-- a lens on a volume is one on all that is stored
module _ {P S : Type 0} (layout : Layout) (lawful : fault_of layout ≡ None) (a : Affinity) (there : IsNode layout a)
    (v : ℕ) (on : v < length layout.volumes) (rest : List ℕ) (way : path layout a ≡ aggregate_of layout v ∷ v ∷ rest) (lens : Lens VolumeContents S) where
  volume-here : (f : ℕ → Option (FilerParcel P)) → volume_or_none (volume_at (filer_contents layout f) v) ≡ contents_of layout f v
  volume-here f = ap volume_or_none (each-get (contents_of layout f) (length layout.volumes) v on)

  pub below-volume-seen : (parcels : ℕ → Option (FilerParcel P)) (set : S)
      → ((f : ℕ → Option (FilerParcel P)) → AgreeUnder layout a f parcels → lens.of (contents_of layout f v) ≡ set)
      → ((f g : ℕ → Option (FilerParcel P)) → AgreeElsewhere layout a g f
      → contents_of layout g v ≡ lens.put (lens.of (contents_of layout g v)) (contents_of layout f v))
      → IsSeenBy layout a (in_volume v lens) parcels set
  below-volume-seen parcels set under elsewhere = seen-by layout lawful a there (in_volume v lens) parcels set
      (λ f same. ap lens.of (volume-here f) ∙ under f same)
      (λ f g same. let count : ℕ = length layout.volumes in λ j. record {
        spare = other-spares layout a v rest way f g same j;
        volumes = (each-set (contents_of layout f) (contents_of layout g) count v on (λ w less ne. other-volumes layout a v rest way f g same w less ne)
            ∙ ap (slice_set (each (contents_of layout f) 0 count) v)
            (elsewhere f g same ∙ (λ i. lens.put (lens.of (sym (volume-here g) i)) (sym (volume-here f) i)))) j;
      })
