-- From what a handler promises of the part that it holds to a step of the filer.
use Rattle.std.proofs.Common.{◌≡◌, ◌≢◌, ℕ, zero, suc, ◌+◌, ◌<◌, ◌⊎◌, inl, inr, ⊎_elim, List, [], ◌∷◌, length, Option, Some, None, refl, sym, ap, ◌∙◌}
use Rattle.std.proofs.Common.{subst, arith}
use Rattle.std.specs.Prelude.{slice_get, slice_set}
use Rattle.nfs_model.specs.Tree.{Layout, Affinity, stripes_of}
use Rattle.nfs_model.specs.Parts.{Hand}
use Rattle.affinity.specs.Ancestors.{Covers}
use Rattle.affinity.specs.Fault.{fault_of}
use Rattle.affinity.specs.Tree.{IsNode}
use Rattle.affinity.specs.Numbers.{number_of, parents}
use Rattle.affinity.specs.lemmas.Alike.{alike}
use Rattle.affinity.specs.lemmas.Numbered.{own_number}
use Rattle.affinity.specs.lemmas.Standing.{number-place}
use Rattle.depot_rule.specs.Sums.{total}
use Rattle.depot_rule.specs.History.{patched}
use Rattle.filer_state.specs.state.Parcels.{FilerParcel}
use Rattle.filer_state.specs.state.Contents.{VolumeContents, FilerContents, each, contents_of, volume_at, filer_contents}
use Rattle.filer_state.specs.state.Partition.{times_in_hand, AreOf}
use Rattle.filer_state.specs.state.Sound.{IsSound, AreSound}
use Rattle.filer_state.specs.state.Jobs.{Job, JobReply, takes, gives}
use Rattle.filer_state.specs.state.Deeds.{DoesJob, ParcelsDo, FilerSteps}
use Rattle.filer_state.specs.state.Lenses.{Lens, in_volume, volume_or_none, with_contents}
use Rattle.filer_state.specs.state.Promises.{RightOnVolume, RightOnAll, IsLaidOut, IsSeenBy}
use Rattle.filer_state.specs.laws.lemmas.Each.{each-get, each-length, get-there}
use Rattle.filer_state.specs.laws.lemmas.Alike.{filer-same, does-same}

-- ---- what parcels store is laid out

pub laid-out : {P : Type 0} (layout : Layout) (f : ℕ → Option (FilerParcel P)) → IsLaidOut layout (filer_contents layout f)
laid-out layout f = record {
  spare = each-length _ 0 (length layout.spare);
  volumes = each-length (contents_of layout f) 0 (length layout.volumes);
  volume = λ v p e.
      let less = get-there (each (contents_of layout f) 0 (length layout.volumes)) v p e in
      let long = each-length (contents_of layout f) 0 (length layout.volumes) in
      let same : contents_of layout f v ≡ p = (let h = sym (each-get (contents_of layout f) (length layout.volumes) v (omega arith)) ∙ e in cc) in
      (sym (ap (λ (q : VolumeContents). q.aggregate) same), ap (λ (q : VolumeContents). length q.stripes) (sym same) ∙ each-length _ 0 (stripes_of layout v));
}

-- ---- a step

module _ {P S : Type 0} (layout : Layout) (lawful : fault_of layout ≡ None) (node : Affinity) (there : IsNode layout node) (lens : Lens FilerContents S) where
  -- where a part's change is right, putting in its parcels is a step
  pub step-by : (job : Job) (reply : JobReply) (old new : S) (before after : ℕ → Option (FilerParcel P))
      → IsSeenBy layout node lens before old → IsSeenBy layout node lens after new
      → ((k : ℕ) → (Covers (parents layout) (number_of layout node) k → ⊥) → after k ≡ before k)
      → RightOnAll layout lens (DoesJob layout node job) (takes job reply) (gives job reply) old reply new
      → FilerSteps (parents layout) (number_of layout node) job before reply after
  step-by job reply old new before after was is others right = (
    place.0,
    place.1,
    record {
      others = others;
      right = λ m of g hands hands' made agree sound moved.
          let ps : List ℕ = parents layout in
          let a : ℕ = number_of layout node in
          let same = alike m layout of.1 in
          let c : FilerContents = filer_contents layout g in
          let next : ℕ → Option (FilerParcel P) = patched ps a after g in
          let stored = is.put g in
          let done = right c hands hands' made (was.has g agree) (laid-out layout g)
          (subst (λ (x : FilerContents). AreSound x hands made) (filer-same m layout same g) sound) moved in
          let later : filer_contents m next ≡ lens.put new c = filer-same m layout same next ∙ stored in (
            λ other inside numbered.
                let one : other ≡ node = own_number layout other node ((same.node other).0 inside) there (sym (same.number other) ∙ numbered) in
                subst (λ (b : Affinity). ParcelsDo m b job g reply next) (sym one)
                (subst (λ (x : FilerContents). DoesJob m node job x reply (filer_contents m next)) (sym (filer-same m layout same g))
                (subst (λ (x : FilerContents). DoesJob m node job c reply x) (sym later)
                (does-same layout m (alike layout m (sym of.1)) node job c reply (lens.put new c) done.0))),
            subst (λ (x : FilerContents). AreSound x hands' (made + 1)) (sym later) done.1,
          );
    },
  )
    where
      place : (0 < number_of layout node) × (number_of layout node < length (parents layout))
      place = number-place layout node there

-- ---- a part of a volume

pub get-some : {A : Type 0} (xs : List A) (i : ℕ) → i < length xs → (x : A) × (slice_get xs i ≡ Some x)
get-some [] i less = absurd (omega arith)
get-some (x ∷ xs) zero less = (x, refl)
get-some (x ∷ xs) (suc i) less = get-some xs i (omega arith)

pub get-set : {A : Type 0} (xs : List A) (i : ℕ) (x : A) (k : ℕ) (y : A) → slice_get (slice_set xs i x) k ≡ Some y
    → ((k ≡ i) × (y ≡ x)) ⊎ ((k ≢ i) × (slice_get xs k ≡ Some y))
get-set [] i x k y e = absurd cc
get-set (z ∷ xs) zero x zero y e = inl (refl, (let same : y ≡ x = cc in same))
get-set (z ∷ xs) zero x (suc k) y e = inr ((λ h. omega arith), e)
get-set (z ∷ xs) (suc i) x zero y e = inr ((λ h. omega arith), e)
get-set (z ∷ xs) (suc i) x (suc k) y e = ⊎_elim
    (λ (here : (k ≡ i) × (y ≡ x)). inl (ap suc here.0, here.1))
    (λ (other : (k ≢ i) × (slice_get xs k ≡ Some y)). inr ((λ h. other.0 (let same : k ≡ i = omega arith in same)), other.1))
    (get-set xs i x k y e)

-- what is sound stays so, with one more entry, where the hands of its volume weigh as much
pub sound-later : (p : VolumeContents) (hands hands' : List Hand) (made : ℕ)
    → ((n : ℕ) → total (times_in_hand p.number n) hands' ≡ total (times_in_hand p.number n) hands)
    → IsSound p hands made → IsSound p hands' (made + 1)
sound-later p hands hands' made same s = record {
  well_formed = s.well_formed;
  young = record {
    fileids = (let y = s.young.fileids in omega arith);
    cookies = λ fileid d e. let y = s.young.cookies fileid d e in omega arith;
  };
  partition = λ n. let e = same n in let o = s.partition n in omega (arith, e, o);
}

-- what has to hold goes by the weight of hands: it holds of any hands that weigh as much
pub sound-by-weight : (c : FilerContents) (hands others : List Hand) (made : ℕ) → ((weigh : Hand → ℕ) → total weigh others ≡ total weigh hands)
    → AreSound c hands made → AreSound c others made
sound-by-weight c hands others made same sound v p there =
    let s = sound v p there in (
      s.0,
      record {
        well_formed = s.1.well_formed;
        young = s.1.young;
        partition = λ n. let e = same (times_in_hand p.number n) in let o = s.1.partition n in omega (arith, e, o);
      },
    )

module _ {S R : Type 0} (layout : Layout) (v : ℕ) (on : v < length layout.volumes) (lens : Lens VolumeContents S) where
  -- what is right on a volume is right on all that is stored, where the volume's deed is one of all
  pub volume-right : (deed : FilerContents → R → FilerContents → Type 0) (on_volume : VolumeContents → R → VolumeContents → Type 0)
      (taken given : List Hand) (old : S) (reply : R) (new : S)
      → ((s : S) (p : VolumeContents) → (lens.put s p).number ≡ p.number)
      → AreOf v taken → AreOf v given
      → ((c : FilerContents) (p after : VolumeContents) → IsLaidOut layout c → volume_at c v ≡ Some p → p.number ≡ v → after.number ≡ v
      → on_volume p reply after → deed c reply (with_contents c v after))
      → RightOnVolume v lens on_volume taken given old reply new
      → RightOnAll layout (in_volume v lens) deed taken given old reply new
  volume-right deed on_volume taken given old reply new numbered from to lift right c hands hands' made has laid sound moved =
      let found = get-some c.volumes v (let count = laid.volumes in omega arith) in
      let p : VolumeContents = found.0 in
      let here : volume_or_none (volume_at c v) ≡ p = ap volume_or_none found.1 in
      let s = sound v p found.1 in
      let done = right p hands hands' made (ap lens.of (sym here) ∙ has) s.0 s.1 moved in
      let after : VolumeContents = lens.put new p in
      let same : with_contents c v after ≡ (in_volume v lens).put new c = ap (λ q. with_contents c v (lens.put new q)) (sym here) in
      subst (λ (x : FilerContents). deed c reply x × AreSound x hands' (made + 1)) same (
        lift c p after laid found.1 s.0 (numbered new p ∙ s.0) done.0,
        λ u q e. ⊎_elim
            (λ (is : (u ≡ v) × (q ≡ after)). subst (λ (x : VolumeContents). (x.number ≡ u)
            × IsSound x hands' (made + 1)) (sym is.1) (numbered new p ∙ s.0 ∙ sym is.0, done.1))
            (λ (is : (u ≢ v) × (slice_get c.volumes u ≡ Some q)).
            let t = sound u q is.1 in (
              t.0,
              sound-later q hands hands' made
                  (λ n.
                  let w = moved (times_in_hand q.number n) in
                  let other : q.number ≢ v = (λ h. is.0 (sym t.0 ∙ h)) in
                  let none_from = from q.number other n in
                  let none_to = to q.number other n in
                  omega arith)
                  t.1,
            ))
            (get-set c.volumes v after u q e),
      )
