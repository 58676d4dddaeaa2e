-- What is held under an Aggregate put back, as it was or with one volume changed.
use Rattle.std.proofs.Common.{◌≡◌, ℕ, zero, suc, ◌==◌, Bool, true, false, List, [], ◌∷◌, map, Some, None, refl, ap, ◌∙◌, eq-eqb}
use Rattle.std.specs.Prelude.{slice_get, slice_set, slice_index_or, if◌then◌else◌}
use Rattle.filer_state.specs.state.Contents.{VolumeContents, FilerContents}
use Rattle.filer_state.specs.state.Lenses.{VolumeSet, volume_lens, set_on, put_if, put_each, aggregate_lens}

module _ (a : ℕ) where
  put-own : (p : VolumeContents) → put_if (set_on a p) p ≡ p
  put-own p = by (p.aggregate == a)
    where
      by : (b : Bool) → put_if (if b then Some (volume_lens.of p) else None) p ≡ p
      by true = refl
      by false = refl

  put-back : (ps : List VolumeContents) → put_each (map (set_on a) ps) ps ≡ ps
  put-back [] = refl
  put-back (p ∷ ps) = λ j. put-own p j ∷ put-back ps j

  pub put-one : (ps : List VolumeContents) (v : ℕ) (p : VolumeContents) (set : VolumeSet) → slice_get ps v ≡ Some p
      → put_each (slice_set (map (set_on a) ps) v (Some set)) ps ≡ slice_set ps v (volume_lens.put set p)
  put-one [] v p set there = absurd cc
  put-one (q ∷ ps) zero p set there =
      let same : q ≡ p = cc in λ j. volume_lens.put set (same j) ∷ put-back ps j
  put-one (q ∷ ps) (suc v) p set there = λ j. put-own q j ∷ put-one ps v p set there j

  -- a volume that is on it is held
  pub set-there : (ps : List VolumeContents) (v : ℕ) (p : VolumeContents) → slice_get ps v ≡ Some p → p.aggregate ≡ a
      → slice_get (map (set_on a) ps) v ≡ Some (Some (volume_lens.of p))
  set-there [] v p there on = absurd cc
  set-there (q ∷ ps) zero p there on =
      let same : q ≡ p = cc in
      ap (λ (x : VolumeContents). Some (set_on a x)) same ∙ ap (λ (b : Bool). Some (if b then Some (volume_lens.of p) else None)) (eq-eqb p.aggregate a on)
  set-there (q ∷ ps) (suc v) p there on = set-there ps v p there on

spare-back : (xs : List ℕ) (a : ℕ) → slice_set xs a (slice_index_or xs a 0) ≡ xs
spare-back [] a = refl
spare-back (x ∷ xs) zero = refl
spare-back (x ∷ xs) (suc a) = ap (λ rest. x ∷ rest) (spare-back xs a)

-- put back as it was, nothing changes
pub all-back : (a : ℕ) (c : FilerContents) → (aggregate_lens a).put ((aggregate_lens a).of c) c ≡ c
all-back a c = λ j. record { spare = spare-back c.spare a j; volumes = put-back a c.volumes j }
