-- Counts taken anew, one volume after another.
use Rattle.std.proofs.Common.{◌≡◌, ◌<◌, ◌≤◌, ℕ, zero, suc, ◌+◌, List, [], ◌∷◌, length, refl, ap, ◌∙◌, arith}
use Rattle.std.specs.Prelude.{slice_set, slice_index_or}
use Rattle.nfs_model.specs.World.{changed_at}
use Rattle.filer_state.specs.state.Contents.{each}
use Rattle.engine.specs.declared.counts.counts.VolumeCounts.{VolumeCounts}
use Rattle.engine.specs.counts.Counts.{recounted}

module _ (h : ℕ → VolumeCounts → VolumeCounts) where
  more-from : (from n : ℕ) (counts : List VolumeCounts) (d : VolumeCounts)
      → slice_set (recounted h from n counts) n (h (from + n) (slice_index_or (recounted h from n counts) n d)) ≡ recounted h from (suc n) counts
  more-from from zero [] d = refl
  more-from from zero (c ∷ counts) d = let here : from + 0 ≡ from = omega arith in ap (λ (m : ℕ). h m c ∷ counts) here
  more-from from (suc n) [] d = refl
  more-from from (suc n) (c ∷ counts) d =
      let here : from + suc n ≡ from + 1 + n = omega arith in
      ap (λ rest. h from c ∷ rest)
      (ap (λ (m : ℕ). slice_set (recounted h (from + 1) n counts) n (h m (slice_index_or (recounted h (from + 1) n counts) n d))) here
      ∙ more-from (from + 1) n counts d)

  -- one more volume
  pub recounted-more : (n : ℕ) (old counts new : List VolumeCounts) (d : VolumeCounts) (here : VolumeCounts) → counts ≡ recounted h 0 n old
      → here ≡ h n (slice_index_or counts n d) → new ≡ slice_set counts n here → new ≡ recounted h 0 (n + 1) old
  recounted-more n old counts new d here sofar is set =
      let place : n ≡ 0 + n = omega arith in
      let next : suc n ≡ n + 1 = omega arith in
      set ∙ ap (slice_set counts n) is
      ∙ ap (λ (xs : List VolumeCounts). slice_set xs n (h n (slice_index_or xs n d))) sofar
      ∙ ap (λ (m : ℕ). slice_set (recounted h 0 n old) n (h m (slice_index_or (recounted h 0 n old) n d))) place
      ∙ more-from 0 n old d ∙ ap (λ (m : ℕ). recounted h 0 m old) next

-- where none hangs on what it was
pub recounted-all : (f : ℕ → VolumeCounts) (from n : ℕ) (counts : List VolumeCounts) → length counts ≡ n
    → recounted (λ v before. f v) from n counts ≡ each f from n
recounted-all f from zero [] e = refl
recounted-all f from zero (c ∷ counts) e = absurd (omega (arith, e))
recounted-all f from (suc n) [] e = absurd (omega (arith, e))
recounted-all f from (suc n) (c ∷ counts) e = ap (λ rest. f from ∷ rest) (recounted-all f (from + 1) n counts (omega (arith, e)))

-- one place set by what was there
pub changed-is : (k : VolumeCounts → VolumeCounts) (counts : List VolumeCounts) (i : ℕ) (d x : VolumeCounts) → i < length counts
    → x ≡ k (slice_index_or counts i d) → slice_set counts i x ≡ changed_at k counts i
changed-is k [] i d x less e = refl
changed-is k (c ∷ counts) zero d x less e = ap (λ y. y ∷ counts) e
changed-is k (c ∷ counts) (suc i) d x less e = ap (λ rest. c ∷ rest) (changed-is k counts i d x (omega (arith, less)) e)

-- there is no such place
pub changed-past : (k : VolumeCounts → VolumeCounts) (counts : List VolumeCounts) (i : ℕ) → length counts ≤ i → changed_at k counts i ≡ counts
changed-past k [] i past = refl
changed-past k (c ∷ counts) zero past = absurd (omega (arith, past))
changed-past k (c ∷ counts) (suc i) past = ap (λ rest. c ∷ rest) (changed-past k counts i (omega (arith, past)))
