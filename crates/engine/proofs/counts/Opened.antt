-- The counts of volumes as a run begins.
use Rattle.std.proofs.Common.{◌≡◌, ◌<◌, ◌≤◌, ℕ, zero, suc, ◌+◌, List, [], ◌∷◌, ◌++◌, length, map, take, Some, refl, sym, ap, ◌∙◌, arith}
use Rattle.std.proofs.lemmas.List.{map-append}
use Rattle.std.specs.Prelude.{◌*◌, slice_get}
use Rattle.std.specs.Ordering.{nat_cmp}
use Rattle.std.specs.FinSet.{len-empty}
use Rattle.nfs_model.specs.Tree.{VolumeLayout}
use Rattle.nfs_model.specs.Server.{opening_volume, opening_volumes}
use Rattle.nfs_model.specs.Headline.{opening_parts}
use Rattle.engine.specs.declared.counts.counts.VolumeCounts.{VolumeCounts}
use Rattle.engine.specs.counts.Counts.{counts_seen, all_seen}

-- all free
abbrev pub counts_free : ℕ → VolumeCounts
counts_free total = record { files = 0; stock = 0; dead = 0; total = total }

abbrev pub counts_given : VolumeLayout → VolumeCounts
counts_given v = counts_free (v.range_blocks * v.ranges)

opened : (verifier : List ℕ) (number : ℕ) (volumes : List VolumeLayout)
    → map counts_given volumes ≡ all_seen (opening_volumes verifier number volumes) (map opening_parts volumes)
opened verifier number [] = refl
opened verifier number (v ∷ volumes) = λ j. here j ∷ opened verifier (number + 1) volumes j
  where
    here : counts_given v ≡ counts_seen (opening_volume verifier number v) (opening_parts v)
    here = λ j. record (counts_given v) { files = sym (len-empty nat_cmp) j; stock = sym (len-empty nat_cmp) j; dead = sym (len-empty nat_cmp) j }

take-more : (volumes : List VolumeLayout) (n : ℕ) → n < length volumes
    → (v : VolumeLayout) × (slice_get volumes n ≡ Some v) × (take (suc n) volumes ≡ take n volumes ++ v ∷ [])
take-more [] n less = absurd (omega (arith, less))
take-more (v ∷ volumes) zero less = (v, refl, refl)
take-more (v ∷ volumes) (suc n) less =
    let others = take-more volumes n (omega (arith, less)) in (others.0, others.1, ap (λ rest. v ∷ rest) others.2)

-- one volume more
pub opened-more : (volumes : List VolumeLayout) (n : ℕ) (counts new : List VolumeCounts) (total : ℕ) → n < length volumes
    → counts ≡ map counts_given (take n volumes) → new ≡ counts ++ counts_free total ∷ []
    → ((v : VolumeLayout) → slice_get volumes n ≡ Some v → total ≡ v.range_blocks * v.ranges) → new ≡ map counts_given (take (n + 1) volumes)
opened-more volumes n counts new total less sofar pushed is =
    let more = take-more volumes n less in
    let next : suc n ≡ n + 1 = omega arith in
    pushed ∙ (λ j. sofar j ++ counts_free (is more.0 more.1 j) ∷ [])
    ∙ sym (map-append counts_given (take n volumes) (more.0 ∷ []))
    ∙ ap (map counts_given) (sym more.2 ∙ ap (λ (m : ℕ). take m volumes) next)

take-all : (volumes : List VolumeLayout) (n : ℕ) → length volumes ≤ n → take n volumes ≡ volumes
take-all [] zero past = refl
take-all [] (suc n) past = refl
take-all (v ∷ volumes) zero past = absurd (omega (arith, past))
take-all (v ∷ volumes) (suc n) past = ap (λ rest. v ∷ rest) (take-all volumes n (omega (arith, past)))

-- all of them
pub opened-all : (verifier : List ℕ) (volumes : List VolumeLayout) (n : ℕ) (counts : List VolumeCounts) → length volumes ≤ n
    → counts ≡ map counts_given (take n volumes) → counts ≡ all_seen (opening_volumes verifier 0 volumes) (map opening_parts volumes)
opened-all verifier volumes n counts past sofar =
    sofar ∙ ap (map counts_given) (take-all volumes n past) ∙ opened verifier 0 volumes
