-- How many blocks are free: by ranges, and as one set.
use Rattle.std.proofs.Common.{◌≡◌, ℕ, ◌+◌, ◌≤◌, List, [], ◌∷◌, ◌++◌, refl, sym, ap, ◌∙◌, arith, length-append}
use Rattle.std.specs.Ordering.{nat_cmp}
use Rattle.std.specs.Cmp.{nat_cmp_total}
use Rattle.std.specs.FinMap.{nat_cmp-IsAntisymmetric}
use Rattle.std.specs.FinSet as sets
use Rattle.std.specs.FinSet.{FinSet, contains, from_list, union, len, contains-union}
use Rattle.nfs_model.specs.Parts.{one_if, times_listed}
use Rattle.nfs_model.specs.volume.Ranges.{RangeValue}
use Rattle.filer_state.specs.state.Partition.{free_in}
use Rattle.filer_state.specs.laws.lemmas.Counted.{listed-times, len-listed, free-times}
use Rattle.filer_state.specs.bytes.WritingUp.{free_count}
use Rattle.filer_state.specs.bytes.lemmas.Leaving.{all-is}
use Rattle.filer_state.specs.bytes.lemmas.Listed.{numbers-of, numbers-times, times-append}
use Rattle.filer_state.specs.bytes.lemmas.LeavingParts.{times_free}

-- two sets without a common number
len-union : (s t : FinSet nat_cmp) → ((m : ℕ) → one_if (contains s m) + one_if (contains t m) ≤ 1) → len (union s t) ≡ len s + len t
len-union s t apart =
    let some : List ℕ = (numbers-of (len s) s refl).0 in
    let others : List ℕ = (numbers-of (len t) t refl).0 in
    let both : (m : ℕ) → times_listed m (some ++ others) ≡ one_if (contains s m) + one_if (contains t m) =
    λ m. (let sum = times-append m some others in let a = numbers-times s m in let b = numbers-times t m in omega (arith, sum, a, b)) in
    let once : (m : ℕ) → times_listed m (some ++ others) ≤ 1 = λ m. (let sum = both m in let less = apart m in omega (arith, sum, less)) in
    let same : union s t ≡ from_list (some ++ others) = sets.same_set nat_cmp_total nat_cmp-IsAntisymmetric _ _ (λ q.
    contains-union nat_cmp_total s t q
    ∙ sym (all-is (contains s q) (contains t q) (contains (from_list {R = nat_cmp} (some ++ others)) q) (listed-times q (some ++ others) (once q) ∙ both q))) in
    ap (λ u. len u) same ∙ len-listed (some ++ others) once ∙ length-append some others
    ∙ (λ j. (numbers-of (len s) s refl).2 j + (numbers-of (len t) t refl).2 j)

pub free-many : (ranges : List RangeValue) → ((m : ℕ) → times_free m ranges ≤ 1) → len (free_in ranges) ≡ free_count ranges
free-many [] once = sets.len-empty nat_cmp
free-many (r ∷ ranges) once =
    let rest = free-many ranges (λ m. let o = once m in omega (arith, o)) in
    len-union r.free (free_in ranges) (λ m. let o = once m in let f = free-times m ranges (omega (arith, o)) in omega (arith, o, f))
    ∙ ap (λ (k : ℕ). len r.free + k) rest
