-- A set of block numbers as a list of them, and the blocks that a volume has beside those in files.
use Rattle.std.proofs.Common.{◌≡◌, ℕ, zero, suc, ◌+◌, ◌-◌, ◌*◌, ◌≤◌, ◌||◌, ◌&&◌, not, Bool, true, false, cond, List, [], ◌∷◌, ◌++◌, length}
use Rattle.std.proofs.Common.{refl, sym, ap, ◌∙◌, arith, length-append}
use Rattle.std.specs.List.{list_any}
use Rattle.std.specs.Ordering.{nat_cmp, eq_by_cmp}
use Rattle.std.specs.Cmp.{nat_cmp_total, unsigned_tied}
use Rattle.std.specs.FinMap.{nat_cmp-IsAntisymmetric}
use Rattle.std.specs.FinSet as sets
use Rattle.std.specs.FinSet.{FinSet, contains, from_list, remove, items, len}
use Rattle.nfs_model.specs.Parts.{Hand, one_if, times_listed}
use Rattle.nfs_model.specs.volume.Ranges.{without_numbers}
use Rattle.nfs_model.specs.volume.lemmas.Numbered.{itself}
use Rattle.filer_state.specs.state.Contents.{VolumeContents}
use Rattle.filer_state.specs.state.Tree.{ranges_used}
use Rattle.filer_state.specs.state.WellFormed.{WellFormed}
use Rattle.filer_state.specs.state.Partition.{all_numbers, StandOnce}
use Rattle.filer_state.specs.laws.lemmas.Counted.{all-times, all-length}
use Rattle.filer_state.specs.laws.lemmas.Limits.{few-below}
use Rattle.filer_state.specs.bytes.WritingUp.{Leave}
use Rattle.filer_state.specs.bytes.lemmas.Leaving.{leave-counts}

-- ---- one number fewer

without-is : (set : FinSet nat_cmp) (n : ℕ) → without_numbers (n ∷ []) set ≡ remove set n
without-is set n = sets.same_set nat_cmp_total nat_cmp-IsAntisymmetric _ _ (λ q.
    sets.contains-difference nat_cmp_total set (from_list (n ∷ [])) q
    ∙ ap (λ (b : Bool). contains set q && not b) (sets.contains-from_list nat_cmp_total (n ∷ []) q)
    ∙ turned (contains set q) _
    ∙ sym (sets.contains-remove nat_cmp_total set n q))
  where
    turned : (a b : Bool) → (a && not (b || false)) ≡ (not b && a)
    turned true true = refl
    turned true false = refl
    turned false true = refl
    turned false false = refl

pub len-without : (set : FinSet nat_cmp) (n : ℕ) → contains set n ≡ true → len set ≡ len (without_numbers (n ∷ []) set) + 1
len-without set n there = by (len set) refl
  where
    left : len (without_numbers (n ∷ []) set) ≡ len set - 1
    left = ap (λ s. len s) (without-is set n) ∙ sets.len-remove nat_cmp_total set n ∙ ap (λ (b : Bool). cond b (len set - 1) (len set)) there

    by : (k : ℕ) → len set ≡ k → len set ≡ len (without_numbers (n ∷ []) set) + 1
    by zero e =
        let none : contains set n ≡ false = ap (λ s. contains s n) (sets.empty_of_len set e) ∙ sets.contains-empty nat_cmp n in absurd cc
    by (suc k) e = let l = left in omega (arith, l, e)

-- a set that has some has one
one-of : (set : FinSet nat_cmp) (k : ℕ) → len set ≡ suc k → (n : ℕ) × (contains set n ≡ true)
one-of set k e = by (items set) refl
  where
    by : (ns : List ℕ) → items set ≡ ns → (n : ℕ) × (contains set n ≡ true)
    by [] h =
        let none : set ≡ sets.empty = sets.same_set nat_cmp_total nat_cmp-IsAntisymmetric set sets.empty (λ q.
        sets.contains-items set q ∙ ap (λ ns. list_any (eq_by_cmp nat_cmp q) ns) h
        ∙ sym (sets.contains-empty nat_cmp q)) in
        let no_one : len set ≡ 0 = ap (λ s. len s) none ∙ sets.len-empty nat_cmp in
        absurd (omega (arith, no_one, e))
    by (x ∷ xs) h = (
      x,
      sets.contains-items set x ∙ ap (λ ns. list_any (eq_by_cmp nat_cmp x) ns) h
          ∙ ap (λ (b : Bool). b || list_any (eq_by_cmp nat_cmp x) xs) (unsigned_tied x x ∙ itself x),
    )

-- a set's numbers, one after another
pub numbers-of : (k : ℕ) (set : FinSet nat_cmp) → len set ≡ k → (numbers : List ℕ) × Leave numbers set sets.empty × (length numbers ≡ k)
numbers-of zero set e = ([], sym (sets.empty_of_len set e), refl)
numbers-of (suc k) set e =
    let first = one-of set k e in
    let fewer = len-without set first.0 first.1 in
    let rest = numbers-of k (without_numbers (first.0 ∷ []) set) (omega (arith, fewer, e)) in
    (first.0 ∷ rest.0, (first.1, rest.1), ap suc rest.2)

pub numbers-times : (set : FinSet nat_cmp) (m : ℕ) → times_listed m (numbers-of (len set) set refl).0 ≡ one_if (contains set m)
numbers-times set m =
    let counts = leave-counts (numbers-of (len set) set refl).0 set sets.empty (numbers-of (len set) set refl).1 m in
    let none : one_if (contains (sets.empty {R = nat_cmp}) m) ≡ 0 = ap one_if (sets.contains-empty nat_cmp m) in
    omega (arith, counts, none)

-- ---- blocks in files and in the stock are no more than all

pub times-append : (n : ℕ) (xs ys : List ℕ) → times_listed n (xs ++ ys) ≡ times_listed n xs + times_listed n ys
times-append n [] ys = omega arith
times-append n (x ∷ xs) ys = let others = times-append n xs ys in omega (arith, others)

pub stock-fits : (p : VolumeContents) (hands : List Hand) → WellFormed p → StandOnce p hands
    → p.logical.inodes.used + len p.logical.stock ≤ p.logical.dead.range_blocks * ranges_used p.ranges
stock-fits p hands well once =
    let stock : List ℕ = (numbers-of (len p.logical.stock) p.logical.stock refl).0 in
    let most = few-below (p.logical.dead.range_blocks * ranges_used p.ranges) (all_numbers p.stripes ++ stock) (λ n.
    let o = once n in
    let files = all-times n p.stripes in
    let both = times-append n (all_numbers p.stripes) stock in
    let times = numbers-times p.logical.stock n in
    omega (arith, o, files, both, times)) in
    let long = length-append (all_numbers p.stripes) stock in
    let files = all-length p.stripes in
    let many = (numbers-of (len p.logical.stock) p.logical.stock refl).2 in
    let used = well.used in
    omega (arith, most, long, files, many, used)
