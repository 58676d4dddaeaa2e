-- The parts of a volume are as many as its block numbers.
use Rattle.std.proofs.Common.{◌≡◌, ◌≢◌, ℕ, zero, suc, ◌+◌, ◌-◌, ◌<◌, ◌≤◌, ◌==◌, Bool, true, false, cond, not, ◌&&◌, List, [], ◌∷◌, length}
use Rattle.std.proofs.Common.{refl, sym, ap, ◌∙◌, arith, eq-eqb, ne_eqb, nat_lt, ⊎_elim}
use Rattle.std.proofs.lemmas.Bool.{cases_eq, cases_lt, lt-ltb, le-ltb}
use Rattle.std.specs.Ordering.{nat_cmp}
use Rattle.std.specs.Cmp.{nat_cmp_total, unsigned_tied}
use Rattle.std.specs.FinSet as sets
use Rattle.std.specs.FinSet.{FinSet, contains, contains-empty, contains-remove, empty_of_len, len-remove, same_set, len-empty, nat_cmp-IsAntisymmetric}
use Rattle.nfs_model.specs.Server.{VolumeState}
use Rattle.nfs_model.specs.Parts.{Parts, one_if, times_listed, IsPartition}

-- ---- sums

-- of f of all numbers below one
abbrev pub sum_below : (ℕ → ℕ) → ℕ → ℕ
sum_below f zero = 0
sum_below f (suc t) = f t + sum_below f t

sum-same : (f g : ℕ → ℕ) (t : ℕ) → ((n : ℕ) → n < t → f n ≡ g n) → sum_below f t ≡ sum_below g t
sum-same f g zero h = refl
sum-same f g (suc t) h = let here = h t (omega arith) in let others = sum-same f g t (λ n less. h n (omega arith)) in omega (arith, here, others)

sum-added : (f g : ℕ → ℕ) (t : ℕ) → sum_below (λ n. f n + g n) t ≡ sum_below f t + sum_below g t
sum-added f g zero = refl
sum-added f g (suc t) = let others = sum-added f g t in omega (arith, others)

sum-none : (f : ℕ → ℕ) (t : ℕ) → ((n : ℕ) → n < t → f n ≡ 0) → sum_below f t ≡ 0
sum-none f zero h = refl
sum-none f (suc t) h = let here = h t (omega arith) in let others = sum-none f t (λ n less. h n (omega arith)) in omega (arith, here, others)

-- those below a number are this many
sum-below : (m t : ℕ) → t ≤ m → sum_below (λ n. one_if (nat_lt n m)) t ≡ t
sum-below m zero h = refl
sum-below m (suc t) h =
    let here : one_if (nat_lt t m) ≡ 1 = ap one_if (lt-ltb t m (omega arith)) in
    let others = sum-below m t (omega arith) in
    omega (arith, here, others)

-- one number is one
sum-single : (b t : ℕ) → b < t → sum_below (λ n. one_if (b == n)) t ≡ 1
sum-single b zero h = absurd (omega arith)
sum-single b (suc t) h =
    ⊎_elim
    (λ (e : b ≡ t).
    let here : one_if (b == t) ≡ 1 = ap one_if (eq-eqb b t e) in
    let others = sum-none (λ n. one_if (b == n)) t (λ n less. ap one_if (ne_eqb b n (λ (s : b ≡ n). omega arith))) in
    omega (arith, here, others))
    (λ (ne : b ≢ t).
    let here : one_if (b == t) ≡ 0 = ap one_if (ne_eqb b t ne) in
    let others = sum-single b t (omega (arith, ne)) in
    omega (arith, here, others))
    (cases_eq b t)

-- ---- sizes

-- a list of numbers below t
list-size : (t : ℕ) (ns : List ℕ) → ((n : ℕ) → t ≤ n → times_listed n ns ≡ 0) → length ns ≡ sum_below (λ n. times_listed n ns) t
list-size t [] h = sym (sum-none (λ n. 0) t (λ n less. refl))
list-size t (b ∷ ns) h =
    let others = list-size t ns (λ n more. let all = h n more in let l : times_listed n ns ≡ 0 = omega (arith, all) in l) in
    let sum = sum-added (λ n. one_if (b == n)) (λ n. times_listed n ns) t in
    let single = sum-single b t
    (⊎_elim
    (λ (less : b < t). less)
    (λ (more : t ≤ b).
    let all = h b more in
    let here : one_if (b == b) ≡ 1 = ap one_if (eq-eqb b b refl) in
    absurd (omega (arith, all, here)))
    (cases_lt b t)) in
    omega (arith, others, sum, single)

empty-set : (s : FinSet nat_cmp) → ((n : ℕ) → contains s n ≡ false) → sets.len s ≡ 0
empty-set s h = ap (λ (x : FinSet nat_cmp). sets.len x)
    (same_set nat_cmp_total nat_cmp-IsAntisymmetric s sets.empty (λ n. h n ∙ sym (contains-empty nat_cmp n))) ∙ len-empty nat_cmp

removed-size : (s : FinSet nat_cmp) (t : ℕ) → sets.len s ≡ one_if (contains s t) + sets.len (sets.remove s t)
removed-size s t = by (contains s t) refl (sets.len s) refl (len-remove nat_cmp_total s t)
  where
    by : (b : Bool) → contains s t ≡ b → (m : ℕ) → sets.len s ≡ m → sets.len (sets.remove s t) ≡ cond b (sets.len s - 1) (sets.len s)
        → sets.len s ≡ one_if b + sets.len (sets.remove s t)
    by false e m size gone = omega (arith, gone)
    by true e zero size gone =
        let none : contains s t ≡ false = ap (λ (x : FinSet nat_cmp). contains x t) (empty_of_len s size) ∙ contains-empty nat_cmp t in
        absurd cc
    by true e (suc m) size gone = omega (arith, size, gone)

-- a set of numbers below t
set-size : (t : ℕ) (s : FinSet nat_cmp) → ((n : ℕ) → t ≤ n → contains s n ≡ false) → sets.len s ≡ sum_below (λ n. one_if (contains s n)) t
set-size zero s h = empty-set s (λ n. h n (omega arith))
set-size (suc t) s h =
    let left : (n : ℕ) → contains (sets.remove s t) n ≡ (not (n == t) && contains s n) =
    λ n. contains-remove nat_cmp_total s t n ∙ ap (λ b. not b && contains s n) (unsigned_tied n t) in
    let others = set-size t (sets.remove s t) (λ n more. ⊎_elim
    (λ (e : n ≡ t). left n ∙ ap (λ b. not b && contains s n) (eq-eqb n t e))
    (λ (ne : n ≢ t). left n ∙ ap (λ b. not b && contains s n) (ne_eqb n t ne) ∙ h n (omega (arith, ne)))
    (cases_eq n t)) in
    let same = sum-same (λ n. one_if (contains (sets.remove s t) n)) (λ n. one_if (contains s n)) t
    (λ n less. ap one_if (left n ∙ ap (λ b. not b && contains s n) (ne_eqb n t (λ (e : n ≡ t). omega arith)))) in
    let size = removed-size s t in
    omega (arith, others, same, size)

-- ---- the parts of a volume

none-there : (b : Bool) → one_if b ≡ 0 → b ≡ false
none-there true e = absurd (omega arith)
none-there false e = refl

-- are as many as its numbers
pub parts-size : (volume : VolumeState) (p : Parts) (in_hands : List ℕ) → IsPartition volume p in_hands
    → sets.len p.files + sets.len p.stock + sets.len p.dead + sets.len p.free + length in_hands ≡ volume.total
parts-size volume p in_hands is =
    let t : ℕ = volume.total in
    let past : (n : ℕ) → t ≤ n → one_if (nat_lt n t) ≡ 0 = λ n more. ap one_if (le-ltb n t more) in
    let files = set-size t p.files (λ n more. none-there (contains p.files n) (let o = is.once n in let z = past n more in omega (arith, o, z))) in
    let stock = set-size t p.stock (λ n more. none-there (contains p.stock n) (let o = is.once n in let z = past n more in omega (arith, o, z))) in
    let dead = set-size t p.dead (λ n more. none-there (contains p.dead n) (let o = is.once n in let z = past n more in omega (arith, o, z))) in
    let free = set-size t p.free (λ n more. none-there (contains p.free n) (let o = is.once n in let z = past n more in omega (arith, o, z))) in
    let hands = list-size t in_hands (λ n more. let o = is.once n in let z = past n more in let l : times_listed n in_hands ≡ 0 = omega (arith, o, z) in l) in
    let a = sum-added (λ n. one_if (contains p.files n)) (λ n. one_if (contains p.stock n)) t in
    let b = sum-added (λ n. one_if (contains p.files n) + one_if (contains p.stock n)) (λ n. one_if (contains p.dead n)) t in
    let c = sum-added (λ n. one_if (contains p.files n) + one_if (contains p.stock n) + one_if (contains p.dead n)) (λ n. one_if (contains p.free n)) t in
    let d = sum-added
    (λ n. one_if (contains p.files n) + one_if (contains p.stock n) + one_if (contains p.dead n) + one_if (contains p.free n))
    (λ n. times_listed n in_hands) t in
    let all = sum-same
    (λ n. one_if (contains p.files n) + one_if (contains p.stock n) + one_if (contains p.dead n) + one_if (contains p.free n) + times_listed n in_hands)
    (λ n. one_if (nat_lt n t)) t (λ n less. is.once n) in
    let ones = sum-below t t (omega arith) in
    omega (arith, files, stock, dead, free, hands, a, b, c, d, all, ones)
