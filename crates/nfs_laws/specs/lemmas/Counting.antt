-- How often a number stands in a batch, and in a set that a batch leaves or comes into.
use Rattle.std.proofs.Common.{◌≡◌, ℕ, zero, suc, ◌+◌, ◌*◌, ◌≤◌, Bool, true, false, not, cond, List, [], ◌∷◌, ◌++◌, map, take, refl, sym, ap, ◌∙◌, arith}
use Rattle.std.proofs.Common.{nat_eq, nat_lt, nat_le}
use Rattle.std.specs.Prelude.{◌==◌, ◌&&◌, ◌||◌}
use Rattle.std.specs.List.{AllByRecursion, range_with_len, filter, list_any}
use Rattle.std.specs.Ordering.{nat_cmp}
use Rattle.std.specs.FinSet.{FinSet, contains, difference, union, from_list, contains-difference, contains-union, contains-from_list_nat}
use Rattle.std.specs.Cmp.{nat_cmp_total}
use Rattle.std.proofs.lemmas.Bool.{eqb-true}
use Rattle.std.proofs.lemmas.Bool.Decides.{nat_tests}
use Rattle.nfs_model.specs.Parts.{one_if, times_listed}
use Rattle.nfs_model.specs.Moves.{in_range, batch, first_filled, lowest_batch}

pub times_listed-append : (n : ℕ) (xs ys : List ℕ) → times_listed n (xs ++ ys) ≡ times_listed n xs + times_listed n ys
times_listed-append n [] ys = omega arith
times_listed-append n (x ∷ xs) ys = omega (arith, times_listed-append n xs ys)

-- ---- numbers in a list

times_listed-range : (n a k : ℕ) → times_listed n (range_with_len a k) ≡ one_if (nat_le a n && nat_lt n (a + k))
times_listed-range n a zero = grind (arith, nat_tests)
times_listed-range n a (suc k) = ap (λ (t : ℕ). one_if (a == n) + t) (times_listed-range n (a + 1) k) ∙ grind (arith, nat_tests)

one_if_most : (b : Bool) → one_if b ≤ 1
one_if_most true = omega arith
one_if_most false = omega arith

range_once : (n a k : ℕ) → times_listed n (range_with_len a k) ≤ 1
range_once n a k = omega (arith, times_listed-range n a k, one_if_most (nat_le a n && nat_lt n (a + k)))

take_fewer : (n m : ℕ) (xs : List ℕ) → times_listed n (take m xs) ≤ times_listed n xs
take_fewer n zero xs = omega arith
take_fewer n (suc m) [] = omega arith
take_fewer n (suc m) (x ∷ xs) = omega (arith, take_fewer n m xs)

-- one number passes a test or not, and all others as before
passing : (n x t : ℕ) (rest : List ℕ) (c d q : Bool) → (x == n) ≡ d → (d ≡ true → c ≡ q) → times_listed n rest ≡ cond q t 0
    → times_listed n (cond c (x ∷ rest) rest) ≡ cond q (one_if d + t) 0
passing n x t rest true d true e same h = let f : one_if (x == n) ≡ one_if d = ap (λ (b : Bool). one_if b) e in omega arith
passing n x t rest true true false e same h = absurd (let f : true ≡ false = same refl in cc)
passing n x t rest true false false e same h = let f : one_if (x == n) ≡ 0 = ap (λ (b : Bool). one_if b) e in omega arith
passing n x t rest false true true e same h = absurd (let f : false ≡ true = same refl in cc)
passing n x t rest false false true e same h = omega arith
passing n x t rest false d false e same h = h

no_times : (b : Bool) → cond b (times_listed 0 []) 0 ≡ 0
no_times true = refl
no_times false = refl

times_listed-filter : (p : ℕ → Bool) (n : ℕ) (xs : List ℕ) → times_listed n (filter p xs) ≡ cond (p n) (times_listed n xs) 0
times_listed-filter p n [] = sym (no_times (p n))
times_listed-filter p n (x ∷ xs) =
    passing n x (times_listed n xs) (filter p xs) (p x) (x == n) (p n) refl (λ e. ap p (eqb-true x n e)) (times_listed-filter p n xs)

most_if : (b : Bool) (t : ℕ) → t ≤ 1 → cond b t 0 ≤ one_if b
most_if true t h = h
most_if false t h = omega arith

-- a batch has each number of the set at most once, and no other
pub batch_within : (size range n : ℕ) (s : FinSet nat_cmp) → times_listed n (batch size range s) ≤ one_if (contains s n)
unfolding in_range
batch_within size range n s =
    omega (
      arith,
      take_fewer n 64 (filter (contains s) (range_with_len (size * range) size)),
      times_listed-filter (contains s) n
          (range_with_len (size * range) size),
      most_if (contains s n) _ (range_once n (size * range) size),
    )

first_within : (n m : ℕ) (xss : List (List ℕ)) → AllByRecursion (λ xs. times_listed n xs ≤ m) xss → times_listed n (first_filled xss) ≤ m
first_within n m [] p = omega arith
first_within n m ([] ∷ xss) p = first_within n m xss p.1
first_within n m ((x ∷ xs) ∷ xss) p = p.0

batches_within : (size n : ℕ) (s : FinSet nat_cmp) (ranges : List ℕ)
    → AllByRecursion (λ xs. times_listed n xs ≤ one_if (contains s n)) (map (λ r. batch size r s) ranges)
batches_within size n s [] = tt
batches_within size n s (r ∷ ranges) = (batch_within size r n s, batches_within size n s ranges)

pub lowest_within : (size n : ℕ) (s : FinSet nat_cmp) → times_listed n (lowest_batch size s) ≤ one_if (contains s n)
unfolding lowest_batch
lowest_within size n s =
    first_within n (one_if (contains s n)) (map (λ r. batch size r s) (range_with_len 0 16)) (batches_within size n s (range_with_len 0 16))

-- ---- a batch and a set

listed_or : (d : Bool) (t : ℕ) (b : Bool) → b ≡ nat_lt 0 t → (d || b) ≡ nat_lt 0 (one_if d + t)
listed_or true t b e = grind (arith, nat_tests)
listed_or false t b e = e ∙ grind (arith, nat_tests)

list_any-listed : (n : ℕ) (xs : List ℕ) → list_any (λ y. nat_eq y n) xs ≡ nat_lt 0 (times_listed n xs)
list_any-listed n [] = refl
list_any-listed n (x ∷ xs) = listed_or (x == n) (times_listed n xs) (list_any (λ y. nat_eq y n) xs) (list_any-listed n xs)

pub contains_listed : (xs : List ℕ) (n : ℕ) → contains (from_list {R = nat_cmp} xs) n ≡ nat_lt 0 (times_listed n xs)
contains_listed xs n = contains-from_list_nat xs n ∙ list_any-listed n xs

taken_away : (c : Bool) (t : ℕ) → t ≤ one_if c → one_if (c && not (nat_lt 0 t)) + t ≡ one_if c
taken_away c t h = grind (arith, nat_tests)

-- a batch of a set leaves it
pub batch_leaves : (s : FinSet nat_cmp) (xs : List ℕ) (n : ℕ) → times_listed n xs ≤ one_if (contains s n)
    → one_if (contains (difference s (from_list xs)) n) + times_listed n xs ≡ one_if (contains s n)
batch_leaves s xs n h =
    ap (λ (b : Bool). one_if b + times_listed n xs) (contains-difference nat_cmp_total s (from_list xs) n
    ∙ ap (λ (b : Bool). contains s n && not b) (contains_listed xs n)) ∙ taken_away (contains s n) (times_listed n xs) h

put_to : (c : Bool) (t : ℕ) → one_if c + t ≤ 1 → one_if (c || nat_lt 0 t) ≡ one_if c + t
put_to c t h = grind (arith, nat_tests)

-- a batch that isn't in a set comes into it
pub batch_comes : (s : FinSet nat_cmp) (xs : List ℕ) (n : ℕ) → one_if (contains s n) + times_listed n xs ≤ 1
    → one_if (contains (union s (from_list xs)) n) ≡ one_if (contains s n) + times_listed n xs
batch_comes s xs n h =
    ap (λ (b : Bool). one_if b) (contains-union nat_cmp_total s (from_list xs) n ∙ ap (λ (b : Bool). contains s n || b) (contains_listed xs n))
    ∙ put_to (contains s n) (times_listed n xs) h
