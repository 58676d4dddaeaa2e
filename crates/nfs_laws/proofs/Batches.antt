-- A batch is at most 64 numbers of one range, ascending, where a range has this many blocks.
use Rattle.std.proofs.Common.{◌≡◌, ap, ◌∙◌, ℕ, zero, suc, ◌+◌, ◌-◌, ◌*◌, ◌/◌, ◌<◌, ◌≤◌, Bool, true, false, cond, List, [], ◌∷◌, length, map, take, arith}
use Rattle.std.proofs.lemmas.Nat.{div-mul-add}
use native.Mathlib.Nat.{mul_comm}
use Rattle.std.specs.List.{AllByRecursion, range_with_len, filter}
use Rattle.std.specs.Ordering.{nat_cmp}
use Rattle.std.specs.FinSet.{FinSet, contains}
use Rattle.nfs_model.specs.Parts.{IsAscending, IsBatch, most_carried, most_ranges}
use Rattle.nfs_model.specs.Moves.{in_range, batch, first_filled, lowest_batch}

-- ---- numbers that ascend, from a number on

abbrev Rising : ℕ → List ℕ → Type 0
Rising low [] = Unit {0}
Rising low (x ∷ xs) = (low ≤ x) × Rising (suc x) xs

lower : (a b : ℕ) (xs : List ℕ) → a ≤ b → Rising b xs → Rising a xs
lower a b [] l r = tt
lower a b (x ∷ xs) l r = let k = r.0 in (omega (arith, l, k), r.1)

rising_range : (a k : ℕ) → Rising a (range_with_len a k)
rising_range a zero = tt
rising_range a (suc k) = (omega arith, lower (suc a) (a + 1) (range_with_len (a + 1) k) (omega arith) (rising_range (a + 1) k))

rising_if : (c : Bool) (a x : ℕ) (xs ys : List ℕ) → a ≤ x → Rising (suc x) ys → Rising a (cond c (x ∷ ys) ys)
rising_if true a x xs ys l r = (l, r)
rising_if false a x xs ys l r = lower a (suc x) ys (omega (arith, l)) r

rising_filter : (p : ℕ → Bool) (a : ℕ) (xs : List ℕ) → Rising a xs → Rising a (filter p xs)
rising_filter p a [] r = tt
rising_filter p a (x ∷ xs) r = rising_if (p x) a x xs (filter p xs) r.0 (rising_filter p (suc x) xs r.1)

rising_take : (m a : ℕ) (xs : List ℕ) → Rising a xs → Rising a (take m xs)
rising_take zero a xs r = tt
rising_take (suc m) a [] r = tt
rising_take (suc m) a (x ∷ xs) r = (r.0, rising_take m (suc x) xs r.1)

ascending : (a : ℕ) (xs : List ℕ) → Rising a xs → IsAscending xs
ascending a [] r = tt
ascending a (x ∷ []) r = tt
ascending a (x ∷ (y ∷ xs)) r = let k = r.1.0 in (omega (arith, k), ascending (suc x) (y ∷ xs) r.1)

-- ---- numbers of a range

module _ (P : ℕ → Type 0) where
  all_range : (a k : ℕ) → ((n : ℕ) → a ≤ n → n < a + k → P n) → AllByRecursion P (range_with_len a k)
  all_range a zero f = tt
  all_range a (suc k) f = (f a (omega arith) (omega arith), all_range (a + 1) k (λ n l m. f n (omega (arith, l)) (omega (arith, m))))

  all_if : (c : Bool) (x : ℕ) (ys : List ℕ) → P x → AllByRecursion P ys → AllByRecursion P (cond c (x ∷ ys) ys)
  all_if true x ys p q = (p, q)
  all_if false x ys p q = q

  all_filter : (test : ℕ → Bool) (xs : List ℕ) → AllByRecursion P xs → AllByRecursion P (filter test xs)
  all_filter test [] q = tt
  all_filter test (x ∷ xs) q = all_if (test x) x (filter test xs) q.0 (all_filter test xs q.1)

  all_take : (m : ℕ) (xs : List ℕ) → AllByRecursion P xs → AllByRecursion P (take m xs)
  all_take zero xs q = tt
  all_take (suc m) [] q = tt
  all_take (suc m) (x ∷ xs) q = (q.0, all_take m xs q.1)

in_its_range_by : (size range low n : ℕ) → low ≡ range * size → low ≤ n → n < low + size → n / size ≡ range
in_its_range_by size range low n e l m =
    let parts : n ≡ range * size + (n - low) = omega (arith, e, l) in
    ap (λ k. k / size) parts ∙ div-mul-add range size (n - low) (omega (arith, l, m))

in_its_range : (size range n : ℕ) → size * range ≤ n → n < size * range + size → n / size ≡ range
in_its_range size range n l m = in_its_range_by size range (size * range) n (mul_comm size range) l m

few_taken : (m : ℕ) (xs : List ℕ) → length (take m xs) ≤ m
few_taken zero xs = omega arith
few_taken (suc m) [] = omega arith
few_taken (suc m) (x ∷ xs) = omega (arith, few_taken m xs)

-- ---- batches

pub batch_is : (size range : ℕ) (blocks : FinSet nat_cmp) → IsBatch size range (batch size range blocks)
unfolding in_range
batch_is size range blocks =
    let numbers : List ℕ = range_with_len (size * range) size in
    record {
      few = few_taken most_carried (filter (contains blocks) numbers);
      ascending = ascending (size * range) (take most_carried (filter (contains blocks) numbers))
          (rising_take most_carried (size * range) (filter (contains blocks) numbers)
          (rising_filter (contains blocks) (size * range) numbers (rising_range (size * range) size)));
      of_range = all_take (λ b. b / size ≡ range) most_carried (filter (contains blocks) numbers)
          (all_filter (λ b. b / size ≡ range) (contains blocks) numbers
          (all_range (λ b. b / size ≡ range) (size * range) size (in_its_range size range)));
    }

-- one of these ranges, or no block
first_is : (size : ℕ) (batches : List (List ℕ)) → AllByRecursion (λ xs. (range : ℕ) × IsBatch size range xs) batches
    → (range : ℕ) × IsBatch size range (first_filled batches)
first_is size [] q = (0, record { few = omega arith; ascending = tt; of_range = tt })
first_is size ([] ∷ batches) q = first_is size batches q.1
first_is size ((x ∷ xs) ∷ batches) q = q.0

all_batches : (size : ℕ) (blocks : FinSet nat_cmp) (ranges : List ℕ)
    → AllByRecursion (λ xs. (range : ℕ) × IsBatch size range xs) (map (λ r. batch size r blocks) ranges)
all_batches size blocks [] = tt
all_batches size blocks (r ∷ ranges) = ((r, batch_is size r blocks), all_batches size blocks ranges)

pub lowest_is : (size : ℕ) (blocks : FinSet nat_cmp) → (range : ℕ) × IsBatch size range (lowest_batch size blocks)
unfolding lowest_batch
lowest_is size blocks =
    first_is size (map (λ r. batch size r blocks) (range_with_len 0 most_ranges)) (all_batches size blocks (range_with_len 0 most_ranges))
