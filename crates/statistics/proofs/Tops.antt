-- The longest times of buckets.
use Rattle.std.proofs.Common.{◌≡◌, ◌∙◌, ℕ, suc, zero, ◌+◌, ◌-◌, ◌*◌, ◌/◌, ◌%◌, ◌^◌, ◌<◌, ◌≤◌, ap, sym, subst, inl, inr, arith}
use Rattle.std.proofs.Common.{mul-pos, pow-suc, le-ltb, lt-ltb, eq-or-lt_of_le, lt_of_not-le}
use Rattle.std.proofs.Math.Nat.{add-mod_right}
use Rattle.std.proofs.lemmas.Nat.{pow_pos}
use Rattle.statistics.specs.Buckets.{top_of, IsBucketOf}

-- a product with twice a number is twice the product
twice : (q p : ℕ) → 0 < q → 0 < p → q * (p * 2) - 1 ≡ 2 * (q * p - 1) + 1
twice q p a b = let h : 0 < q * p = mul-pos a b in omega (arith, h)

-- the longest time of a bucket from the fourth on
top_of-above : (b : ℕ) → 4 ≤ b → top_of b ≡ (b % 4 + 5) * 2 ^ (b / 4 - 1) - 1
top_of-above b h = rw (le-ltb b 4 h)

-- four buckets further it is twice as long, and one more
top_of-further : (b : ℕ) → 4 ≤ b → top_of (b + 4) ≡ 2 * top_of b + 1
top_of-further b h =
    let here = top_of-above b h in
    let far : 4 ≤ b + 4 = omega arith in
    let there = top_of-above (b + 4) far in
    let same : (b + 4) % 4 ≡ b % 4 = add-mod_right b 4 in
    let more : (b + 4) / 4 - 1 ≡ suc (b / 4 - 1) = omega arith in
    there ∙ ap (λ r. (r + 5) * 2 ^ ((b + 4) / 4 - 1) - 1) same ∙ ap (λ n. (b % 4 + 5) * 2 ^ n - 1) more
    ∙ ap (λ n. (b % 4 + 5) * n - 1) (pow-suc 2 (b / 4 - 1))
    ∙ twice (b % 4 + 5) (2 ^ (b / 4 - 1)) (omega arith) (pow_pos (b / 4 - 1)) ∙ ap (λ n. 2 * n + 1) (sym here)

-- half a number below a power of two is below the power before it
half_below : (m k : ℕ) → m < 2 ^ (suc k + 3) → m / 2 < 2 ^ (k + 3)
half_below m k h =
    let next : suc k + 3 ≡ suc (k + 3) = omega arith in
    let e : 2 ^ (suc k + 3) ≡ 2 ^ (k + 3) * 2 = ap (λ n. 2 ^ n) next ∙ pow-suc 2 (k + 3) in
    omega (arith, e, h)

-- this many buckets are passed below a power of two, if half as long a time passes four fewer
pub passed_below : (m b : ℕ) → 8 ≤ m → ((k : ℕ) → m / 2 < 2 ^ (k + 3) → b < 4 * (k + 2)) → (k : ℕ) → m < 2 ^ (k + 3) → b + 4 < 4 * (k + 2)
passed_below m b long few zero h = let short : m < 8 = h in omega (arith, long, short)
passed_below m b long few (suc k) h = let half : b < 4 * (k + 2) = few k (half_below m k h) in omega (arith, half)

-- the longest time of each of the first four buckets
top_of-below : (b : ℕ) → b < 4 → top_of b ≡ b
top_of-below b h = rw (lt-ltb b 4 h)

-- a time of 4 and more isn't in the first four buckets
not_below : (time b : ℕ) → 4 ≤ time → time ≤ top_of b → b < 4 → ⊥
not_below time b long fits h = let e = top_of-below b h in omega (arith, e, fits, long, h)

above : (time b : ℕ) → 4 ≤ time → time ≤ top_of b → 4 ≤ b
above time b long fits = lt_of_not-le {n = b} {m = 3} (λ (h : b ≤ 3). not_below time b long fits (omega arith))

-- the longest time of the bucket before one that is four further
first_further : (m b before : ℕ) → 8 ≤ m → IsBucketOf (m / 2) b → 4 ≤ b → before + 1 ≡ b + 4 → top_of before < m
first_further m b before long is four e =
    elim (eq-or-lt_of_le four) [
      | inl same ↦
          let at : 7 ≡ before = omega (arith, same, e) in
          let short : 7 < m = omega (arith, long) in
          subst (λ n. top_of n < m) at short
      | inr more ↦
          let at : (b - 1) + 4 ≡ before = omega (arith, more, e) in
          let up : (b - 1) + 1 ≡ b = omega (arith, more) in
          let enough : 4 ≤ b - 1 = omega (arith, more) in
          let further = top_of-further (b - 1) enough in
          let half : top_of (b - 1) < m / 2 = is.first (b - 1) up in
          subst (λ n. top_of n < m) at (omega (arith, further, half))
    ]

-- a time of twice as long is four buckets further
pub bucket_further : (m b : ℕ) → 8 ≤ m → IsBucketOf (m / 2) b → IsBucketOf m (b + 4)
bucket_further m b long is =
    let half : 4 ≤ m / 2 = omega (arith, long) in
    let four = above (m / 2) b half is.fits in
    let further = top_of-further b four in
    let fits : m / 2 ≤ top_of b = is.fits in record {
      fits = omega (arith, further, fits);
      first = λ before e. first_further m b before long is four e;
    }
