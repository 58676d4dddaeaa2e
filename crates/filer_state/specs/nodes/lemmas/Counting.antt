-- How many blocks a file has: by the stripes that hold them, and by the blocks that are filled.
use Rattle.std.proofs.Common.{◌≡◌, ◌≢◌, ℕ, zero, suc, ◌+◌, ◌<◌, ◌≤◌, ◌==◌, ◌&&◌, ◌||◌, Bool, true, false, cond, List, [], ◌∷◌, length, Some, None}
use Rattle.std.proofs.Common.{refl, sym, ap, ◌∙◌, arith, eq-eqb, ne_eqb, Ordering, nat_eq}
use Rattle.std.specs.Prelude.{T, is_some}
use Rattle.std.proofs.lemmas.Bool.{eqb-true}
use Rattle.std.specs.declared.cmp.Ordering.TheVariants.{Less, Equal, Greater}
use Rattle.std.specs.List.{filter, list_any, range_with_len}
use Rattle.std.specs.Ordering.{nat_cmp, is_eq, is_lt, eq_by_cmp, ordering_then}
use Rattle.std.specs.Cmp.{nat_cmp_total, unsigned_tied}
use Rattle.std.specs.FinMap.{FinMap, find, is_sorted, entries, entries_sorted, get-entries, retain_keys, get-retain_keys, nat_cmp-IsAntisymmetric}
use Rattle.std.specs.FinMap.Entries.{where_key, is_sorted-where_key, find-where_key, same_entries, below_all}
use Rattle.std.specs.FinSet as sets
use Rattle.std.specs.FinSet.{from_list, retain, contains-retain, contains-from_list_nat}
use Rattle.nfs_model.specs.Parts.{one_if, count, times_listed}
use Rattle.depot_rule.specs.Sums.{total}
use Rattle.nfs_model.specs.volume.Stripes.{FileBlock, file_block_cmp, Block, StripeValue, stripe_of, is_filled}
use Rattle.nfs_model.specs.volume.lemmas.Entries.{place_total, place_same}
use Rattle.filer_state.specs.state.Tree.{stripe_at, home_stripe, file_filled, most_file_blocks}
use Rattle.filer_state.specs.laws.lemmas.Counted.{len-listed}

-- ---- lists

count-filter : {A : Type 0} (test : A → Bool) (xs : List A) → length (filter test xs) ≡ count test xs
count-filter test [] = refl
count-filter {A} test (x ∷ xs) = by (test x) (count-filter test xs)
  where
    by : (b : Bool) → length (filter test xs) ≡ count test xs → length (cond b (x ∷ filter test xs) (filter test xs)) ≡ one_if b + count test xs
    by true h = omega (arith, h)
    by false h = omega (arith, h)

count-same : {A : Type 0} (f g : A → Bool) → ((x : A) → f x ≡ g x) → (xs : List A) → count f xs ≡ count g xs
count-same f g same [] = refl
count-same f g same (x ∷ xs) = let here = ap one_if (same x) in let others = count-same f g same xs in omega (arith, here, others)

filtered-times : (test : ℕ → Bool) (n : ℕ) (xs : List ℕ) → times_listed n (filter test xs) ≤ times_listed n xs
filtered-times test n [] = omega arith
filtered-times test n (x ∷ xs) = by (test x) (filtered-times test n xs)
  where
    by : (b : Bool) → times_listed n (filter test xs) ≤ times_listed n xs → times_listed n (cond b (x ∷ filter test xs) (filter test xs))
        ≤ one_if (x == n) + times_listed n xs
    by true h = omega (arith, h)
    by false h = omega (arith, h)

any-filter : (test : ℕ → Bool) (n : ℕ) (xs : List ℕ) → list_any (λ y. nat_eq y n) (filter test xs) ≡ (list_any (λ y. nat_eq y n) xs && test n)
any-filter test n [] = refl
any-filter test n (x ∷ xs) = by (x == n) refl (test x) refl (any-filter test n xs)
  where
    by : (here : Bool) → (x == n) ≡ here → (b : Bool) → test x ≡ b
        → list_any (λ y. nat_eq y n) (filter test xs) ≡ (list_any (λ y. nat_eq y n) xs && test n)
        → list_any (λ y. nat_eq y n) (cond b (x ∷ filter test xs) (filter test xs)) ≡ ((here || list_any (λ y. nat_eq y n) xs) && test n)
    by true is true passes h =
        ap (λ (t : Bool). t || list_any (λ y. nat_eq y n) (filter test xs)) is
        ∙ sym (ap test (sym (eqb-true x n is)) ∙ passes)
    by true is false passes h =
        let fails : test n ≡ false = ap test (sym (eqb-true x n is)) ∙ passes in
        h ∙ ap (λ t. list_any (λ y. nat_eq y n) xs && t) fails ∙ none (list_any (λ y. nat_eq y n) xs) ∙ sym fails
      where
        none : (b : Bool) → (b && false) ≡ false
        none true = refl
        none false = refl
    by false is true passes h = ap (λ (t : Bool). t || list_any (λ y. nat_eq y n) (filter test xs)) is ∙ h
    by false is false passes h = h

-- a set of listed numbers that pass a test has as many as they are, where none stands twice
len-retained : (test : ℕ → Bool) (xs : List ℕ) → ((n : ℕ) → times_listed n xs ≤ 1) → sets.len (retain (from_list {R = nat_cmp} xs) test) ≡ count test xs
len-retained test xs once =
    ap sets.len (sets.same_set nat_cmp_total nat_cmp-IsAntisymmetric (retain (from_list xs) test) (from_list (filter test xs)) (λ q.
    contains-retain (from_list xs) test q (λ x same. ap test (sym (nat_cmp-IsAntisymmetric q x same)))
    ∙ ap (λ b. b && test q) (contains-from_list_nat xs q) ∙ sym (any-filter test q xs) ∙ sym (contains-from_list_nat (filter test xs) q)))
    ∙ len-listed (filter test xs) (λ n. let less = filtered-times test n xs in let most = once n in omega (arith, less, most))
    ∙ count-filter test xs

-- ---- a range of numbers

below-range : (n a k : ℕ) → n < a → times_listed n (range_with_len a k) ≡ 0
below-range n a zero less = refl
below-range n a (suc k) less =
    let here : one_if (a == n) ≡ 0 = ap one_if (ne_eqb a n (λ e. omega (arith, e, less))) in
    let others = below-range n (a + 1) k (omega (arith, less)) in
    omega (arith, here, others)

range-once : (n a k : ℕ) → times_listed n (range_with_len a k) ≤ 1
range-once n a zero = omega arith
range-once n a (suc k) = by (a == n) refl (range-once n (a + 1) k)
  where
    by : (b : Bool) → (a == n) ≡ b → times_listed n (range_with_len (a + 1) k) ≤ 1 → one_if b + times_listed n (range_with_len (a + 1) k) ≤ 1
    by true e h =
        let is : a ≡ n = eqb-true a n e in
        let none = below-range n (a + 1) k (omega (arith, is)) in
        omega (arith, none)
    by false e h = omega (arith, h)

-- a number of the range stands in it
range-there : (n a k : ℕ) → a ≤ n → n < a + k → times_listed n (range_with_len a k) ≡ 1
range-there n a zero low less = absurd (omega (arith, low, less))
range-there n a (suc k) low less = by (a == n) refl (range-there n (a + 1) k)
  where
    by : (b : Bool) → (a == n) ≡ b → (a + 1 ≤ n → n < a + 1 + k → times_listed n (range_with_len (a + 1) k) ≡ 1)
        → one_if b + times_listed n (range_with_len (a + 1) k) ≡ 1
    by true e further =
        let is : a ≡ n = eqb-true a n e in
        let none = below-range n (a + 1) k (omega (arith, is)) in
        omega (arith, none)
    by false e further =
        let ne : a ≢ n = (λ (h : a ≡ n). let t : (a == n) ≡ true = eq-eqb a n h in cc) in
        let others = further (omega (arith, low, ne)) (omega (arith, less)) in
        omega (arith, others)

-- ---- the stripes of a file's blocks

total-none : {A : Type 0} (g : A → ℕ) (xs : List A) → ((x : A) → g x ≡ 0) → total g xs ≡ 0
total-none g [] none = refl
total-none g (x ∷ xs) none = let here = none x in let others = total-none g xs none in omega (arith, here, others)

total-plus : {A : Type 0} (g h : A → ℕ) (xs : List A) → total (λ x. g x + h x) xs ≡ total g xs + total h xs
total-plus g h [] = refl
total-plus g h (x ∷ xs) = let others = total-plus g h xs in omega (arith, others)

-- a sum in which one place alone counts
total-only : (g : StripeValue → ℕ) (stripes : List StripeValue) (i : ℕ) → i < length stripes
    → ((j : ℕ) → j < length stripes → j ≢ i → g (stripe_at stripes j) ≡ 0) → total g stripes ≡ g (stripe_at stripes i)
total-only g [] i less others = absurd (omega (arith, less))
total-only g (s ∷ stripes) zero less others =
    let rest = all-zero stripes (λ j on. others (suc j) (omega (arith, on)) (λ e. omega (arith, e))) in omega (arith, rest)
  where
    all-zero : (ts : List StripeValue) → ((j : ℕ) → j < length ts → g (stripe_at ts j) ≡ 0) → total g ts ≡ 0
    all-zero [] none = refl
    all-zero (t ∷ ts) none =
        let here = none 0 (omega arith) in let more = all-zero ts (λ j on. none (suc j) (omega (arith, on))) in omega (arith, here, more)
total-only g (s ∷ stripes) (suc i) less others =
    let here = others 0 (omega arith) (λ e. omega (arith, e)) in
    let rest = total-only g stripes i (omega (arith, less)) (λ j on ne. others (suc j) (omega (arith, on)) (λ e. ne (omega (arith, e)))) in
    omega (arith, here, rest)

module _ (stripes : List StripeValue) (f : ℕ) (some : 0 < length stripes)
    (lies : (i : ℕ) → i < length stripes → (block : ℕ) → is_filled (stripe_at stripes i) f block ≡ true → stripe_of (length stripes) f block ≡ i) where
  -- a block is filled in its own stripe alone
  filled-once : (block : ℕ) → one_if (is_filled (home_stripe stripes f block) f block) ≡ total (λ (s : StripeValue). one_if (is_filled s f block)) stripes
  filled-once block = sym (total-only (λ (s : StripeValue). one_if (is_filled s f block)) stripes (stripe_of (length stripes) f block)
      (omega (arith, some)) (λ j on ne. by j on ne (is_filled (stripe_at stripes j) f block) refl))
    where
      by : (j : ℕ) → j < length stripes → j ≢ stripe_of (length stripes) f block → (b : Bool) → is_filled (stripe_at stripes j) f block ≡ b → one_if b ≡ 0
      by j on ne true e = absurd (ne (sym (lies j on block e)))
      by j on ne false e = refl

  counted-by-stripe : (blocks : List ℕ) → count (λ block. is_filled (home_stripe stripes f block) f block) blocks
      ≡ total (λ (s : StripeValue). count (is_filled s f) blocks) stripes
  counted-by-stripe [] = sym (total-none (λ (s : StripeValue). 0) stripes (λ s. refl))
  counted-by-stripe (block ∷ blocks) =
      let here = filled-once block in
      let others = counted-by-stripe blocks in
      let sum = total-plus (λ (s : StripeValue). one_if (is_filled s f block)) (λ (s : StripeValue). count (is_filled s f) blocks) stripes in
      omega (arith, here, others, sum)

-- ---- the entries of a stripe

abbrev pub is_of : ℕ → FileBlock × Block → Bool
is_of f e = e.0.0 == f

abbrev pub blocks_in : ℕ → StripeValue → ℕ
blocks_in f s = count (is_of f) (entries s.blocks)

order-both : (r t : Ordering) → is_eq (ordering_then r t) ≡ (is_eq r && is_eq t)
order-both Less t = refl
order-both Equal t = refl
order-both Greater t = refl

place-is : (p q : FileBlock) → eq_by_cmp file_block_cmp p q ≡ ((p.0 == q.0) && (p.1 == q.1))
place-is p q = order-both (nat_cmp p.0 q.0) (nat_cmp p.1 q.1) ∙ (λ j. unsigned_tied p.0 q.0 j && unsigned_tied p.1 q.1 j)

or-counts : (b c : Bool) → (b ≡ true → c ≡ false) → one_if (b || c) ≡ one_if b + one_if c
or-counts true true h = absurd (let e = h refl in cc)
or-counts true false h = refl
or-counts false c h = omega arith

count-or : (f g : ℕ → Bool) (xs : List ℕ) → ((x : ℕ) → f x ≡ true → g x ≡ false) → count (λ x. f x || g x) xs ≡ count f xs + count g xs
count-or f g [] apart = refl
count-or f g (x ∷ xs) apart = let here = or-counts (f x) (g x) (apart x) in let others = count-or f g xs apart in omega (arith, here, others)

second-test : (a b : Bool) → T (a && b) → T b
second-test true b h = h
second-test false b h = absurd h

first-test : (a b : Bool) → T (a && b) → T a
first-test true b h = tt
first-test false b h = absurd h

below-none : (q : FileBlock) (es : List (FileBlock × Block)) → T (below_all file_block_cmp q es) → find file_block_cmp q es ≡ None
below-none q [] h = refl
below-none q (e ∷ es) h = by (file_block_cmp q e.0) (first-test (is_lt (file_block_cmp q e.0)) (below_all file_block_cmp q es) h)
    (below-none q es (second-test (is_lt (file_block_cmp q e.0)) (below_all file_block_cmp q es) h))
  where
    by : (r : Ordering) → T (is_lt r) → find file_block_cmp q es ≡ None → cond (is_eq r) (Some e.1) (find file_block_cmp q es) ≡ None
    by Less t none = none
    by Equal t none = absurd t
    by Greater t none = absurd t

module _ (f most : ℕ) where
  abbrev has : List (FileBlock × Block) → ℕ → Bool
  has es block = is_some (find file_block_cmp (f, block) es)

  has-first : (e : FileBlock × Block) (es : List (FileBlock × Block)) (block : ℕ)
      → has (e ∷ es) block ≡ (((f == e.0.0) && (block == e.0.1)) || has es block)
  has-first e es block =
      ap (λ (b : Bool). is_some (cond b (Some e.1) (find file_block_cmp (f, block) es))) (place-is (f, block) e.0)
      ∙ by ((f == e.0.0) && (block == e.0.1))
    where
      by : (b : Bool) → is_some (cond b (Some e.1) (find file_block_cmp (f, block) es)) ≡ (b || has es block)
      by true = refl
      by false = refl

  -- the entries of a file are as many as its blocks, which are below a number
  entries-counted : (es : List (FileBlock × Block)) → T (is_sorted file_block_cmp es) → ((block : ℕ) → has es block ≡ true → block < most)
      → count (has es) (range_with_len 0 most) ≡ count (is_of f) es
  entries-counted [] sorted small = none (range_with_len 0 most)
    where
      none : (xs : List ℕ) → count (λ (block : ℕ). false) xs ≡ 0
      none [] = refl
      none (x ∷ xs) = let others = none xs in omega (arith, others)
  entries-counted (e ∷ es) sorted small =
      let later = second-test (below_all file_block_cmp e.0 es) (is_sorted file_block_cmp es) sorted in
      let rest = entries-counted es later (λ block h. small block (has-first e es block ∙ ap (λ (b : Bool). ((f == e.0.0) && (block == e.0.1)) || b) h
      ∙ either ((f == e.0.0) && (block == e.0.1)))) in
      count-same (has (e ∷ es)) (λ block. ((f == e.0.0) && (block == e.0.1)) || has es block) (has-first e es) (range_with_len 0 most)
      ∙ by (e.0.0 == f) refl rest (below-none e.0 es (first-test (below_all file_block_cmp e.0 es) (is_sorted file_block_cmp es) sorted))
    where
      either : (b : Bool) → (b || true) ≡ true
      either true = refl
      either false = refl

      by : (b : Bool) → (e.0.0 == f) ≡ b → count (has es) (range_with_len 0 most) ≡ count (is_of f) es → find file_block_cmp e.0 es ≡ None
          → count (λ block. ((f == e.0.0) && (block == e.0.1)) || has es block) (range_with_len 0 most) ≡ one_if b + count (is_of f) es
      by true is rest gone =
          let same : e.0.0 ≡ f = eqb-true e.0.0 f is in
          let test : (f == e.0.0) ≡ true = eq-eqb f e.0.0 (sym same) in
          let here : has (e ∷ es) e.0.1 ≡ true = has-first e es e.0.1
          ∙ ap (λ (b : Bool). (b && (e.0.1 == e.0.1)) || has es e.0.1) test ∙ ap (λ (b : Bool). b || has es e.0.1) (eq-eqb e.0.1 e.0.1 refl) in
          let less = small e.0.1 here in
          let once = range-there e.0.1 0 most (omega arith) (omega (arith, less)) in
          let apart : (block : ℕ) → (block == e.0.1) ≡ true → has es block ≡ false =
          (λ block h. ap (λ (b : ℕ). is_some (find file_block_cmp (f, b) es)) (eqb-true block e.0.1 h)
          ∙ ap (λ (k : ℕ). is_some (find file_block_cmp (k, e.0.1) es)) (sym same) ∙ ap (λ o. is_some o) gone) in
          let sum = count-or (λ block. block == e.0.1) (has es) (range_with_len 0 most) apart in
          count-same (λ block. ((f == e.0.0) && (block == e.0.1)) || has es block) (λ block. (block == e.0.1) || has es block)
          (λ block. ap (λ (b : Bool). (b && (block == e.0.1)) || has es block) test) (range_with_len 0 most)
          ∙ (let all : count (λ block. (block == e.0.1) || has es block) (range_with_len 0 most) ≡ 1 + count (is_of f) es =
          omega (arith, sum, once, rest) in all)
      by false is rest gone =
          let test : (f == e.0.0) ≡ false = ne_eqb f e.0.0 (λ (h : f ≡ e.0.0). let t : (e.0.0 == f) ≡ true = eq-eqb e.0.0 f (sym h) in cc) in
          count-same (λ block. ((f == e.0.0) && (block == e.0.1)) || has es block) (has es)
          (λ block. ap (λ (b : Bool). (b && (block == e.0.1)) || has es block) test) (range_with_len 0 most)
          ∙ (let all : count (has es) (range_with_len 0 most) ≡ 0 + count (is_of f) es = omega (arith, rest) in all)

-- ---- both

module _ (stripes : List StripeValue) (f : ℕ) (some : 0 < length stripes)
    (lies : (i : ℕ) → i < length stripes → (block : ℕ) → is_filled (stripe_at stripes i) f block ≡ true
    → (stripe_of (length stripes) f block ≡ i) × (block < most_file_blocks)) where
  in-each : (ts : List StripeValue) → ((i : ℕ) → i < length ts → (block : ℕ) → is_filled (stripe_at ts i) f block ≡ true → block < most_file_blocks)
      → total (λ (s : StripeValue). count (is_filled s f) (range_with_len 0 most_file_blocks)) ts ≡ total (blocks_in f) ts
  in-each [] small = refl
  in-each (s ∷ ts) small =
      let here : count (is_filled s f) (range_with_len 0 most_file_blocks) ≡ blocks_in f s =
      count-same (is_filled s f) (has f most_file_blocks (entries s.blocks)) (λ block. ap (λ o. is_some o) (get-entries s.blocks (f, block)))
      (range_with_len 0 most_file_blocks)
      ∙ entries-counted f most_file_blocks (entries s.blocks) (entries_sorted s.blocks)
      (λ block h. small 0 (omega arith) block (ap (λ o. is_some o) (get-entries s.blocks (f, block)) ∙ h)) in
      let others = in-each ts (λ i on. small (suc i) (omega (arith, on))) in
      omega (arith, here, others)

  -- a file's filled blocks are as many as its blocks in all stripes
  pub filled-counted : sets.len (file_filled stripes f) ≡ total (blocks_in f) stripes
  filled-counted =
      len-retained (λ block. is_filled (home_stripe stripes f block) f block) (range_with_len 0 most_file_blocks)
      (λ n. range-once n 0 most_file_blocks)
      ∙ counted-by-stripe stripes f some (λ i on block h. (lies i on block h).0) (range_with_len 0 most_file_blocks)
      ∙ in-each stripes (λ i on block h. (lies i on block h).1)

-- ---- entries that are kept

pub entries-retained : (m : FinMap file_block_cmp Block) (test : FileBlock → Bool) → entries (retain_keys m test) ≡ where_key file_block_cmp test (entries m)
entries-retained m test = same_entries file_block_cmp place_total place_same (entries (retain_keys m test)) (where_key file_block_cmp test (entries m))
    (entries_sorted (retain_keys m test)) (is_sorted-where_key file_block_cmp test (entries m) (entries_sorted m)) (λ q.
    sym (get-entries (retain_keys m test) q)
    ∙ get-retain_keys m test q (alike q)
    ∙ ap (λ o. cond (test q) o None) (get-entries m q)
    ∙ sym (find-where_key file_block_cmp test q (alike q) (entries m)))
  where
    alike : (q x : FileBlock) → file_block_cmp q x ≡ Equal → test x ≡ test q
    alike q x e = ap test (sym (place_same q x e))
