-- The numbers of the blocks past a size that a span has.
use Rattle.std.proofs.Common.{◌≡◌, ℕ, zero, suc, ◌+◌, ◌*◌, ◌/◌, ◌%◌, ◌==◌, ◌<◌, ◌≤◌, ◌&&◌, ◌||◌, Bool, true, false, cond, List, ◌∷◌, ◌++◌}
use Rattle.std.proofs.Common.{map, refl, sym, ap, ◌∙◌, inl, inr, arith}
use Rattle.std.proofs.Common.{Option, Some, None, nat_le, eq-eqb}
use Rattle.std.proofs.lemmas.Bool.{cases_eq, cases_lt}
use Rattle.std.proofs.lemmas.Bool.Decides.{nat_tests}
use Rattle.std.specs.declared.cmp.Ordering.TheVariants.{Greater}
use Rattle.std.specs.Ordering.{is_gt}
use Rattle.std.specs.BTreeMap.{is_at}
use Rattle.std.specs.FinMap.{FinMap, get, remove, get-remove, same_map}
use Rattle.nfs_model.specs.Server.{block_size}
use Rattle.nfs_model.specs.volume.lemmas.Entries.{place_total, place_same}
use Rattle.nfs_model.specs.volume.Stripes.{Block, FileBlock, file_block_cmp, span_blocks, is_cut_off}
use Rattle.stripes.specs.Spans.{span_of, numbers_past, numbers_at, with_number, is_in_rest}
use Rattle.stripes.proofs.Keys.{key-cases, key-itself, key-same, key-other, key-within, key-turned, upto-span}
use Rattle.stripes.proofs.Places.{unlike}
use Rattle.stripes.proofs.Freed.{freed-first}

-- ---- blocks past a size

pub past-place : (f size : ℕ) (p : FileBlock) → is_cut_off f size p ≡ true → (p.0 ≡ f) × (size ≤ block_size * p.1)
past-place f size p h = elim (cases_eq p.0 f) [
  | inl e ↦ (
    e,
    let g : nat_le size (block_size * p.1) ≡ true = ap (λ t. t && nat_le size (block_size * p.1)) (sym (eq-eqb p.0 f e))
        ∙ h in grind (arith, nat_tests),
  )
  | inr n ↦ absurd (let no : false ≡ true = sym (ap (λ t. t && nat_le size (block_size * p.1)) (unlike p.0 f n)) ∙ h in cc)
]

pub is-past : (f size b : ℕ) → size ≤ block_size * b → is_cut_off f size (f, b) ≡ true
is-past f size b h = ap (λ t. t && nat_le size (block_size * b)) (eq-eqb f f refl)
    ∙ (let e : nat_le size (block_size * b) ≡ true = grind (arith, nat_tests) in e)

-- of a file's blocks, those whose keys are smaller are before
before-key : (f b : ℕ) (q : FileBlock) → q.0 ≡ f → file_block_cmp (f, b) q ≡ Greater → q.1 < b
before-key f b q e after = elim (cases_lt q.1 b) [
  | inl h ↦ h
  | inr h ↦ absurd (let no : true ≡ false = sym (ap is_gt after) ∙ ap (λ t. is_gt (file_block_cmp (f, b) (t, q.1))) e ∙ upto-span f b q.1 h in cc)
]

-- ---- a place of the rest

abbrev nothing : Option Block
nothing = None

either : (t : Bool) → cond t nothing nothing ≡ None
either true = refl
either false = refl

or-none : (a b : Bool) (o : Option Block) → cond (a || b) None o ≡ cond b None (cond a None o)
or-none true b o = sym (either b)
or-none false b o = refl

and-false : (t u : Bool) → u ≡ false → (t && u) ≡ false
and-false true u e = e
and-false false u e = refl

-- from a place on are the place and what is after it
rest-more : (f s i : ℕ) (q : FileBlock) → i < span_blocks
    → is_in_rest f s i q ≡ (is_at (file_block_cmp (f, span_blocks * s + i)) q || is_in_rest f s (i + 1) q)
rest-more f s i q below = elim (key-cases (f, s) (span_of q)) [
  | inl same ↦
      let there : is_at (file_block_cmp (f, s)) (span_of q) ≡ true = ap (λ k. is_at (file_block_cmp (f, s)) k) (sym same) ∙ key-itself (f, s) in
      ap (λ t. t && nat_le i (q.1 % span_blocks)) there ∙ parts (q.1 % span_blocks)
      ∙ sym (ap (λ t. t || is_in_rest f s (i + 1) q) (key-within f s i q below same)
      ∙ ap (λ t. (q.1 % span_blocks == i) || (t && nat_le (i + 1) (q.1 % span_blocks))) there)
  | inr other ↦
      let span : (span_blocks * s + i) / span_blocks ≡ s = omega (arith, below) in
      ap (λ t. t && nat_le i (q.1 % span_blocks)) other
      ∙ sym (ap (λ t. t || is_in_rest f s (i + 1) q)
      (key-other f (span_blocks * s + i) q (ap (λ t. is_at (file_block_cmp (f, t)) (span_of q)) span ∙ other))
      ∙ ap (λ t. t && nat_le (i + 1) (q.1 % span_blocks)) other)
]
  where
    parts : (r : ℕ) → nat_le i r ≡ ((r == i) || nat_le (i + 1) r)
    parts r = grind (arith, nat_tests)

true-of : (t u : Bool) → (t && u) ≡ true → (t ≡ true) × (u ≡ true)
true-of true u e = (refl, e)
true-of false u e = absurd (cc)

-- what is in the rest of a span
pub rest-place : (f s from : ℕ) (q : FileBlock) → is_in_rest f s from q ≡ true → (q.0 ≡ f) × ((q.1 / span_blocks ≡ s) × (from ≤ q.1 % span_blocks))
rest-place f s from q h =
    let both = true-of _ _ h in
    let same = key-same (f, s) (span_of q) both.0 in
    let after = both.1 in (
      sym (ap (λ (p : FileBlock). p.0) same),
      (
        sym (ap (λ (p : FileBlock). p.1) same),
        (let there : from ≤ q.1 % span_blocks = grind (arith, nat_tests, after) in there),
      ),
    )

-- none is past the last place
rest-none : (f s i : ℕ) (q : FileBlock) → i ≡ span_blocks → is_in_rest f s i q ≡ false
rest-none f s i q e =
    and-false _ (nat_le i (q.1 % span_blocks)) (let past : nat_le i (q.1 % span_blocks) ≡ false = grind (arith, nat_tests) in past)

-- ---- one place after another

-- the blocks of a span from a place on, in a map
pub record IsRest (f size s : ℕ) (g : ℕ → Option Block) (i : ℕ) (m new : FinMap file_block_cmp Block) : Type 0 where
  pub past : size ≤ block_size * (span_blocks * s + i)
  pub same : (j : ℕ) → i ≤ j → j < span_blocks → get m (f, span_blocks * s + j) ≡ g j
  pub before : (q : FileBlock) → is_cut_off f size q ≡ true → q.1 < span_blocks * s + i → get m q ≡ None
  pub gone : (q : FileBlock) → get new q ≡ cond (is_in_rest f s i q) None (get m q)

abbrev IsWithout : FileBlock → FinMap file_block_cmp Block → FinMap file_block_cmp Block → Type 0
IsWithout k m left = (q : FileBlock) → get left q ≡ cond (is_at (file_block_cmp k) q) None (get m q)

-- without its first place
rest-without : (f size s : ℕ) (g : ℕ → Option Block) (i : ℕ) (m new left : FinMap file_block_cmp Block) → i < span_blocks → IsRest f size s g i m new
    → IsWithout (f, span_blocks * s + i) m left → IsRest f size s g (i + 1) left new
rest-without f size s g i m new left below rest without = record {
  past = let past = rest.past in omega (arith, past);
  same = λ j after within.
      without (f, span_blocks * s + j) ∙ ap (λ t. cond t None (get m (f, span_blocks * s + j))) (apart j after)
      ∙ rest.same j (omega (arith, after)) within;
  before = λ q p less. without q ∙ elim (cases_lt q.1 (span_blocks * s + i)) [
    | inl h ↦ ap (cond (is_at (file_block_cmp k) q) None) (rest.before q p h) ∙ either (is_at (file_block_cmp k) q)
    | inr h ↦
        let number : q.1 ≡ span_blocks * s + i = omega (arith, less, h) in
        ap (λ t. cond t None (get m q))
        (ap (λ n. is_at (file_block_cmp k) (n, q.1)) (past-place f size q p).0 ∙ ap (λ n. is_at (file_block_cmp k) (f, n)) number ∙ key-itself k)
  ];
  gone = λ q.
      rest.gone q ∙ ap (λ t. cond t None (get m q)) (rest-more f s i q below)
      ∙ or-none (is_at (file_block_cmp k) q) (is_in_rest f s (i + 1) q) (get m q)
      ∙ ap (cond (is_in_rest f s (i + 1) q) None) (sym (without q));
}
  where
    k : FileBlock
    k = (f, span_blocks * s + i)

    apart : (j : ℕ) → i + 1 ≤ j → is_at (file_block_cmp k) (f, span_blocks * s + j) ≡ false
    apart j after = elim (key-cases k (f, span_blocks * s + j)) [
      | inl e ↦ absurd (let number : span_blocks * s + i ≡ span_blocks * s + j = ap (λ (p : FileBlock). p.1) e in omega (arith, number, after))
      | inr other ↦ other
    ]

-- a map has no more without a place that it doesn't have
without-none : (m : FinMap file_block_cmp Block) (k : FileBlock) → get m k ≡ None → IsWithout k m m
without-none m k none q = elim (key-cases k q) [
  | inl same ↦ let absent : get m q ≡ None = ap (get m) (sym same) ∙ none in
      absent ∙ sym (ap (cond (is_at (file_block_cmp k) q) None) absent ∙ either (is_at (file_block_cmp k) q))
  | inr other ↦ sym (ap (λ t. cond t None (get m q)) other)
]

removed : (m : FinMap file_block_cmp Block) (k : FileBlock) → IsWithout k m (remove m k)
removed m k q = get-remove place_total m k q ∙ ap (λ t. cond t None (get m q)) (sym (key-turned k q))

-- the numbers past a size are those of the rest of a span and those that are left
pub freed-rest : (f size s : ℕ) (g : ℕ → Option Block) (n i : ℕ) (m new : FinMap file_block_cmp Block) → i + n ≡ span_blocks → IsRest f size s g i m new
    → numbers_past f size m ≡ numbers_at g i n ++ numbers_past f size new
freed-rest f size s g zero i m new e rest =
    ap (numbers_past f size) (same_map place_total place_same m new (λ q.
    sym (rest.gone q ∙ ap (λ t. cond t None (get m q)) (rest-none f s i q (omega (arith, e))))))
freed-rest f size s g (suc n) i m new e rest =
    by (g i) refl (λ left without. freed-rest f size s g n (i + 1) left new (omega (arith, e))
    (rest-without f size s g i m new left (omega (arith, e)) rest without))
  where
    k : FileBlock
    k = (f, span_blocks * s + i)

    later : List ℕ
    later = numbers_at g (i + 1) n ++ numbers_past f size new

    by : (o : Option Block) → g i ≡ o → ((left : FinMap file_block_cmp Block) → IsWithout k m left → numbers_past f size left ≡ later)
        → numbers_past f size m ≡ with_number o (numbers_at g (i + 1) n) ++ numbers_past f size new
    by None h next = next m (without-none m k (rest.same i (omega arith) (omega (arith, e)) ∙ h))
    by (Some b) h next =
        ap (map (λ (x : FileBlock × Block). x.1.number)) (freed-first (is_cut_off f size) k b m (remove m k) (is-past f size (span_blocks * s + i) rest.past)
        (rest.same i (omega arith) (omega (arith, e)) ∙ h) (removed m k)
        (λ q p after. rest.before q p (before-key f (span_blocks * s + i) q (past-place f size q p).0 after)))
        ∙ ap (λ ns. b.number ∷ ns) (next (remove m k) (removed m k))
