-- Spans whose blocks a cut takes.
use Rattle.std.proofs.Common.{◌≡◌, ℕ, ◌+◌, ◌-◌, ◌*◌, ◌/◌, ◌%◌, ◌<◌, ◌≤◌, ◌&&◌, Bool, true, false, cond, List, length, refl, sym, ap, ◌∙◌}
use Rattle.std.proofs.Common.{inl, inr, arith, subst, Option, Some, None, nat_le, nat_lt, get_or}
use Rattle.std.proofs.lemmas.Bool.{cases_lt}
use Rattle.std.proofs.lemmas.Bool.Decides.{nat_tests}
use Rattle.std.proofs.lemmas.Option.{same_Some}
use Rattle.std.specs.BTreeMap.{is_at}
use Rattle.nfs_model.specs.volume.Stripes.{file_block_cmp, span_blocks}
use Rattle.stripes.specs.Spans.{Places, Spans, place_of, place_in, span_of, block_at, span_at, AllFilled, SameSpans, ChangesSpan, TakesFrom, TakesNone}
use Rattle.stripes.specs.Spans.{HasBlock, IsTakenFrom, FreesSpan, is_in_rest, numbers_from}
use Rattle.stripes.proofs.Keys.{key-cases, key-itself}
use Rattle.stripes.proofs.Takes.{block-in-span, same-blocks, place-mod, none-until}
use Rattle.stripes.proofs.Rests.{numbers-same}

-- ---- one array

and-true : (t u : Bool) → u ≡ true → (t && u) ≡ t
and-true true u e = e
and-true false u e = refl

-- each place is before the last
cut-at : (from : ℕ) (old new : Places) → IsTakenFrom from old new → (b : ℕ) → place_of new b ≡ cond (nat_le from (b % span_blocks)) None (place_of old b)
cut-at from old new cut b =
    cut b ∙ ap (λ t. cond t None (place_of old b)) (and-true (nat_le from (b % span_blocks)) (nat_lt (b % span_blocks) span_blocks)
    (let below : nat_lt (b % span_blocks) span_blocks ≡ true = grind (arith, nat_tests) in below))

-- what is left of an array, which may be gone
record LeftOf (from : ℕ) (numbers : List ℕ) (old : Places) (left : Option Places) : Type 0 where
  some : 0 < length numbers
  told : numbers ≡ numbers_from from old
  gone : (b : ℕ) → place_in left b ≡ cond (nat_le from (b % span_blocks)) None (place_of old b)
  filled : (places : Places) → left ≡ Some places → HasBlock places

left-of : (from : ℕ) (numbers : List ℕ) (old : Places) (n : Option Places) → TakesFrom from numbers (Some old) n → LeftOf from numbers old n
left-of from numbers old None t = record {
  some = t.1.some;
  told = t.1.told;
  gone = λ b. sym (sym (place-mod t.0 b) ∙ t.1.empty refl (b % span_blocks) (omega arith) (omega arith)) ∙ cut-at from old t.0 t.1.taken b;
  filled = λ places e. absurd (cc);
}
left-of from numbers old (Some new) t = record {
  some = t.some;
  told = t.told;
  gone = cut-at from old new t.taken;
  filled = λ places e. subst HasBlock (same_Some _ _ e) (t.filled refl);
}

-- ---- all arrays

-- a span cut at a place is the file's first from there on
spans-in : (f s from : ℕ) (numbers : List ℕ) (old new : Spans) → from ≤ span_blocks → ChangesSpan (TakesFrom from numbers) (f, s) old new → AllFilled old
    → FreesSpan f (span_blocks * s + from) numbers old new
spans-in f s from numbers old new few changes filled = by (span_at old (f, s)) refl changes.here
  where
    by : (o : Option Places) → span_at old (f, s) ≡ o → TakesFrom from numbers o (span_at new (f, s)) → FreesSpan f (span_blocks * s + from) numbers old new
    by None e t = absurd t
    by (Some a) e t = let left = left-of from numbers a (span_at new (f, s)) t in record {
      span = s;
      from = from;
      within = few;
      after = omega arith;
      before = λ b first below. absurd (omega arith);
      some = left.some;
      told = left.told ∙ numbers-same (place_of a) (λ i. block_at old (f, span_blocks * s + i)) from (span_blocks - from) (λ i after below.
          sym (block-in-span old f s (span_blocks * s + i) (Some a) (omega arith) e
          ∙ ap (λ j. get_or a j None) (let h : (span_blocks * s + i) % span_blocks ≡ i % span_blocks = omega arith in h)));
      gone = λ p. elim (key-cases (f, s) (span_of p)) [
        | inl same ↦ ap (λ k. place_in (span_at new k) p.1) (sym same) ∙ left.gone p.1
            ∙ ap (cond (nat_le from (p.1 % span_blocks)) None)
            (sym (ap (λ k. place_in (span_at old k) p.1) (sym same) ∙ ap (λ o. place_in o p.1) e))
            ∙ sym (ap (λ t. cond (t && nat_le from (p.1 % span_blocks)) None (block_at old p))
            (ap (λ k. is_at (file_block_cmp (f, s)) k) (sym same) ∙ key-itself (f, s)))
        | inr other ↦ ap (λ o. place_in o p.1) (changes.others (span_of p) other)
            ∙ sym (ap (λ t. cond (t && nat_le from (p.1 % span_blocks)) None (block_at old p)) other)
      ];
      filled = λ k places h. elim (key-cases (f, s) k) [
        | inl same ↦ left.filled places (ap (span_at new) same ∙ h)
        | inr other ↦ filled k places (sym (changes.others k other) ∙ h)
      ];
    }

-- no block before it is there
spans-from : (f first after : ℕ) (numbers : List ℕ) (old mid new : Spans) → first ≤ after → SameSpans old mid
    → ((b : ℕ) → first ≤ b → b < after → block_at old (f, b) ≡ None) → FreesSpan f after numbers mid new → FreesSpan f first numbers old new
spans-from f first after numbers old mid new le same none frees = record {
  span = frees.span;
  from = frees.from;
  within = frees.within;
  after = let h = frees.after in omega arith;
  before = λ b from below. elim (cases_lt b after) [
    | inl h ↦ none b from h
    | inr h ↦ sym (same-blocks old mid same (f, b)) ∙ frees.before b h below
  ];
  some = frees.some;
  told = frees.told ∙ numbers-same (λ i. block_at mid (f, span_blocks * frees.span + i)) (λ i. block_at old (f, span_blocks * frees.span + i)) frees.from
      (span_blocks - frees.from) (λ i a b. same-blocks old mid same (f, span_blocks * frees.span + i));
  gone = λ p. frees.gone p ∙ ap (cond (is_in_rest f frees.span frees.from p) None) (same-blocks old mid same p);
  filled = frees.filled;
}

-- a file's first span after one, where no span between is there
pub spans-after : (f s next : ℕ) (numbers : List ℕ) (old new : Spans) → s + 1 ≤ next → ((t : ℕ) → s + 1 ≤ t → t < next → span_at old (f, t) ≡ None)
    → AllFilled old → ChangesSpan (TakesFrom 0 numbers) (f, next) old new → FreesSpan f (span_blocks * (s + 1)) numbers old new
spans-after f s next numbers old new le none filled changes =
    spans-from f (span_blocks * (s + 1)) (span_blocks * next + 0) numbers old old new (omega arith) (λ k. refl)
    (λ b from below. block-in-span old f (b / span_blocks) b None refl (none (b / span_blocks) (omega arith) (omega arith)))
    (spans-in f next 0 numbers old new (omega arith) changes filled)

-- the span of a number
pub spans-at : (f first : ℕ) (numbers : List ℕ) (old new : Spans) → AllFilled old
    → ChangesSpan (TakesFrom (first % span_blocks) numbers) (f, first / span_blocks) old new → FreesSpan f first numbers old new
spans-at f first numbers old new filled changes =
    subst (λ n. FreesSpan f n numbers old new) (let e : span_blocks * (first / span_blocks) + first % span_blocks ≡ first = omega arith in e)
    (spans-in f (first / span_blocks) (first % span_blocks) numbers old new (omega arith) changes filled)

-- a span past that of a number
pub spans-later : (f first : ℕ) (numbers : List ℕ) (old mid new : Spans) → SameSpans old mid
    → TakesNone (first % span_blocks) (span_at old (f, first / span_blocks))
    → FreesSpan f (span_blocks * (first / span_blocks + 1)) numbers mid new → FreesSpan f first numbers old new
spans-later f first numbers old mid new same none =
    spans-from f first (span_blocks * (first / span_blocks + 1)) numbers old mid new (omega arith) same
    (λ b from below. none-until f first b old none from below)
