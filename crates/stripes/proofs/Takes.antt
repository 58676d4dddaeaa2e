-- Blocks that are taken out of the arrays.
use Rattle.std.proofs.Common.{◌≡◌, ℕ, ◌+◌, ◌*◌, ◌/◌, ◌%◌, ◌<◌, ◌≤◌, ◌==◌, cond, refl, sym, ap, ◌∙◌, inl, inr, arith, subst, Option, Some}
use Rattle.std.proofs.Common.{None, get_or}
use Rattle.std.proofs.lemmas.Bool.{cases_lt}
use Rattle.std.proofs.lemmas.Option.{same_Some}
use Rattle.std.specs.BTreeMap.{is_at}
use Rattle.nfs_model.specs.volume.Stripes.{Block, FileBlock, file_block_cmp, span_blocks}
use Rattle.stripes.specs.Spans.{Places, Spans, place_of, place_in, span_of, block_at, span_at, AllFilled, SameSpans, ChangesSpan, Where, Stays}
use Rattle.stripes.specs.Spans.{Takes, TakesNone, IsFirst, HasBlock, HasNoneFrom, FreesFirst}
use Rattle.stripes.proofs.Keys.{key-cases, key-other, key-within}

-- the block of a file in a span
pub block-in-span : (spans : Spans) (f s b : ℕ) (o : Option Places) → b / span_blocks ≡ s → span_at spans (f, s) ≡ o → block_at spans (f, b) ≡ place_in o b
block-in-span spans f s b o e h = ap (λ t. place_in (span_at spans (f, t)) b) e ∙ ap (λ p. place_in p b) h

-- arrays that are the same have the same blocks
pub same-blocks : (old new : Spans) → SameSpans old new → (p : FileBlock) → block_at new p ≡ block_at old p
same-blocks old new same p = ap (λ o. place_in o p.1) (same (span_of p))

same-array : (o n : Option Places) → Where Stays o n → n ≡ o
same-array None None h = refl
same-array None (Some b) h = absurd h
same-array (Some a) None h = absurd h
same-array (Some a) (Some b) h = ap Some h

-- an array that stays
pub stays-same : (k : FileBlock) (old new : Spans) → ChangesSpan (Where Stays) k old new → SameSpans old new
stays-same k old new changes q = elim (key-cases k q) [
  | inl e ↦ subst (λ q. span_at new q ≡ span_at old q) e (same-array (span_at old k) (span_at new k) changes.here)
  | inr n ↦ changes.others q n
]

-- a place is known by what is left when it is divided
pub place-mod : (places : Places) (b : ℕ) → place_of places (b % span_blocks) ≡ place_of places b
place-mod places b = ap (λ i. get_or places i None) (let e : b % span_blocks % span_blocks ≡ b % span_blocks = omega arith in e)

-- what is left of an array, which may be gone
record Left (f s from : ℕ) (block : Block) (old : Places) (left : Option Places) : Type 0 where
  place : ℕ
  first : IsFirst from place old
  there : place_of old place ≡ Some block
  gone : (b : ℕ) → place_in left b ≡ cond (b % span_blocks == place) None (place_of old b)
  filled : (places : Places) → left ≡ Some places → HasBlock places

left-of : (f s from : ℕ) (block : Block) (old : Places) (n : Option Places) → Takes from block (Some old) n → Left f s from block old n
left-of f s from block old None t = record {
  place = t.1.place;
  first = t.1.first;
  there = t.1.taken.there;
  gone = λ b. sym (sym (place-mod t.0 b) ∙ t.1.empty refl (b % span_blocks) (omega arith) (omega arith)) ∙ t.1.taken.gone b;
  filled = λ places e. absurd (cc);
}
left-of f s from block old (Some new) t = record {
  place = t.place;
  first = t.first;
  there = t.taken.there;
  gone = t.taken.gone;
  filled = λ places e. subst HasBlock (same_Some _ _ e) (t.filled refl);
}

-- the first block of a span from a place on is the file's first from there on
frees-in : (f s from : ℕ) (block : Block) (old new : Spans) → from ≤ span_blocks → ChangesSpan (Takes from block) (f, s) old new → AllFilled old
    → FreesFirst f (span_blocks * s + from) block old new
frees-in f s from block old new few changes filled = by (span_at old (f, s)) refl changes.here
  where
    by : (o : Option Places) → span_at old (f, s) ≡ o → Takes from block o (span_at new (f, s)) → FreesFirst f (span_blocks * s + from) block old new
    by None e t = absurd t
    by (Some a) e t = let left = left-of f s from block a (span_at new (f, s)) t in record {
      number = span_blocks * s + left.place;
      from = let h = left.first.after in omega arith;
      before = λ b first below. block-in-span old f s b (Some a) (let h = left.first.within in omega arith) e ∙ sym (place-mod a b)
          ∙ left.first.before (b % span_blocks) (let h = left.first.within in omega arith) (let h = left.first.within in omega arith);
      there = block-in-span old f s (span_blocks * s + left.place) (Some a) (let h = left.first.within in omega arith) e
          ∙ ap (λ i. get_or a i None) (let g = left.first.within in let h :
          (span_blocks * s + left.place) % span_blocks ≡ left.place % span_blocks = omega arith in h) ∙ left.there;
      gone = λ p. elim (key-cases (f, s) (span_of p)) [
        | inl same ↦ ap (λ k. place_in (span_at new k) p.1) (sym same) ∙ left.gone p.1
            ∙ ap (λ t. cond t None (place_of a p.1)) (sym (key-within f s left.place p left.first.within same))
            ∙ ap (cond (is_at (file_block_cmp (f, span_blocks * s + left.place)) p) None)
            (sym (ap (λ k. place_in (span_at old k) p.1) (sym same) ∙ ap (λ o. place_in o p.1) e))
        | inr other ↦ ap (λ o. place_in o p.1) (changes.others (span_of p) other)
            ∙ ap (λ t. cond t None (block_at old p)) (sym (key-other f (span_blocks * s + left.place) p
            (ap (λ t. is_at (file_block_cmp (f, t)) (span_of p)) (let g = left.first.within in let h :
            (span_blocks * s + left.place) / span_blocks ≡ s = omega arith in h) ∙ other)))
      ];
      filled = λ k places h. elim (key-cases (f, s) k) [
        | inl same ↦ left.filled places (ap (span_at new) same ∙ h)
        | inr other ↦ filled k places (sym (changes.others k other) ∙ h)
      ];
    }

-- an array without blocks from a place on
pub none-in : (spans : Spans) (f s from b : ℕ) (o : Option Places) → span_at spans (f, s) ≡ o → TakesNone from o → b / span_blocks ≡ s
    → from ≤ b % span_blocks
    → block_at spans (f, b) ≡ None
none-in spans f s from b None h none e le = block-in-span spans f s b None e h
none-in spans f s from b (Some a) h none e le =
    block-in-span spans f s b (Some a) e h ∙ sym (place-mod a b) ∙ none (b % span_blocks) le (omega arith)

-- a file's first block in the span of a number
pub frees-at : (f first : ℕ) (block : Block) (old new : Spans) → AllFilled old
    → ChangesSpan (Takes (first % span_blocks) block) (f, first / span_blocks) old new
    → FreesFirst f first block old new
frees-at f first block old new filled changes =
    subst (λ n. FreesFirst f n block old new) (let e : span_blocks * (first / span_blocks) + first % span_blocks ≡ first = omega arith in e)
    (frees-in f (first / span_blocks) (first % span_blocks) block old new (omega arith) changes filled)

pub none-until : (f first b : ℕ) (old : Spans) → TakesNone (first % span_blocks) (span_at old (f, first / span_blocks)) → first ≤ b
    → b < span_blocks * (first / span_blocks + 1) → block_at old (f, b) ≡ None
none-until f first b old none from below =
    none-in old f (first / span_blocks) (first % span_blocks) b (span_at old (f, first / span_blocks)) refl none (omega arith) (omega arith)

-- no block is there from a number on
pub none-later : (f first : ℕ) (old mid : Spans) → SameSpans old mid → TakesNone (first % span_blocks) (span_at old (f, first / span_blocks))
    → HasNoneFrom f (span_blocks * (first / span_blocks + 1)) mid → HasNoneFrom f first old
none-later f first old mid same none after b from = elim (cases_lt b (span_blocks * (first / span_blocks + 1))) [
  | inl h ↦ none-until f first b old none from h
  | inr h ↦ sym (same-blocks old mid same (f, b)) ∙ after b h
]
