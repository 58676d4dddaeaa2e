-- The blocks of all spans, by look-ups.
use Rattle.std.proofs.Common.{◌≡◌, ℕ, zero, suc, ◌+◌, ◌*◌, ◌/◌, ◌<◌, ◌≤◌, ◌==◌, ◌&&◌, ◌||◌, Bool, true, false, cond, List, [], ◌∷◌, ◌++◌, refl, sym, ap, ◌∙◌}
use Rattle.std.proofs.Common.{inl, inr, arith, Option, Some, None, is_some, eq-eqb}
use Rattle.std.proofs.lemmas.Bool.{cases_eq}
use Rattle.std.specs.List.{list_any}
use Rattle.std.specs.BTreeMap.{is_at}
use Rattle.std.specs.FinMap.{get, find, get-from_entries, same_map}
use Rattle.nfs_model.specs.volume.Stripes.{Block, FileBlock, file_block_cmp, span_blocks}
use Rattle.nfs_model.specs.volume.lemmas.Entries.{place_total, place_same}
use Rattle.stripes.specs.Spans.{Places, Spans, place_in, span_of, block_at, span_at, places_from, all_places, with_entry, present, blocks_of}
use Rattle.stripes.proofs.Keys.{key-cases, key-test, key-itself}

-- what is found among the entries that are there
find-present : (f : FileBlock → Option Block) (ps : List FileBlock) (q : FileBlock)
    → find file_block_cmp q (present f ps) ≡ cond (list_any (is_at (file_block_cmp q)) ps)
    (f q) None
find-present f [] q = refl
find-present f (p ∷ ps) q = elim (key-cases q p) [
  | inl same ↦ here (f p) refl (find-present f ps q) same ∙ sym (ap (λ t. cond (t || list_any (is_at (file_block_cmp q)) ps) (f q) None) (at same))
  | inr other ↦ there (f p) other ∙ find-present f ps q ∙ sym (ap (λ t. cond (t || list_any (is_at (file_block_cmp q)) ps) (f q) None) other)
]
  where
    at : q ≡ p → is_at (file_block_cmp q) p ≡ true
    at same = ap (λ k. is_at (file_block_cmp q) k) (sym same) ∙ key-itself q

    none : (t : Bool) (o : Option Block) → o ≡ None → cond t o None ≡ o
    none true o e = refl
    none false o e = sym e

    here : (o : Option Block) → f p ≡ o → find file_block_cmp q (present f ps) ≡ cond (list_any (is_at (file_block_cmp q)) ps) (f q) None → q ≡ p
        → find file_block_cmp q (with_entry p o (present f ps)) ≡ f q
    here None e rest same = rest ∙ none (list_any (is_at (file_block_cmp q)) ps) (f q) (ap f same ∙ e)
    here (Some b) e rest same = ap (λ t. cond t (Some b) (find file_block_cmp q (present f ps))) (at same) ∙ sym (ap f same ∙ e)

    there : (o : Option Block) → is_at (file_block_cmp q) p ≡ false
        → find file_block_cmp q (with_entry p o (present f ps)) ≡ find file_block_cmp q (present f ps)
    there None other = refl
    there (Some b) other = ap (λ t. cond t (Some b) (find file_block_cmp q (present f ps))) other

any-append : (t : FileBlock → Bool) (ps qs : List FileBlock) → list_any t (ps ++ qs) ≡ (list_any t ps || list_any t qs)
any-append t [] qs = refl
any-append t (p ∷ ps) qs = by (t p) (any-append t ps qs)
  where
    by : (b : Bool) → list_any t (ps ++ qs) ≡ (list_any t ps || list_any t qs) → (b || list_any t (ps ++ qs)) ≡ ((b || list_any t ps) || list_any t qs)
    by true rest = refl
    by false rest = rest

-- the places from a block on have those, and no others
from-none : (f b n : ℕ) (q : FileBlock) → ((q.0 ≡ f) → b ≤ q.1 → q.1 < b + n → ⊥) → list_any (is_at (file_block_cmp q)) (places_from f b n) ≡ false
from-none f b zero q out = refl
from-none f b (suc n) q out = elim (key-cases q (f, b)) [
  | inl same ↦ absurd (out (ap (λ (k : FileBlock). k.0) same) (let e : q.1 ≡ b = ap (λ (k : FileBlock). k.1) same in omega arith)
      (let e : q.1 ≡ b = ap (λ (k : FileBlock). k.1) same in omega arith))
  | inr other ↦ ap (λ t. t || list_any (is_at (file_block_cmp q)) (places_from f (b + 1) n)) other
      ∙ from-none f (b + 1) n q (λ e from below. out e (omega arith) (omega arith))
]

from-some : (f b n : ℕ) (q : FileBlock) → q.0 ≡ f → b ≤ q.1 → q.1 < b + n → list_any (is_at (file_block_cmp q)) (places_from f b n) ≡ true
from-some f b zero q e from below = absurd (omega arith)
from-some f b (suc n) q e from below = elim (cases_eq q.1 b) [
  | inl here ↦ ap (λ t. t || list_any (is_at (file_block_cmp q)) (places_from f (b + 1) n))
      (key-test q (f, b) ∙ ap (λ t. t && (q.1 == b)) (eq-eqb q.0 f e) ∙ eq-eqb q.1 b here)
  | inr later ↦ either (is_at (file_block_cmp q) (f, b)) (from-some f (b + 1) n q e (omega arith) (omega arith))
]
  where
    either : (t : Bool) → list_any (is_at (file_block_cmp q)) (places_from f (b + 1) n) ≡ true
        → (t || list_any (is_at (file_block_cmp q)) (places_from f (b + 1) n)) ≡ true
    either true h = refl
    either false h = h

-- a block is among the places of its span alone
in-span : (k q : FileBlock) → list_any (is_at (file_block_cmp q)) (places_from k.0 (span_blocks * k.1) span_blocks) ≡ is_at (file_block_cmp (span_of q)) k
in-span k q = elim (key-cases (span_of q) k) [
  | inl same ↦ from-some k.0 (span_blocks * k.1) span_blocks q (ap (λ (p : FileBlock). p.0) same)
      (let e : q.1 / span_blocks ≡ k.1 = ap (λ (p : FileBlock). p.1) same in omega arith)
      (let e : q.1 / span_blocks ≡ k.1 = ap (λ (p : FileBlock). p.1) same in omega arith)
      ∙ sym (ap (λ p. is_at (file_block_cmp (span_of q)) p) (sym same) ∙ key-itself (span_of q))
  | inr other ↦ from-none k.0 (span_blocks * k.1) span_blocks q (λ e from below. absurd (
      let span : q.1 / span_blocks ≡ k.1 = omega arith in
      let is : is_at (file_block_cmp (span_of q)) k ≡ true = key-test (span_of q) k ∙ ap (λ t. t && (q.1 / span_blocks == k.1)) (eq-eqb q.0 k.0 e)
      ∙ eq-eqb _ _ span in
      let no : true ≡ false = sym is ∙ other in cc))
      ∙ sym other
]

in-all : (spans : Spans) (q : FileBlock) → list_any (is_at (file_block_cmp q)) (all_places spans) ≡ is_some (span_at spans (span_of q))
unfolding all_places
in-all [] q = refl
in-all (e ∷ es) q =
    any-append (is_at (file_block_cmp q)) (places_from e.0.0 (span_blocks * e.0.1) span_blocks) (all_places es)
    ∙ ap (λ t. t || list_any (is_at (file_block_cmp q)) (all_places es)) (in-span e.0 q)
    ∙ by (is_at (file_block_cmp (span_of q)) e.0) (in-all es q)
  where
    by : (t : Bool) → list_any (is_at (file_block_cmp q)) (all_places es) ≡ is_some (span_at es (span_of q))
        → (t || list_any (is_at (file_block_cmp q)) (all_places es)) ≡ is_some (cond t (Some e.1) (span_at es (span_of q)))
    by true rest = refl
    by false rest = rest

-- a block is found under its file and number
pub get-blocks_of : (spans : Spans) (q : FileBlock) → get (blocks_of spans) q ≡ block_at spans q
unfolding blocks_of
get-blocks_of spans q =
    get-from_entries place_total _ q ∙ find-present (block_at spans) (all_places spans) q
    ∙ ap (λ t. cond t (block_at spans q) None) (in-all spans q) ∙ by (span_at spans (span_of q))
  where
    by : (o : Option Places) → cond (is_some o) (place_in o q.1) None ≡ place_in o q.1
    by None = refl
    by (Some places) = refl

-- arrays that are the same have the same blocks
pub same-blocks_of : (old new : Spans) → ((p : FileBlock) → block_at new p ≡ block_at old p) → blocks_of new ≡ blocks_of old
same-blocks_of old new same = same_map place_total place_same _ _ (λ p. get-blocks_of new p ∙ same p ∙ sym (get-blocks_of old p))
