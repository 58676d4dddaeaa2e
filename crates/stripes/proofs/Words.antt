-- The blocks of all spans, after what the code does to the arrays.
use Rattle.std.proofs.Common.{◌≡◌, ℕ, ◌+◌, ◌*◌, ◌/◌, ◌%◌, ◌<◌, ◌≤◌, ◌&&◌, Bool, true, false, cond, List, length, refl, sym, ap, ◌∙◌, inl, inr, arith, subst}
use Rattle.std.proofs.Common.{Option, Some, None, is_some, nat_le, nat_lt}
use Rattle.std.proofs.lemmas.Bool.{cases_lt}
use Rattle.std.proofs.lemmas.Bool.Decides.{nat_tests}
use Rattle.std.proofs.lemmas.Option.{same_Some}
use Rattle.std.specs.Option.{option_map}
use Rattle.std.specs.BTreeMap.{is_at}
use Rattle.std.specs.FinMap.{same_map}
use Rattle.nfs_model.specs.Server.{block_size}
use Rattle.nfs_model.specs.Home.{span_bytes}
use Rattle.nfs_model.specs.volume.Maps.{map_values}
use Rattle.nfs_model.specs.volume.lemmas.Maps.{get-map_values}
use Rattle.nfs_model.specs.volume.lemmas.Entries.{place_total, place_same}
use Rattle.nfs_model.specs.volume.Stripes.{Block, FileBlock, file_block_cmp, span_blocks, block_mapped, file_mapped, byte_written}
use Rattle.stripes.specs.Spans.{Places, Spans, place_of, place_in, span_of, block_at, span_at, blocks_of, last_met, AllFilled, IsSpans, ChangesSpan, Where}
use Rattle.stripes.specs.Spans.{WritesSpan, HasBlock}
use Rattle.stripes.proofs.Keys.{key-cases, key-apart}
use Rattle.stripes.proofs.Mapped.{place-same, place-of-file, length-file_mapped, missed-span, missed-before, missed-after}
use Rattle.stripes.proofs.Law.{get-blocks_of}
use Rattle.stripes.proofs.Takes.{place-mod}

-- ---- arrays and blocks

-- the block at a place of an array that is known
pub at-array : (spans : Spans) (k p : FileBlock) (o : Option Places) → k ≡ span_of p → span_at spans k ≡ o → block_at spans p ≡ place_in o p.1
at-array spans k p o same e = ap (λ k. place_in (span_at spans k) p.1) (sym same) ∙ ap (λ o. place_in o p.1) e

pub at-other : (Q : Option Places → Option Places → Type 0) (k p : FileBlock) (old new : Spans) → ChangesSpan Q k old new
    → is_at (file_block_cmp k) (span_of p) ≡ false
    → block_at new p ≡ block_at old p
at-other Q k p old new changes other = ap (λ o. place_in o p.1) (changes.others (span_of p) other)

-- a block that is mapped is as long
mapped-long : (g : Block → Block) (o : Option Block) (c : Block) → ((b : Block) → o ≡ Some b → length b.bytes ≡ block_size)
    → ((b : Block) → length b.bytes ≡ block_size → length (g b).bytes ≡ block_size) → option_map g o ≡ Some c → length c.bytes ≡ block_size
mapped-long g None c long keeps e = absurd (cc)
mapped-long g (Some b) c long keeps e = ap (λ (x : Block). length x.bytes) (sym (same_Some _ _ e)) ∙ keeps b (long b refl)

-- all blocks of a file mapped
pub file-long : (change : ℕ → ℕ → ℕ) (f : ℕ) (old new : Spans) → IsSpans old
    → ((p : FileBlock) → block_at new p ≡ option_map (file_mapped change f p) (block_at old p))
    → (p : FileBlock) (b : Block) → block_at new p ≡ Some b → length b.bytes ≡ block_size
file-long change f old new is mapped p b e =
    mapped-long (file_mapped change f p) (block_at old p) b (is.long p) (λ b long. length-file_mapped change f p b long) (sym (mapped p) ∙ e)

pub file-mapped : (change : ℕ → ℕ → ℕ) (f : ℕ) (old new : Spans) → ((p : FileBlock) → block_at new p ≡ option_map (file_mapped change f p) (block_at old p))
    → blocks_of new ≡ map_values (file_mapped change f) (blocks_of old)
file-mapped change f old new mapped = same_map place_total place_same _ _ (λ p. get-blocks_of new p ∙ mapped p
    ∙ sym (get-map_values place_total place_same (file_mapped change f) (blocks_of old) p ∙ ap (option_map (file_mapped change f p)) (get-blocks_of old p)))

pub some-kept : (t : Bool) (g : Block → Block) (o : Option Block) → is_some (cond t (option_map g o) o) ≡ is_some o
some-kept true g None = refl
some-kept true g (Some b) = refl
some-kept false g o = refl

-- ---- bytes written

met-or-not : (first past b : ℕ) (x y z : Option Block) → x ≡ z → (b < first → y ≡ z) → (past ≤ b → y ≡ z) → cond (nat_le first b && nat_lt b past) x y ≡ z
met-or-not first past b x y z met before after = elim (cases_lt b first) [
  | inl h ↦ ap (λ t. cond t x y) (let e : (nat_le first b && nat_lt b past) ≡ false = grind (arith, nat_tests) in e) ∙ before h
  | inr h ↦ elim (cases_lt b past) [
    | inl g ↦ ap (λ t. cond t x y) (let e : (nat_le first b && nat_lt b past) ≡ true = grind (arith, nat_tests) in e) ∙ met
    | inr g ↦ ap (λ t. cond t x y) (let e : (nat_le first b && nat_lt b past) ≡ false = grind (arith, nat_tests) in e) ∙ after g
  ]
]

module _ (f offset : ℕ) (written : List ℕ) (old new : Spans) where
  written-at : 0 < length written → offset % span_bytes + length written ≤ span_bytes → IsSpans old
      → ChangesSpan (Where (WritesSpan offset written)) (f, offset / span_bytes) old new
      → (p : FileBlock) → block_at new p ≡ option_map (file_mapped (byte_written offset written) f p) (block_at old p)
  written-at some span is changes p = elim (key-cases (f, offset / span_bytes) (span_of p)) [
    | inl same ↦ by (span_at old (f, offset / span_bytes)) (span_at new (f, offset / span_bytes)) refl refl changes.here same
    | inr other ↦ at-other _ _ p old new changes other ∙ sym (place-same (byte_written offset written) f p (block_at old p) (is.long p)
        (λ e i x below. missed-span offset p.1 i written x span below (λ h. key-apart (f, offset / span_bytes) (span_of p) other (sym e) (sym h))))
  ]
    where
      change : ℕ → ℕ → ℕ
      change = byte_written offset written

      by : (o n : Option Places) → span_at old (f, offset / span_bytes) ≡ o → span_at new (f, offset / span_bytes) ≡ n → Where (WritesSpan offset written) o n
          → (f, offset / span_bytes) ≡ span_of p → block_at new p ≡ option_map (file_mapped (byte_written offset written) f p) (block_at old p)
      by None None eo en h same =
          at-array new _ p None same en ∙ sym (ap (option_map (file_mapped change f p)) (at-array old _ p None same eo))
      by None (Some b) eo en h same = absurd h
      by (Some a) None eo en h same = absurd h
      by (Some a) (Some b) eo en h same =
          let before = at-array old _ p (Some a) same eo in
          let file : p.0 ≡ f = sym (ap (λ (q : FileBlock). q.0) same) in
          let long : (c : Block) → place_of a p.1 ≡ Some c → length c.bytes ≡ block_size = λ c e. is.long p c (before ∙ e) in
          at-array new _ p (Some b) same en ∙ h p.1 (sym (ap (λ (q : FileBlock). q.1) same))
          ∙ met-or-not (offset / block_size) (last_met offset (length written) + 1) p.1 _ _ _
          (sym (place-of-file change f p (place_of a p.1) file))
          (λ g. sym (place-same change f p (place_of a p.1) long (λ e i x below. missed-before offset p.1 i written x below g)))
          (λ g. sym (place-same change f p (place_of a p.1) long (λ e i x below. missed-after offset p.1 i written x below some g)))
          ∙ sym (ap (option_map (file_mapped change f p)) before)

  written-filled : AllFilled old → ChangesSpan (Where (WritesSpan offset written)) (f, offset / span_bytes) old new → AllFilled new
  written-filled filled changes k places e = elim (key-cases (f, offset / span_bytes) k) [
    | inl same ↦ by (span_at old (f, offset / span_bytes)) (span_at new (f, offset / span_bytes)) refl (ap (span_at new) same ∙ e) changes.here
    | inr other ↦ filled k places (sym (changes.others k other) ∙ e)
  ]
    where
      by : (o n : Option Places) → span_at old (f, offset / span_bytes) ≡ o → n ≡ Some places → Where (WritesSpan offset written) o n → HasBlock places
      by None None eo en h = absurd (cc)
      by None (Some b) eo en h = absurd h
      by (Some a) None eo en h = absurd h
      by (Some a) (Some b) eo en h =
          let there = filled (f, offset / span_bytes) a eo in
          let at : ℕ = span_blocks * (offset / span_bytes) + there.0 in
          let rest : at % span_blocks ≡ there.0 = let w = there.1 in omega arith in
          subst HasBlock (same_Some _ _ en) (
            there.0,
            there.1,
            ap (λ i. is_some (place_of b i)) (sym rest) ∙ ap is_some (place-mod b at) ∙ ap is_some (h at (let w = there.1 in omega arith))
                ∙ some-kept _ (block_mapped (byte_written offset written) at) (place_of a at) ∙ sym (ap is_some (place-mod a at))
                ∙ ap (λ i. is_some (place_of a i)) rest ∙ there.2,
          )

-- after a write the blocks are those of before, mapped
pub written-spans : (f offset : ℕ) (written : List ℕ) (old new : Spans) → 0 < length written → offset % span_bytes + length written ≤ span_bytes → IsSpans old
    → ChangesSpan (Where (WritesSpan offset written)) (f, offset / span_bytes) old new → IsSpans new
written-spans f offset written old new some span is changes = record {
  long = file-long (byte_written offset written) f old new is (written-at f offset written old new some span is changes);
  filled = written-filled f offset written old new is.filled changes;
}

pub written-blocks : (f offset : ℕ) (written : List ℕ) (old new : Spans) → 0 < length written → offset % span_bytes + length written ≤ span_bytes
    → IsSpans old
    → ChangesSpan (Where (WritesSpan offset written)) (f, offset / span_bytes) old new
    → blocks_of new ≡ map_values (file_mapped (byte_written offset written) f) (blocks_of old)
written-blocks f offset written old new some span is changes =
    file-mapped (byte_written offset written) f old new (written-at f offset written old new some span is changes)
