-- The blocks of all spans, after one is put under another number, or is taken.
use Rattle.std.proofs.Common.{◌≡◌, ℕ, ◌+◌, ◌*◌, ◌/◌, ◌%◌, ◌==◌, Bool, true, false, cond, length, refl, sym, ap, ◌∙◌, inl, inr, arith, subst, Option, Some}
use Rattle.std.proofs.Common.{None, is_some}
use Rattle.std.proofs.lemmas.Bool.{cases_lt}
use Rattle.std.proofs.lemmas.Option.{same_Some}
use Rattle.std.specs.Option.{option_map}
use Rattle.std.specs.BTreeMap.{is_at}
use Rattle.std.specs.FinMap.{FinMap, get, remove, get-remove, same_map}
use Rattle.nfs_model.specs.Server.{block_size}
use Rattle.nfs_model.specs.volume.lemmas.Maps.{get-changed_at}
use Rattle.nfs_model.specs.volume.lemmas.Entries.{place_total, place_same}
use Rattle.nfs_model.specs.volume.Stripes.{Block, FileBlock, file_block_cmp, span_blocks}
use Rattle.stripes.specs.Spans.{Places, Spans, place_of, span_of, block_at, span_at, blocks_of, AllFilled, IsSpans, ChangesSpan, Where, NumbersSpan, HasBlock}
use Rattle.stripes.specs.Spans.{FreesFirst, TakesNone, renumbered, block_renumbered}
use Rattle.stripes.proofs.Keys.{key-cases, key-turned, key-within, key-other}
use Rattle.stripes.proofs.Law.{get-blocks_of}
use Rattle.stripes.proofs.Takes.{none-in}
use Rattle.stripes.proofs.Words.{at-array, at-other, some-kept}

module _ (f block n : ℕ) (old new : Spans) where
  abbrev g : Block → Block
  g = renumbered n

  numbered-at : ChangesSpan (Where (NumbersSpan block n)) (f, block / span_blocks) old new
      → (p : FileBlock) → block_at new p ≡ cond (is_at (file_block_cmp (f, block)) p) (option_map g (block_at old p)) (block_at old p)
  numbered-at changes p = elim (key-cases (f, block / span_blocks) (span_of p)) [
    | inl same ↦ by (span_at old (f, block / span_blocks)) (span_at new (f, block / span_blocks)) refl refl changes.here same
    | inr other ↦ at-other _ _ p old new changes other
        ∙ ap (λ t. cond t (option_map g (block_at old p)) (block_at old p)) (sym (key-other f block p other))
  ]
    where
      within : (f, block / span_blocks) ≡ span_of p → is_at (file_block_cmp (f, block)) p ≡ (p.1 % span_blocks == block % span_blocks)
      within same = ap (λ n. is_at (file_block_cmp (f, n)) p) (let e : block ≡ span_blocks * (block / span_blocks) + block % span_blocks = omega arith in e)
          ∙ key-within f (block / span_blocks) (block % span_blocks) p (omega arith) same

      nothing : Option Block
      nothing = None

      neither : (t : Bool) → cond t (option_map g nothing) nothing ≡ None
      neither true = refl
      neither false = refl

      by : (o m : Option Places) → span_at old (f, block / span_blocks) ≡ o → span_at new (f, block / span_blocks) ≡ m → Where (NumbersSpan block n) o m
          → (f, block / span_blocks) ≡ span_of p
          → block_at new p ≡ cond (is_at (file_block_cmp (f, block)) p) (option_map g (block_at old p)) (block_at old p)
      by None None eo en h same = at-array new _ p None same en
          ∙ sym (ap (λ o. cond (is_at (file_block_cmp (f, block)) p) (option_map g o) o) (at-array old _ p None same eo)
          ∙ neither (is_at (file_block_cmp (f, block)) p))
      by None (Some b) eo en h same = absurd h
      by (Some a) None eo en h same = absurd h
      by (Some a) (Some b) eo en h same = at-array new _ p (Some b) same en ∙ h p.1
          ∙ ap (λ t. cond t (option_map g (place_of a p.1)) (place_of a p.1)) (sym (within same))
          ∙ sym (ap (λ o. cond (is_at (file_block_cmp (f, block)) p) (option_map g o) o) (at-array old _ p (Some a) same eo))

  numbered-filled : AllFilled old → ChangesSpan (Where (NumbersSpan block n)) (f, block / span_blocks) old new → AllFilled new
  numbered-filled filled changes k places e = elim (key-cases (f, block / span_blocks) k) [
    | inl same ↦ by (span_at old (f, block / span_blocks)) (span_at new (f, block / span_blocks)) refl (ap (span_at new) same ∙ e) changes.here
    | inr other ↦ filled k places (sym (changes.others k other) ∙ e)
  ]
    where
      by : (o m : Option Places) → span_at old (f, block / span_blocks) ≡ o → m ≡ Some places → Where (NumbersSpan block n) o m → HasBlock places
      by None None eo en h = absurd (cc)
      by None (Some b) eo en h = absurd h
      by (Some a) None eo en h = absurd h
      by (Some a) (Some b) eo en h =
          let there = filled (f, block / span_blocks) a eo in
          subst HasBlock (same_Some _ _ en) (
            there.0,
            there.1,
            ap is_some (h there.0) ∙ some-kept _ g (place_of a there.0) ∙ there.2,
          )

  pub numbered-spans : IsSpans old → ChangesSpan (Where (NumbersSpan block n)) (f, block / span_blocks) old new → IsSpans new
  numbered-spans is changes = record {
    long = λ p b e. by p b (is_at (file_block_cmp (f, block)) p) (block_at old p) refl (sym (numbered-at changes p) ∙ e);
    filled = numbered-filled is.filled changes;
  }
    where
      by : (p : FileBlock) (b : Block) (t : Bool) (o : Option Block) → block_at old p ≡ o → cond t (option_map g o) o ≡ Some b → length b.bytes ≡ block_size
      by p b true None h e = absurd (cc)
      by p b true (Some c) h e = ap (λ (x : Block). length x.bytes) (sym (same_Some _ _ e)) ∙ is.long p c h
      by p b false None h e = absurd (cc)
      by p b false (Some c) h e = is.long p b (h ∙ e)

  -- after a block is put under another number
  pub numbered-blocks : ChangesSpan (Where (NumbersSpan block n)) (f, block / span_blocks) old new
      → blocks_of new ≡ block_renumbered f block n (blocks_of old)
  numbered-blocks changes = same_map place_total place_same _ _ (λ p. get-blocks_of new p ∙ numbered-at changes p
      ∙ ap (λ t. cond t (option_map g (block_at old p)) (block_at old p)) (key-turned (f, block) p)
      ∙ sym (get-changed_at place_total g (f, block) (blocks_of old) p
      ∙ ap (λ o. cond (is_at (file_block_cmp p) (f, block)) (option_map g o) o) (get-blocks_of old p)))

-- ---- a block taken

-- what is gone from a place that has nothing is nothing
pub none-removed : (m : FinMap file_block_cmp Block) (k : FileBlock) → get m k ≡ None → m ≡ remove m k
none-removed m k none = same_map place_total place_same _ _ (λ q. elim (key-cases k q) [
  | inl same ↦ ap (get m) (sym same) ∙ none ∙ sym (get-remove place_total m k q ∙ gone (is_at (file_block_cmp q) k) q (ap (get m) (sym same) ∙ none))
  | inr other ↦ sym (get-remove place_total m k q ∙ ap (λ t. cond t None (get m q)) (sym (key-turned k q) ∙ other))
])
  where
    gone : (t : Bool) (q : FileBlock) → get m q ≡ None → cond t None (get m q) ≡ None
    gone true q e = refl
    gone false q e = e

-- a place that isn't filled has nothing
pub not-filled : (o : Option Block) → is_some o ≡ false → o ≡ None
not-filled None e = refl
not-filled (Some b) e = absurd (cc)

pub none-here : (spans : Spans) (f block : ℕ) → TakesNone (block % span_blocks) (span_at spans (f, block / span_blocks))
    → get (blocks_of spans) (f, block) ≡ None
none-here spans f block none =
    get-blocks_of spans (f, block)
    ∙ none-in spans f (block / span_blocks) (block % span_blocks) block (span_at spans (f, block / span_blocks)) refl none refl (omega arith)

module _ (f block : ℕ) (b : Block) (old new : Spans) (filled : is_some (get (blocks_of old) (f, block)) ≡ true) (frees : FreesFirst f block b old new) where
  -- the first from a block on that is filled is that one
  first-here : frees.number ≡ block
  first-here = elim (cases_lt block frees.number) [
    | inl less ↦ absurd (let no : false ≡ true = sym (ap is_some (get-blocks_of old (f, block) ∙ frees.before block (omega arith) less)) ∙ filled in cc)
    | inr on ↦ let from = frees.from in omega arith
  ]

  pub taken-there : get (blocks_of old) (f, block) ≡ Some b
  taken-there = get-blocks_of old (f, block) ∙ ap (λ k. block_at old (f, k)) (sym first-here) ∙ frees.there

  pub taken-blocks : blocks_of new ≡ remove (blocks_of old) (f, block)
  taken-blocks = same_map place_total place_same _ _ (λ q. get-blocks_of new q ∙ frees.gone q
      ∙ ap (λ k. cond (is_at (file_block_cmp (f, k)) q) None (block_at old q)) first-here
      ∙ ap (λ t. cond t None (block_at old q)) (key-turned (f, block) q)
      ∙ sym (get-remove place_total (blocks_of old) (f, block) q ∙ ap (cond (is_at (file_block_cmp q) (f, block)) None) (get-blocks_of old q)))
