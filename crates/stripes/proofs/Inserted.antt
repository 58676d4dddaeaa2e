-- The blocks of all spans, after a block is put at its place.
use Rattle.std.proofs.Common.{◌≡◌, ℕ, ◌+◌, ◌*◌, ◌/◌, ◌%◌, ◌==◌, Bool, true, false, cond, length, refl, sym, ap, ◌∙◌, inl, inr, arith, subst, Option, Some}
use Rattle.std.proofs.Common.{None, is_some, eq-eqb}
use Rattle.std.proofs.lemmas.Option.{same_Some}
use Rattle.std.specs.BTreeMap.{is_at}
use Rattle.std.specs.FinMap.{insert, get-insert, same_map}
use Rattle.nfs_model.specs.Server.{block_size}
use Rattle.nfs_model.specs.volume.lemmas.Entries.{place_total, place_same}
use Rattle.nfs_model.specs.volume.Stripes.{Block, FileBlock, file_block_cmp, span_blocks}
use Rattle.stripes.specs.Spans.{Places, Spans, place_of, span_of, block_at, span_at, blocks_of, AllFilled, IsSpans, ChangesSpan, Puts, HasBlock}
use Rattle.stripes.proofs.Keys.{key-cases, key-turned, key-within, key-other}
use Rattle.stripes.proofs.Law.{get-blocks_of}
use Rattle.stripes.proofs.Takes.{place-mod}
use Rattle.stripes.proofs.Words.{at-array, at-other}

module _ (f number : ℕ) (block : Block) (old new : Spans) where
  put-at : ChangesSpan (Puts number block) (f, number / span_blocks) old new
      → (p : FileBlock) → block_at new p ≡ cond (is_at (file_block_cmp (f, number)) p) (Some block) (block_at old p)
  put-at changes p = elim (key-cases (f, number / span_blocks) (span_of p)) [
    | inl same ↦ by (span_at old (f, number / span_blocks)) (span_at new (f, number / span_blocks)) refl refl changes.here same
        ∙ ap (λ t. cond t (Some block) (block_at old p)) (sym (within same))
    | inr other ↦ at-other _ _ p old new changes other ∙ ap (λ t. cond t (Some block) (block_at old p)) (sym (key-other f number p other))
  ]
    where
      within : (f, number / span_blocks) ≡ span_of p → is_at (file_block_cmp (f, number)) p ≡ (p.1 % span_blocks == number % span_blocks)
      within same = ap (λ n. is_at (file_block_cmp (f, n)) p) (let e : number ≡ span_blocks * (number / span_blocks) + number % span_blocks = omega arith in e)
          ∙ key-within f (number / span_blocks) (number % span_blocks) p (omega arith) same

      by : (o n : Option Places) → span_at old (f, number / span_blocks) ≡ o → span_at new (f, number / span_blocks) ≡ n → Puts number block o n
          → (f, number / span_blocks) ≡ span_of p → block_at new p ≡ cond (p.1 % span_blocks == number % span_blocks) (Some block) (block_at old p)
      by o None eo en h same = absurd h
      by None (Some b) eo en h same = at-array new _ p (Some b) same en ∙ h p.1
          ∙ ap (cond (p.1 % span_blocks == number % span_blocks) (Some block)) (sym (at-array old _ p None same eo))
      by (Some a) (Some b) eo en h same = at-array new _ p (Some b) same en ∙ h p.1
          ∙ ap (cond (p.1 % span_blocks == number % span_blocks) (Some block)) (sym (at-array old _ p (Some a) same eo))

  has-put : (b : Places) → place_of b number ≡ Some block → HasBlock b
  has-put b e = (number % span_blocks, omega arith, ap is_some (place-mod b number) ∙ ap is_some e)

  put-filled : AllFilled old → ChangesSpan (Puts number block) (f, number / span_blocks) old new → AllFilled new
  put-filled filled changes k places e = elim (key-cases (f, number / span_blocks) k) [
    | inl same ↦ by (span_at old (f, number / span_blocks)) (span_at new (f, number / span_blocks)) (ap (span_at new) same ∙ e) changes.here
    | inr other ↦ filled k places (sym (changes.others k other) ∙ e)
  ]
    where
      itself : (x : Option Block) → cond (number % span_blocks == number % span_blocks) (Some block) x ≡ Some block
      itself x = ap (λ t. cond t (Some block) x) (eq-eqb (number % span_blocks) (number % span_blocks) refl)

      by : (o n : Option Places) → n ≡ Some places → Puts number block o n → HasBlock places
      by o None en h = absurd h
      by None (Some b) en h = subst HasBlock (same_Some _ _ en) (has-put b (h number ∙ itself None))
      by (Some a) (Some b) en h = subst HasBlock (same_Some _ _ en) (has-put b (h number ∙ itself (place_of a number)))

  pub put-spans : length block.bytes ≡ block_size → IsSpans old → ChangesSpan (Puts number block) (f, number / span_blocks) old new → IsSpans new
  put-spans long is changes = record {
    long = λ p b e. by p b (is_at (file_block_cmp (f, number)) p) (sym (put-at changes p) ∙ e);
    filled = put-filled is.filled changes;
  }
    where
      by : (p : FileBlock) (b : Block) (t : Bool) → cond t (Some block) (block_at old p) ≡ Some b → length b.bytes ≡ block_size
      by p b true e = ap (λ (x : Block). length x.bytes) (sym (same_Some _ _ e)) ∙ long
      by p b false e = is.long p b e

  -- after a block is put at its place it is inserted
  pub put-blocks : ChangesSpan (Puts number block) (f, number / span_blocks) old new → blocks_of new ≡ insert (blocks_of old) (f, number) block
  put-blocks changes = same_map place_total place_same _ _ (λ p. get-blocks_of new p ∙ put-at changes p
      ∙ ap (λ t. cond t (Some block) (block_at old p)) (key-turned (f, number) p)
      ∙ sym (get-insert place_total (blocks_of old) (f, number) block p ∙ ap (cond (is_at (file_block_cmp p) (f, number)) (Some block)) (get-blocks_of old p)))
