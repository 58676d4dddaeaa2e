-- The blocks of all spans, after what a cut does to the arrays.
use Rattle.std.proofs.Common.{◌≡◌, ◌≢◌, ◌⊎◌, min, ℕ, ◌+◌, ◌*◌, ◌/◌, ◌%◌, Bool, true, false, not, cond, List, [], ◌++◌, ◌-◌, length, map, refl, sym, ap}
use Rattle.std.proofs.Common.{◌∙◌, inl, inr, arith, subst, Option, Some, None, is_some, eq-eqb}
use Rattle.std.proofs.lemmas.Bool.{cases_eq, cases_lt}
use Rattle.std.proofs.lemmas.Option.{same_Some}
use Rattle.std.specs.Option.{option_map}
use Rattle.std.specs.BTreeMap.{is_at}
use Rattle.std.specs.FinMap.{FinMap, get, retain_keys, get-retain_keys, same_map}
use Rattle.nfs_model.specs.Server.{block_size}
use Rattle.nfs_model.specs.Home.{span_bytes}
use Rattle.nfs_model.specs.volume.Maps.{map_values}
use Rattle.nfs_model.specs.volume.lemmas.Entries.{place_total, place_same}
use Rattle.nfs_model.specs.volume.Stripes.{Block, FileBlock, file_block_cmp, span_blocks, block_mapped, file_mapped, byte_cut, is_cut_off}
use Rattle.stripes.specs.Spans.{Places, Spans, place_of, span_of, block_at, span_at, blocks_of, AllFilled, IsSpans, ChangesSpan, Where, CutsSpan, HasBlock}
use Rattle.stripes.specs.Spans.{HasNoneFrom, FreesFirst, FreesSpan, is_in_rest, numbers_past, cut_blocks, IsFirstPast}
use Rattle.stripes.proofs.Keys.{key-cases, key-apart}
use Rattle.stripes.proofs.Places.{unlike}
use Rattle.stripes.proofs.Bytes.{byte_kept}
use Rattle.stripes.proofs.Mapped.{place-same, place-of-file}
use Rattle.stripes.proofs.Law.{get-blocks_of}
use Rattle.stripes.proofs.Freed.{freed-none}
use Rattle.stripes.proofs.FreedSpan.{past-place, is-past, rest-place, freed-rest}
use Rattle.stripes.proofs.Words.{at-array, at-other, file-long, file-mapped, some-kept}

get-retained : (f size : ℕ) (m : FinMap file_block_cmp Block) (q : FileBlock)
    → get (retain_keys m (λ p. not (is_cut_off f size p))) q ≡ cond (not (is_cut_off f size q)) (get m q) None
get-retained f size m q = get-retain_keys m (λ p. not (is_cut_off f size p)) q (λ x e. ap (λ p. not (is_cut_off f size p)) (sym (place_same q x e)))

module _ (f size first : ℕ) (numbers : List ℕ) (old new : Spans) where
  -- the numbers past the size, of which those of a span are gone
  pub freed-numbers : IsFirstPast size first → FreesSpan f first numbers old new
      → numbers_past f size (blocks_of old) ≡ numbers ++ numbers_past f size (blocks_of new)
  freed-numbers past frees =
      freed-rest f size frees.span (λ i. block_at old (f, span_blocks * frees.span + i)) (span_blocks - frees.from) frees.from (blocks_of old) (blocks_of new)
      (let within = frees.within in omega (arith, within))
      (record {
        past = past.past (span_blocks * frees.span + frees.from) frees.after;
        same = λ j after below. get-blocks_of old (f, span_blocks * frees.span + j);
        before = λ q h less.
            let is = past-place f size q h in get-blocks_of old q ∙ ap (λ t. block_at old (t, q.1)) is.0 ∙ frees.before q.1 (past.from q.1 is.1) less;
        gone = λ q. get-blocks_of new q ∙ frees.gone q ∙ ap (cond (is_in_rest f frees.span frees.from q) None) (sym (get-blocks_of old q));
      })
      ∙ ap (λ ns. ns ++ numbers_past f size (blocks_of new)) (sym frees.told)

  -- what is gone is past the size
  rest-past : IsFirstPast size first → (frees : FreesSpan f first numbers old new) → (q : FileBlock) → is_in_rest f frees.span frees.from q ≡ true
      → is_cut_off f size q ≡ true
  rest-past past frees q h =
      let both = rest-place f frees.span frees.from q h in
      let after = frees.after in
      let from = both.1.1 in
      ap (λ t. is_cut_off f size (t, q.1)) both.0 ∙ is-past f size q.1 (past.past q.1 (let span = both.1.0 in omega (arith, after, from, span)))

  pub freed-cut : IsFirstPast size first → FreesSpan f first numbers old new → cut_blocks f size (blocks_of new) ≡ cut_blocks f size (blocks_of old)
  freed-cut past frees = ap (map_values (file_mapped (byte_cut size) f)) (same_map place_total place_same _ _ (λ q.
      get-retained f size (blocks_of new) q
      ∙ ap (λ o. cond (not (is_cut_off f size q)) o None) (get-blocks_of new q ∙ frees.gone q)
      ∙ by q (is_in_rest f frees.span frees.from q) refl
      ∙ ap (λ o. cond (not (is_cut_off f size q)) o None) (sym (get-blocks_of old q))
      ∙ sym (get-retained f size (blocks_of old) q)))
    where
      nothing : Option Block
      nothing = None

      by : (q : FileBlock) (t : Bool) → is_in_rest f frees.span frees.from q ≡ t
          → cond (not (is_cut_off f size q)) (cond t None (block_at old q)) None ≡ cond (not (is_cut_off f size q)) (block_at old q) None
      by q true h =
          let gone : not (is_cut_off f size q) ≡ false = ap not (rest-past past frees q h) in
          ap (λ t. cond t nothing None) gone ∙ sym (ap (λ t. cond t (block_at old q) None) gone)
      by q false h = refl

  pub spans-left : IsSpans old → FreesSpan f first numbers old new → IsSpans new
  spans-left is frees = record {
    long = λ p b e. by p b (is_in_rest f frees.span frees.from p) (sym (frees.gone p) ∙ e);
    filled = frees.filled;
  }
    where
      by : (p : FileBlock) (b : Block) (t : Bool) → cond t None (block_at old p) ≡ Some b → length b.bytes ≡ block_size
      by p b true e = absurd (cc)
      by p b false e = is.long p b e

module _ (f first : ℕ) (block : Block) (old new : Spans) where
  pub freed-spans : IsSpans old → FreesFirst f first block old new → IsSpans new
  freed-spans is frees = record {
    long = λ p b e. by p b (is_at (file_block_cmp (f, frees.number)) p) (sym (frees.gone p) ∙ e);
    filled = frees.filled;
  }
    where
      by : (p : FileBlock) (b : Block) (t : Bool) → cond t None (block_at old p) ≡ Some b → length b.bytes ≡ block_size
      by p b true e = absurd (cc)
      by p b false e = is.long p b e

-- ---- the rest of the last block

-- a place whose bytes a cut leaves as they are, or which has none
cut-same : (f size first : ℕ) (old : Spans) (p : FileBlock) → IsSpans old → IsFirstPast size first → HasNoneFrom f first old
    → (p.0 ≡ f → p.1 ≡ size / block_size → ⊥)
    → option_map (file_mapped (byte_cut size) f p) (block_at old p) ≡ block_at old p
cut-same f size first old p is past none other = elim (cases_eq p.0 f) [
  | inr n ↦ place-same (byte_cut size) f p (block_at old p) (is.long p) (λ e. absurd (n e))
  | inl e ↦ elim (cases_lt p.1 (size / block_size)) [
    | inl h ↦ place-same (byte_cut size) f p (block_at old p) (is.long p) (λ e i x below. byte_kept size (block_size * p.1 + i) x (omega arith))
    | inr h ↦
        let gone : block_at old p ≡ None = ap (λ t. block_at old (t, p.1)) e
        ∙ none p.1 (past.from p.1 (let g : p.1 ≢ size / block_size = other e in omega arith)) in
        ap (option_map (file_mapped (byte_cut size) f p)) gone ∙ sym gone
  ]
]

module _ (f size first : ℕ) (old new : Spans) where
  cut-at : IsSpans old → IsFirstPast size first → HasNoneFrom f first old → ChangesSpan (Where (CutsSpan size)) (f, size / span_bytes) old new
      → (p : FileBlock) → block_at new p ≡ option_map (file_mapped (byte_cut size) f p) (block_at old p)
  cut-at is past none changes p = elim (key-cases (f, size / span_bytes) (span_of p)) [
    | inl same ↦ by (span_at old (f, size / span_bytes)) (span_at new (f, size / span_bytes)) refl refl changes.here same
    | inr other ↦ at-other _ _ p old new changes other ∙ sym (cut-same f size first old p is past none
        (λ e h. key-apart (f, size / span_bytes) (span_of p) other (sym e) (omega arith)))
  ]
    where
      by : (o n : Option Places) → span_at old (f, size / span_bytes) ≡ o → span_at new (f, size / span_bytes) ≡ n → Where (CutsSpan size) o n
          → (f, size / span_bytes) ≡ span_of p → block_at new p ≡ option_map (file_mapped (byte_cut size) f p) (block_at old p)
      by None None eo en h same = at-array new _ p None same en ∙ sym (ap (option_map (file_mapped (byte_cut size) f p)) (at-array old _ p None same eo))
      by None (Some b) eo en h same = absurd h
      by (Some a) None eo en h same = absurd h
      by (Some a) (Some b) eo en h same =
          let before = at-array old _ p (Some a) same eo in
          let file : p.0 ≡ f = sym (ap (λ (q : FileBlock). q.0) same) in
          let span : size / span_bytes ≡ p.1 / span_blocks = ap (λ (q : FileBlock). q.1) same in
          at-array new _ p (Some b) same en ∙ h p.1 ∙ elim (cases_eq (p.1 % span_blocks) ((size / block_size) % span_blocks)) [
            | inl e ↦ let number : p.1 ≡ size / block_size = omega arith in
                ap (λ t. cond t (option_map (block_mapped (byte_cut size) (size / block_size)) (place_of a p.1)) (place_of a p.1)) (eq-eqb _ _ e)
                ∙ ap (λ n. option_map (block_mapped (byte_cut size) n) (place_of a p.1)) (sym number)
                ∙ sym (place-of-file (byte_cut size) f p (place_of a p.1) file) ∙ sym (ap (option_map (file_mapped (byte_cut size) f p)) before)
            | inr n ↦ ap (λ t. cond t (option_map (block_mapped (byte_cut size) (size / block_size)) (place_of a p.1)) (place_of a p.1)) (unlike _ _ n)
                ∙ sym before ∙ sym (cut-same f size first old p is past none (λ e g. n (ap (λ m. m % span_blocks) g)))
          ]

  cut-filled : AllFilled old → ChangesSpan (Where (CutsSpan size)) (f, size / span_bytes) old new → AllFilled new
  cut-filled filled changes k places e = elim (key-cases (f, size / span_bytes) k) [
    | inl same ↦ by (span_at old (f, size / span_bytes)) (span_at new (f, size / span_bytes)) refl (ap (span_at new) same ∙ e) changes.here
    | inr other ↦ filled k places (sym (changes.others k other) ∙ e)
  ]
    where
      by : (o n : Option Places) → span_at old (f, size / span_bytes) ≡ o → n ≡ Some places → Where (CutsSpan size) o n → HasBlock places
      by None None eo en h = absurd (cc)
      by None (Some b) eo en h = absurd h
      by (Some a) None eo en h = absurd h
      by (Some a) (Some b) eo en h =
          let there = filled (f, size / span_bytes) a eo in
          subst HasBlock (same_Some _ _ en) (
            there.0,
            there.1,
            ap is_some (h there.0) ∙ some-kept _ (block_mapped (byte_cut size) (size / block_size)) (place_of a there.0) ∙ there.2,
          )

  pub tail-spans : IsSpans old → IsFirstPast size first → HasNoneFrom f first old → ChangesSpan (Where (CutsSpan size)) (f, size / span_bytes) old new
      → IsSpans new
  tail-spans is past none changes = record {
    long = file-long (byte_cut size) f old new is (cut-at is past none changes);
    filled = cut-filled is.filled changes;
  }

  -- where no block is past the size, that is the cut
  pub tail-cut : IsSpans old → IsFirstPast size first → HasNoneFrom f first old → ChangesSpan (Where (CutsSpan size)) (f, size / span_bytes) old new
      → blocks_of new ≡ cut_blocks f size (blocks_of old)
  tail-cut is past none changes =
      file-mapped (byte_cut size) f old new (cut-at is past none changes)
      ∙ ap (map_values (file_mapped (byte_cut size) f)) (same_map place_total place_same _ _ (λ q.
      elim (kept-or-none q) [
        | inl keep ↦ sym (get-retained f size (blocks_of old) q ∙ ap (λ t. cond t (get (blocks_of old) q) None) keep)
        | inr gone ↦ gone ∙ sym (get-retained f size (blocks_of old) q ∙ ap (λ o. cond (not (is_cut_off f size q)) o None) gone
            ∙ either (not (is_cut_off f size q)))
      ]))
    where
      nothing : Option Block
      nothing = None

      either : (t : Bool) → cond t nothing nothing ≡ None
      either true = refl
      either false = refl

      kept-or-none : (q : FileBlock) → (not (is_cut_off f size q) ≡ true) ⊎ (get (blocks_of old) q ≡ None)
      kept-or-none q = by (is_cut_off f size q) refl
        where
          by : (t : Bool) → is_cut_off f size q ≡ t → (not (is_cut_off f size q) ≡ true) ⊎ (get (blocks_of old) q ≡ None)
          by true e = let is = past-place f size q e in
              inr (get-blocks_of old q ∙ ap (λ t. block_at old (t, q.1)) is.0 ∙ none q.1 (past.from q.1 is.1))
          by false e = inl (ap not e)

  pub tail-numbers : IsFirstPast size first → HasNoneFrom f first old → numbers_past f size (blocks_of old) ≡ []
  tail-numbers past none = ap (map (λ (e : FileBlock × Block). e.1.number)) (freed-none (is_cut_off f size) (blocks_of old) (λ q h.
      let is = past-place f size q h in get-blocks_of old q ∙ ap (λ t. block_at old (t, q.1)) is.0 ∙ none q.1 (past.from q.1 is.1)))

-- the first block past a size
pub past-from : (size : ℕ) → IsFirstPast size (size / block_size + min 1 (size % block_size))
past-from size = record { from = λ b h. omega arith; past = λ b h. omega arith }
