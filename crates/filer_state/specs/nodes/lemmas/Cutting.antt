-- A stripe in which a file is cut to a size, or grown by a hole.
use Rattle.std.proofs.Common.{◌≡◌, ℕ, zero, suc, ◌+◌, ◌*◌, ◌<◌, ◌≤◌, ◌==◌, ◌&&◌, not, Bool, true, false, cond, List, [], ◌∷◌}
use Rattle.std.proofs.Common.{length, map, Option, Some, None, refl, sym, ap, ◌∙◌, arith, nat_le, nat_lt}
use Rattle.std.specs.Prelude.{if◌then◌else◌, slice_index_or}
use Rattle.std.proofs.lemmas.Bool.Decides.{nat_tests}
use Rattle.std.proofs.lemmas.List.{length-map}
use Rattle.std.proofs.lemmas.List.FromFn.{get_or-map-range_with_len, length-map-range_with_len}
use Rattle.std.specs.List.{filter}
use Rattle.std.specs.Option.{option_map}
use Rattle.std.specs.FinMap.{get, len, entries, retain_keys, get-retain_keys, len-entries}
use Rattle.nfs_model.specs.Server.{block_size}
use Rattle.nfs_model.specs.Parts.{one_if, count, times_listed}
use Rattle.nfs_model.specs.volume.Stripes.{FileBlock, Block, StripeValue, byte_of, byte_cut, block_mapped, file_mapped, is_cut_off, cut, touch_taken}
use Rattle.nfs_model.specs.volume.Stripes.{numbers_freed}
use Rattle.nfs_model.specs.volume.lemmas.Entries.{place_total, place_same}
use Rattle.nfs_model.specs.volume.lemmas.Maps.{get-map_values}
use Rattle.nfs_model.specs.volume.lemmas.Numbered.{itself}
use Rattle.filer_state.specs.state.Partition.{times_in_stripe}
use Rattle.filer_state.specs.laws.lemmas.Mapped.{entries-map_values, changed_by}
use Rattle.filer_state.specs.nodes.lemmas.Counting.{is_of, blocks_in, entries-retained}

module _ (f size : ℕ) where
  abbrev kept : FileBlock → Bool
  kept p = not (is_cut_off f size p)

  abbrev cut_block : FileBlock → Block → Block
  cut_block = file_mapped (byte_cut size) f

  -- ---- what is found

  cut-found : (s : StripeValue) (q : FileBlock)
      → get (cut f size (touch_taken f s)).blocks q ≡ option_map (cut_block q) (cond (kept q) (get s.blocks q) None)
  cut-found s q =
      get-map_values place_total place_same cut_block (retain_keys s.blocks kept) q
      ∙ ap (option_map (cut_block q)) (get-retain_keys s.blocks kept q (λ x e. ap kept (sym (place_same q x e))))

  -- a block of another file is as it was
  not-past : (q block : ℕ) → (q == f) ≡ false → kept (q, block) ≡ true
  not-past q block ne = ap (λ (b : Bool). not (b && nat_le size (block_size * block))) ne

  pub cut-other : (s : StripeValue) (q block : ℕ) → (q == f) ≡ false → get (cut f size (touch_taken f s)).blocks (q, block) ≡ get s.blocks (q, block)
  cut-other s q block ne =
      cut-found s (q, block)
      ∙ ap (λ (b : Bool). option_map (cut_block (q, block)) (cond b (get s.blocks (q, block)) None)) (not-past q block ne)
      ∙ by (get s.blocks (q, block))
    where
      by : (o : Option Block) → option_map (cut_block (q, block)) o ≡ o
      by None = refl
      by (Some b) = ap (λ (t : Bool). Some (if t then block_mapped (byte_cut size) block b else b)) ne

  -- a block of the file stays where it starts before the size
  before : (block : ℕ) → kept (f, block) ≡ nat_lt (block_size * block) size
  before block = ap (λ (b : Bool). not (b && nat_le size (block_size * block))) (itself f) ∙ turned (block_size * block)
    where
      turned : (n : ℕ) → not (nat_le size n) ≡ nat_lt n size
      turned n = grind (arith, nat_tests)

  pub cut-here : (s : StripeValue) (block : ℕ) → get (cut f size (touch_taken f s)).blocks (f, block)
      ≡ option_map (block_mapped (byte_cut size) block) (cond (nat_lt (block_size * block) size) (get s.blocks (f, block)) None)
  cut-here s block =
      cut-found s (f, block)
      ∙ ap (λ (b : Bool). option_map (cut_block (f, block)) (cond b (get s.blocks (f, block)) None)) (before block)
      ∙ by (cond (nat_lt (block_size * block) size) (get s.blocks (f, block)) None)
    where
      by : (o : Option Block) → option_map (cut_block (f, block)) o ≡ option_map (block_mapped (byte_cut size) block) o
      by None = refl
      by (Some b) = ap (λ (t : Bool). Some (if t then block_mapped (byte_cut size) block b else b)) (itself f)

  -- ---- bytes of a block

  pub cut-long : (block : ℕ) (b : Block) → length (block_mapped (byte_cut size) block b).bytes ≡ block_size
  cut-long block b = length-map-range_with_len (λ i. byte_cut size (block_size * block + i) (slice_index_or b.bytes i 0)) 0 block_size

  -- a byte within the block
  pub cut-byte : (block i : ℕ) (b : Block) → i < block_size
      → byte_of (Some (block_mapped (byte_cut size) block b)) i ≡ byte_cut size (block_size * block + i) (byte_of (Some b) i)
  cut-byte block i b less =
      get_or-map-range_with_len (λ k. byte_cut size (block_size * block + k) (slice_index_or b.bytes k 0)) 0 block_size i i 0 less (omega arith)

  past-end : (xs : List ℕ) (i : ℕ) → length xs ≤ i → slice_index_or xs i 0 ≡ 0
  past-end [] i less = refl
  past-end (x ∷ xs) zero less = absurd (omega (arith, less))
  past-end (x ∷ xs) (suc i) less = past-end xs i (omega (arith, less))

  -- zeros past the size
  pub cut-zeros : (block at : ℕ) (b : Block) → size ≤ block_size * block + at → byte_of (Some (block_mapped (byte_cut size) block b)) at ≡ 0
  cut-zeros block at b less = by (nat_lt at block_size) refl
    where
      by : (t : Bool) → nat_lt at block_size ≡ t → byte_of (Some (block_mapped (byte_cut size) block b)) at ≡ 0
      by true e =
          let within : at < block_size = grind (arith, nat_tests) in
          let test : nat_lt (block_size * block + at) size ≡ false = grind (arith, nat_tests) in
          cut-byte block at b within ∙ ap (λ (t : Bool). if t then byte_of (Some b) at else 0) test
      by false e =
          let beyond : block_size ≤ at = grind (arith, nat_tests) in
          let long = cut-long block b in
          past-end (block_mapped (byte_cut size) block b).bytes at (omega (arith, beyond, long))

  -- ---- counts of entries

  abbrev PlacedBlock : Type 0
  PlacedBlock = FileBlock × Block

  abbrev past_entry : PlacedBlock → Bool
  past_entry e = is_cut_off f size e.0

  abbrev kept_entry : PlacedBlock → Bool
  kept_entry e = kept e.0

  abbrev number_of : PlacedBlock → ℕ
  number_of e = e.1.number

  abbrev numbers_of : List PlacedBlock → List ℕ
  numbers_of es = map number_of es

  entries-cut : (s : StripeValue) → entries (cut f size (touch_taken f s)).blocks ≡ changed_by cut_block (filter kept_entry (entries s.blocks))
  entries-cut s =
      entries-map_values cut_block place_total place_same (retain_keys s.blocks kept)
      ∙ ap (changed_by cut_block) (entries-retained s.blocks kept)

  -- each entry is kept or freed
  split-length : (es : List PlacedBlock) → length (filter kept_entry es) + length (filter past_entry es) ≡ length es
  split-length [] = refl
  split-length (e ∷ es) = by (past_entry e) (split-length es)
    where
      by : (b : Bool) → length (filter kept_entry es) + length (filter past_entry es) ≡ length es
          → length (cond (not b) (e ∷ filter kept_entry es) (filter kept_entry es)) + length (cond b (e ∷ filter past_entry es) (filter past_entry es))
          ≡ length (e ∷ es)
      by true h = omega (arith, h)
      by false h = omega (arith, h)

  split-times : (n : ℕ) (es : List PlacedBlock)
      → times_listed n (numbers_of (filter kept_entry es)) + times_listed n (numbers_of (filter past_entry es)) ≡ times_listed n (numbers_of es)
  split-times n [] = refl
  split-times n (e ∷ es) = by (past_entry e) (split-times n es)
    where
      by : (b : Bool) → times_listed n (numbers_of (filter kept_entry es)) + times_listed n (numbers_of (filter past_entry es)) ≡ times_listed n (numbers_of es)
          → times_listed n (numbers_of (cond (not b) (e ∷ filter kept_entry es) (filter kept_entry es)))
          + times_listed n (numbers_of (cond b (e ∷ filter past_entry es) (filter past_entry es)))
          ≡ times_listed n (numbers_of (e ∷ es))
      by true h = omega (arith, h)
      by false h = omega (arith, h)

  -- those that are freed are all of the file
  past-of : (e : PlacedBlock) → past_entry e ≡ true → is_of f e ≡ true
  past-of e h = by (e.0.0 == f) h
    where
      by : (b : Bool) → (b && nat_le size (block_size * e.0.1)) ≡ true → b ≡ true
      by true g = refl
      by false g = g

  split-of : (es : List PlacedBlock) → count (is_of f) (filter kept_entry es) + length (filter past_entry es) ≡ count (is_of f) es
  split-of [] = refl
  split-of (e ∷ es) = by (past_entry e) refl (split-of es)
    where
      by : (b : Bool) → past_entry e ≡ b → count (is_of f) (filter kept_entry es) + length (filter past_entry es) ≡ count (is_of f) es
          → count (is_of f) (cond (not b) (e ∷ filter kept_entry es) (filter kept_entry es)) + length (cond b (e ∷ filter past_entry es) (filter past_entry es))
          ≡ count (is_of f) (e ∷ es)
      by true is h = let one = ap one_if (past-of e is) in omega (arith, h, one)
      by false is h = omega (arith, h)

  -- what a cut does to a block leaves its number and its place
  number-kept : (e : PlacedBlock) → number_of (e.0, cut_block e.0 e.1) ≡ number_of e
  number-kept e = by (e.0.0 == f)
    where
      by : (b : Bool) → (if b then block_mapped (byte_cut size) e.0.1 e.1 else e.1).number ≡ e.1.number
      by true = refl
      by false = refl

  numbers-changed : (es : List PlacedBlock) → numbers_of (changed_by cut_block es) ≡ numbers_of es
  numbers-changed [] = refl
  numbers-changed (e ∷ es) = λ j. number-kept e j ∷ numbers-changed es j

  of-changed : (es : List PlacedBlock) → count (is_of f) (changed_by cut_block es) ≡ count (is_of f) es
  of-changed [] = refl
  of-changed (e ∷ es) = let others = of-changed es in omega (arith, others)

  -- what leaves a stripe, and what stays, are all that it had
  pub cut-len : (s : StripeValue) → len (cut f size (touch_taken f s)).blocks + length (numbers_freed f size s) ≡ len s.blocks
  cut-len s =
      let was = len-entries s.blocks in
      let is = len-entries (cut f size (touch_taken f s)).blocks ∙ ap length (entries-cut s)
      ∙ length-map (filter kept_entry (entries s.blocks)) (λ e. (e.0, cut_block e.0 e.1)) in
      let freed = length-map (filter past_entry (entries s.blocks)) number_of in
      let both = split-length (entries s.blocks) in
      omega (arith, was, is, freed, both)

  pub cut-times : (n : ℕ) (s : StripeValue) → times_in_stripe n (cut f size (touch_taken f s)) + times_listed n (numbers_freed f size s) ≡ times_in_stripe n s
  cut-times n s =
      let is : times_in_stripe n (cut f size (touch_taken f s)) ≡ times_listed n (numbers_of (filter kept_entry (entries s.blocks))) =
      ap (λ es. times_listed n (numbers_of es)) (entries-cut s) ∙ ap (times_listed n) (numbers-changed (filter kept_entry (entries s.blocks))) in
      let both = split-times n (entries s.blocks) in
      omega (arith, is, both)

  pub cut-of : (s : StripeValue) → blocks_in f (cut f size (touch_taken f s)) + length (numbers_freed f size s) ≡ blocks_in f s
  cut-of s =
      let is : blocks_in f (cut f size (touch_taken f s)) ≡ count (is_of f) (filter kept_entry (entries s.blocks)) =
      ap (count (is_of f)) (entries-cut s) ∙ of-changed (filter kept_entry (entries s.blocks)) in
      let freed = length-map (filter past_entry (entries s.blocks)) number_of in
      let both = split-of (entries s.blocks) in
      omega (arith, is, freed, both)
