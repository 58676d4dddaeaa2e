-- A stripe in which bytes are written over others.
use Rattle.std.proofs.Common.{◌≡◌, ℕ, ◌+◌, ◌*◌, ◌/◌, ◌%◌, ◌<◌, ◌≤◌, ◌==◌, Bool, true, false, List, [], ◌∷◌, length, map}
use Rattle.std.proofs.Common.{Option, Some, None, refl, sym, ap, ◌∙◌, arith, ⊎_elim}
use Rattle.std.specs.Prelude.{if◌then◌else◌, is_some, slice_index_or}
use Rattle.std.proofs.lemmas.Bool.{cases_lt, eqb-true}
use Rattle.std.proofs.lemmas.List.FromFn.{get_or-map-range_with_len, length-map-range_with_len}
use Rattle.std.specs.Option.{option_map}
use Rattle.std.specs.FinMap.{get, len, entries}
use Rattle.nfs_model.specs.Types.{Moment, Ownership}
use Rattle.nfs_model.specs.Server.{block_size}
use Rattle.nfs_model.specs.Parts.{times_listed}
use Rattle.nfs_model.specs.Shown.{touched}
use Rattle.nfs_model.specs.volume.Stripes.{Card, OfFile, OfDirectory, FileBlock, Block, StripeValue, byte_of, byte_at, is_filled, touch_of, card_touched}
use Rattle.nfs_model.specs.volume.Stripes.{byte_written, block_mapped, file_mapped, overwritten}
use Rattle.nfs_model.specs.volume.lemmas.Entries.{place_total, place_same}
use Rattle.nfs_model.specs.volume.lemmas.Maps.{get-map_values}
use Rattle.nfs_model.specs.volume.lemmas.Numbered.{get-changed_at, itself}
use Rattle.filer_state.specs.state.WellFormed.{size_shown, owner_shown}
use Rattle.filer_state.specs.state.Partition.{numbers_in}
use Rattle.filer_state.specs.laws.lemmas.Mapped.{entries-map_values, len-map_values, changed_by}
use Rattle.filer_state.specs.bytes.lemmas.Patched.{past-list, byte-before, byte-past}

module _ (f offset : ℕ) (written : List ℕ) (moment : Moment) (s : StripeValue) where
  abbrev after : StripeValue
  after = overwritten f offset written moment s

  abbrev change : ℕ → ℕ → ℕ
  change = byte_written offset written

  -- ---- blocks

  found : (q : FileBlock) → get after.blocks q ≡ option_map (file_mapped change f q) (get s.blocks q)
  found q = get-map_values place_total place_same (file_mapped change f) s.blocks q

  -- one of another file is as it was
  pub block-other : (q block : ℕ) → (q == f) ≡ false → get after.blocks (q, block) ≡ get s.blocks (q, block)
  block-other q block ne = found (q, block) ∙ by (get s.blocks (q, block))
    where
      by : (o : Option Block) → option_map (file_mapped change f (q, block)) o ≡ o
      by None = refl
      by (Some b) = ap (λ (t : Bool). Some (if t then block_mapped change block b else b)) ne

  pub block-here : (block : ℕ) → get after.blocks (f, block) ≡ option_map (block_mapped change block) (get s.blocks (f, block))
  block-here block = found (f, block) ∙ by (get s.blocks (f, block))
    where
      by : (o : Option Block) → option_map (file_mapped change f (f, block)) o ≡ option_map (block_mapped change block) o
      by None = refl
      by (Some b) = ap (λ (t : Bool). Some (if t then block_mapped change block b else b)) (itself f)

  pub filled-same : (q block : ℕ) → is_filled after q block ≡ is_filled s q block
  filled-same q block = ap (λ o. is_some o) (found (q, block)) ∙ by (get s.blocks (q, block))
    where
      by : (o : Option Block) → is_some (option_map (file_mapped change f (q, block)) o) ≡ is_some o
      by None = refl
      by (Some b) = refl

  -- ---- bytes of a block

  pub block-long : (block : ℕ) (b : Block) → length (block_mapped change block b).bytes ≡ block_size
  block-long block b = length-map-range_with_len (λ i. change (block_size * block + i) (slice_index_or b.bytes i 0)) 0 block_size

  -- a byte within the block
  block-byte : (block i : ℕ) (b : Block) → i < block_size
      → byte_of (Some (block_mapped change block b)) i ≡ change (block_size * block + i) (byte_of (Some b) i)
  block-byte block i b less =
      get_or-map-range_with_len (λ k. change (block_size * block + k) (slice_index_or b.bytes k 0)) 0 block_size i i 0 less (omega arith)

  -- zeros past the size stay
  pub block-zeros : (size block at : ℕ) (b : Block) → offset + length written ≤ size → size ≤ block_size * block + at → byte_of (Some b) at ≡ 0
      → byte_of (Some (block_mapped change block b)) at ≡ 0
  block-zeros size block at b within past zeros = ⊎_elim
      (λ (less : at < block_size). block-byte block at b less
      ∙ byte-past offset written (block_size * block + at) (byte_of (Some b) at) (omega (arith, within, past)) ∙ zeros)
      (λ (beyond : block_size ≤ at). past-list (block_mapped change block b).bytes at 0 (let long = block-long block b in omega (arith, beyond, long)))
      (cases_lt at block_size)

  -- ---- bytes of a file

  pub byte-other : (q k : ℕ) → (q == f) ≡ false → byte_at after q k ≡ byte_at s q k
  byte-other q k ne = ap (λ o. byte_of o (k % block_size)) (block-other q (k / block_size) ne)

  -- of the file, where the blocks that are met are there
  pub byte-here : (k : ℕ) → (offset ≤ k → k < offset + length written → is_filled s f (k / block_size) ≡ true)
      → byte_at after f k ≡ change k (byte_at s f k)
  byte-here k there = ap (λ o. byte_of o (k % block_size)) (block-here (k / block_size)) ∙ by (get s.blocks (f, k / block_size)) there
    where
      hole : (offset ≤ k → k < offset + length written → false ≡ true) → 0 ≡ change k 0
      hole h = ⊎_elim
          (λ (below : k < offset). sym (byte-before offset written k 0 below))
          (λ (from : offset ≤ k). ⊎_elim
          (λ (less : k < offset + length written). let no : false ≡ true = h from less in absurd cc)
          (λ (past : offset + length written ≤ k). sym (byte-past offset written k 0 past))
          (cases_lt k (offset + length written)))
          (cases_lt k offset)

      by : (o : Option Block) → (offset ≤ k → k < offset + length written → is_some o ≡ true)
          → byte_of (option_map (block_mapped change (k / block_size)) o) (k % block_size) ≡ change k (byte_of o (k % block_size))
      by None h = hole h
      by (Some b) h =
          let place : block_size * (k / block_size) + k % block_size ≡ k = omega arith in
          block-byte (k / block_size) (k % block_size) b (omega arith)
          ∙ ap (λ (m : ℕ). change m (byte_of (Some b) (k % block_size))) place

  -- ---- numbers

  pub numbers-same : numbers_in after ≡ numbers_in s
  numbers-same =
      ap (λ es. map (λ (e : FileBlock × Block). e.1.number) es) (entries-map_values (file_mapped change f) place_total place_same s.blocks)
      ∙ listed (entries s.blocks)
    where
      one : (t : Bool) (block : ℕ) (b : Block) → (if t then block_mapped change block b else b).number ≡ b.number
      one true block b = refl
      one false block b = refl

      listed : (es : List (FileBlock × Block))
          → map (λ (e : FileBlock × Block). e.1.number) (changed_by (file_mapped change f) es) ≡ map (λ (e : FileBlock × Block). e.1.number) es
      listed [] = refl
      listed (e ∷ es) = λ j. one (e.0.0 == f) e.0.1 e.1 j ∷ listed es j

  pub times-same : (n : ℕ) → times_listed n (numbers_in after) ≡ times_listed n (numbers_in s)
  times-same n = ap (times_listed n) numbers-same

  pub len-same : len after.blocks ≡ len s.blocks
  len-same = len-map_values (file_mapped change f) place_total place_same s.blocks

  -- ---- cards

  card-found : (q : ℕ) → get after.cards q ≡ (if q == f then option_map (card_touched moment) (get s.cards f) else get s.cards q)
  card-found q = get-changed_at (card_touched moment) f s.cards q

  card-other : (q : ℕ) → (q == f) ≡ false → get after.cards q ≡ get s.cards q
  card-other q ne = card-found q ∙ ap (λ (b : Bool). if b then option_map (card_touched moment) (get s.cards f) else get s.cards q) ne

  card-here : get after.cards f ≡ option_map (card_touched moment) (get s.cards f)
  card-here = card-found f ∙ ap (λ (b : Bool). if b then option_map (card_touched moment) (get s.cards f) else get s.cards f) (itself f)

  pub touch-other : (q : ℕ) → (q == f) ≡ false → touch_of (get after.cards q) ≡ touch_of (get s.cards q)
  touch-other q ne = ap touch_of (card-other q ne)

  pub touch-here : (size : ℕ) (touch : Option Moment) (owner : Ownership) → get s.cards f ≡ Some (OfFile size touch owner)
      → touch_of (get after.cards f) ≡ Some (touched (touch_of (get s.cards f)) moment)
  touch-here size touch owner is =
      ap touch_of (card-here ∙ ap (option_map (card_touched moment)) is) ∙ ap (λ o. Some (touched (touch_of o) moment)) (sym is)

  -- what a card shows stays
  pub shown-same : (q : ℕ) → option_map size_shown (get after.cards q) ≡ option_map size_shown (get s.cards q)
  shown-same q = by (q == f) refl
    where
      card : (c : Card) → size_shown (card_touched moment c) ≡ size_shown c
      card (OfFile size touch owner) = refl
      card OfDirectory = refl

      there : (o : Option Card) → option_map size_shown (option_map (card_touched moment) o) ≡ option_map size_shown o
      there None = refl
      there (Some c) = ap Some (card c)

      by : (b : Bool) → (q == f) ≡ b → option_map size_shown (get after.cards q) ≡ option_map size_shown (get s.cards q)
      by true e =
          let is : q ≡ f = eqb-true q f e in
          ap (λ (k : ℕ). option_map size_shown (get after.cards k)) is
          ∙ ap (option_map size_shown) card-here ∙ there (get s.cards f) ∙ ap (λ (k : ℕ). option_map size_shown (get s.cards k)) (sym is)
      by false e = ap (option_map size_shown) (card-other q e)

  -- and so does its owner
  pub owner-same : (q : ℕ) → option_map owner_shown (get after.cards q) ≡ option_map owner_shown (get s.cards q)
  owner-same q = by (q == f) refl
    where
      card : (c : Card) → owner_shown (card_touched moment c) ≡ owner_shown c
      card (OfFile size touch owner) = refl
      card OfDirectory = refl

      there : (o : Option Card) → option_map owner_shown (option_map (card_touched moment) o) ≡ option_map owner_shown o
      there None = refl
      there (Some c) = ap Some (card c)

      by : (b : Bool) → (q == f) ≡ b → option_map owner_shown (get after.cards q) ≡ option_map owner_shown (get s.cards q)
      by true e =
          let is : q ≡ f = eqb-true q f e in
          ap (λ (k : ℕ). option_map owner_shown (get after.cards k)) is
          ∙ ap (option_map owner_shown) card-here ∙ there (get s.cards f) ∙ ap (λ (k : ℕ). option_map owner_shown (get s.cards k)) (sym is)
      by false e = ap (option_map owner_shown) (card-other q e)
