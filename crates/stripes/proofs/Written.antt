-- Bytes written into a span's blocks, one block after another.
use Rattle.std.proofs.Common.{◌≡◌, ◌≢◌, ℕ, ◌+◌, ◌%◌, ◌/◌, ◌<◌, ◌≤◌, Bool, true, false, List, length, get_or, set, refl, sym, ap, ◌∙◌, arith}
use Rattle.std.proofs.Common.{Option, None, inl, inr, length-set}
use Rattle.std.specs.Prelude.{◌&&◌, nat_le, nat_lt, if◌then◌else◌, option_map}
use Rattle.std.proofs.lemmas.Bool.{cases_eq}
use Rattle.std.proofs.lemmas.Bool.Decides.{nat_tests}
use Rattle.std.proofs.lemmas.List.{get_or-set_same, get_or-set_other}
use Rattle.nfs_model.specs.Home.{span_bytes}
use Rattle.nfs_model.specs.volume.Stripes.{Block, span_blocks, block_mapped, byte_written}
use Rattle.stripes.specs.Spans.{Places, place_of, WritesBlocks}
use Rattle.stripes.proofs.Places.{at-place}

-- an array stays as long as it is
pub still-long : (now xs : Places) (i : ℕ) (y : Option Block) → xs ≡ now → length now ≡ span_blocks → length (set xs i y) ≡ span_blocks
still-long now xs i y same long = length-set xs i y ∙ ap length same ∙ long

-- the block itself is not yet written, and is one of those that are written after it; any other is one of them or not, as before
self-before : (first b : ℕ) → (nat_le first b && nat_lt b b) ≡ false
self-before first b = grind (arith, nat_tests)

self-after : (first b : ℕ) → first ≤ b → (nat_le first b && nat_lt b (b + 1)) ≡ true
self-after first b h = grind (arith, nat_tests)

other-after : (b block : ℕ) → b ≢ block → nat_lt b (block + 1) ≡ nat_lt b block
other-after b block h = grind (arith, nat_tests)

-- two blocks of one span at one place are one
one-place : (b block : ℕ) → b / span_blocks ≡ block / span_blocks → b % span_blocks ≡ block % span_blocks → b ≡ block
one-place b block h k = omega arith

module _ (old now xs : Places) (first block offset i : ℕ) (written : List ℕ) (x y : Option Block) (so_far : WritesBlocks first block offset written old now)
    (same : xs ≡ now) (place : i ≡ block % span_blocks) (below : i < length xs)
    (changed : y ≡ option_map (block_mapped (byte_written offset written) block) (get_or xs i x)) (from : first ≤ block)
    (span : block / span_blocks ≡ offset / span_bytes) where
  -- what was there is what was there at first
  found : get_or xs i x ≡ place_of old block
  found =
      at-place xs xs i block x refl place below ∙ ap (λ (l : Places). place_of l block) same ∙ so_far block span
      ∙ ap (λ (t : Bool). if t then option_map (block_mapped (byte_written offset written) block) (place_of old block) else place_of old block)
      (self-before first block)

  here : place_of (set xs i y) block ≡ option_map (block_mapped (byte_written offset written) block) (place_of old block)
  here =
      ap (λ (j : ℕ). get_or (set xs i y) j None) (sym place) ∙ get_or-set_same xs i y None below ∙ changed
      ∙ ap (λ (o : Option Block). option_map (block_mapped (byte_written offset written) block) o) found

  -- one block more
  pub writes-more : WritesBlocks first (block + 1) offset written old (set xs i y)
  writes-more b h = elim (cases_eq b block) [
    | inl e ↦ ap (λ (a : ℕ). place_of (set xs i y) a) e ∙ here
        ∙ sym (ap (λ (t : Bool). if t then option_map (block_mapped (byte_written offset written) block) (place_of old block) else place_of old block)
        (self-after first block from))
        ∙ sym (ap (λ (a : ℕ). if nat_le first a && nat_lt a (block + 1)
        then option_map (block_mapped (byte_written offset written) a) (place_of old a) else place_of old a) e)
    | inr other ↦ get_or-set_other xs i (b % span_blocks) y None (λ e. other (one-place b block (h ∙ sym span) (e ∙ place)))
        ∙ ap (λ (l : Places). place_of l b) same ∙ so_far b h
        ∙ sym (ap (λ (t : Bool). if nat_le first b && t then option_map (block_mapped (byte_written offset written) b) (place_of old b)
        else place_of old b) (other-after b block other))
  ]
