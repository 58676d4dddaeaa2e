-- Blocks whose bytes are changed by their places.
use Rattle.std.proofs.Common.{◌≡◌, ℕ, ◌+◌, ◌-◌, ◌*◌, ◌/◌, ◌%◌, ◌<◌, ◌≤◌, ◌==◌, Bool, true, false, cond, List, length, get_or, refl, sym, ap, ◌∙◌, inl, inr}
use Rattle.std.proofs.Common.{arith, Option, Some, None, eq-eqb}
use Rattle.std.proofs.lemmas.Bool.{cases_eq, cases_lt}
use Rattle.std.proofs.lemmas.List.FromFn.{fill_by_all, length-map-range_with_len}
use Rattle.std.specs.Option.{option_map}
use Rattle.nfs_model.specs.Server.{block_size}
use Rattle.nfs_model.specs.Home.{span_bytes}
use Rattle.nfs_model.specs.volume.Stripes.{Block, FileBlock, span_blocks, block_mapped, file_mapped, byte_written}
use Rattle.stripes.proofs.Bytes.{byte_missed}
use Rattle.stripes.proofs.Places.{unlike}

-- a block has as many bytes afterwards
length-mapped : (change : ℕ → ℕ → ℕ) (block : ℕ) (b : Block) → length (block_mapped change block b).bytes ≡ block_size
length-mapped change block b = length-map-range_with_len (λ i. change (block_size * block + i) (get_or b.bytes i 0)) 0 block_size

pub length-file_mapped : (change : ℕ → ℕ → ℕ) (f : ℕ) (p : FileBlock) (b : Block) → length b.bytes ≡ block_size
    → length (file_mapped change f p b).bytes ≡ block_size
length-file_mapped change f p b long = by (p.0 == f)
  where
    by : (t : Bool) → length (cond t (block_mapped change p.1 b) b).bytes ≡ block_size
    by true = length-mapped change p.1 b
    by false = long

-- a block of which no byte changes
block-same : (change : ℕ → ℕ → ℕ) (block : ℕ) (b : Block) → length b.bytes ≡ block_size
    → ((i x : ℕ) → i < block_size → change (block_size * block + i) x ≡ x) → block_mapped change block b ≡ b
block-same change block b long same = λ j. record {
  number = b.number;
  bytes = sym (fill_by_all (λ i. change (block_size * block + i) (get_or b.bytes i 0)) b.bytes block_size 0 long
      (λ k below. sym (same k (get_or b.bytes k 0) below))) j;
}

-- a place whose block has no byte that changes
pub place-same : (change : ℕ → ℕ → ℕ) (f : ℕ) (p : FileBlock) (o : Option Block) → ((b : Block) → o ≡ Some b → length b.bytes ≡ block_size)
    → (p.0 ≡ f → (i x : ℕ) → i < block_size → change (block_size * p.1 + i) x ≡ x) → option_map (file_mapped change f p) o ≡ o
place-same change f p None long same = refl
place-same change f p (Some b) long same = elim (cases_eq p.0 f) [
  | inl e ↦ ap (λ t. Some (cond t (block_mapped change p.1 b) b)) (eq-eqb p.0 f e) ∙ ap Some (block-same change p.1 b (long b refl) (same e))
  | inr n ↦ ap (λ t. Some (cond t (block_mapped change p.1 b) b)) (unlike p.0 f n)
]

-- a place of the file
pub place-of-file : (change : ℕ → ℕ → ℕ) (f : ℕ) (p : FileBlock) (o : Option Block) → p.0 ≡ f
    → option_map (file_mapped change f p) o ≡ option_map (block_mapped change p.1) o
place-of-file change f p None e = refl
place-of-file change f p (Some b) e = ap (λ t. Some (cond t (block_mapped change p.1 b) b)) (eq-eqb p.0 f e)

-- bytes that a write in one span misses: those of other spans, and those before its first and after its last block
pub missed-span : (offset block i : ℕ) (written : List ℕ) (x : ℕ) → offset % span_bytes + length written ≤ span_bytes → i < block_size
    → (block / span_blocks ≡ offset / span_bytes → ⊥) → byte_written offset written (block_size * block + i) x ≡ x
missed-span offset block i written x span below other =
    byte_missed offset written (block_size * block + i) x (λ from. elim (cases_lt (block_size * block + i) (offset + length written)) [
      | inl inside ↦ absurd (other (omega arith))
      | inr past ↦ past
    ])

pub missed-before : (offset block i : ℕ) (written : List ℕ) (x : ℕ) → i < block_size → block < offset / block_size
    → byte_written offset written (block_size * block + i) x ≡ x
missed-before offset block i written x below before = byte_missed offset written (block_size * block + i) x (λ from. absurd (omega arith))

pub missed-after : (offset block i : ℕ) (written : List ℕ) (x : ℕ) → i < block_size → 0 < length written
    → (offset + length written - 1) / block_size + 1 ≤ block
    → byte_written offset written (block_size * block + i) x ≡ x
missed-after offset block i written x below some after = byte_missed offset written (block_size * block + i) x (λ from. omega arith)
