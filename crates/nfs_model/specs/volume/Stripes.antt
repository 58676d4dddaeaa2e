-- A stripe of a volume: a card of every inode, and the blocks of the spans that lie in it (our profile).
use Rattle.std.specs.Prelude.{◌≡◌, ℕ, ◌+◌, ◌-◌, ◌*◌, ◌/◌, ◌%◌, Bool, false, ◌==◌, ◌&&◌, not, nat_lt}
use Rattle.std.specs.Prelude.{nat_le, List, map, length, replicate, Option, Some, None, is_some, slice_index_or}
use Rattle.std.specs.Prelude.{if◌then◌else◌}
use Rattle.std.specs.Ordering.{nat_cmp, ordering_then}
use Rattle.std.specs.declared.cmp.Ordering.{Ordering}
use Rattle.std.specs.FinMap.{FinMap, get, insert, remove, retain_keys, entries}
use Rattle.std.specs.FinMap as maps
use Rattle.std.specs.List.{range_with_len, filter, list_all}
use Rattle.nfs_model.specs.Types.{Moment, Ownership}
use Rattle.nfs_model.specs.Server.{block_size}
use Rattle.nfs_model.specs.Home.{span_bytes}
use Rattle.nfs_model.specs.Shown.{touched}
use Rattle.nfs_model.specs.Serial.Write.{blocks_met}
use Rattle.nfs_model.specs.volume.Maps.{map_values, changed_at}

-- ---- its parts

-- the card of an inode: a file's size in bytes, the latest write to this stripe since its times were last set, and who owns it
pub data Card : Type 0 where
  OfFile : (size : ℕ) (touch : Option Moment) (owner : Ownership) → Card
  OfDirectory : Card

-- a block of a file: its number in the volume, and its 4,096 bytes
pub record Block : Type 0 where
  pub number : ℕ
  pub bytes : List ℕ

-- a place in a volume's files: a fileid, and a block of that file
abbrev pub FileBlock : Type 0
FileBlock = ℕ × ℕ

-- by files, and then by blocks
abbrev pub file_block_cmp : FileBlock → FileBlock → Ordering
file_block_cmp a b = ordering_then (nat_cmp a.0 b.0) (nat_cmp a.1 b.1)

pub record StripeValue : Type 0 where
  pub verifier : List ℕ  -- of writes, fixed for the run
  pub stripes : ℕ  -- of the volume
  pub largest : ℕ  -- size of a file of the volume
  pub cards : FinMap nat_cmp Card  -- by fileid
  pub blocks : FinMap file_block_cmp Block

-- ---- bytes

-- how many blocks a span has
abbrev pub span_blocks : ℕ
span_blocks = span_bytes / block_size

-- the stripe of a file's block, of this many
abbrev pub stripe_of : ℕ → ℕ → ℕ → ℕ
stripe_of stripes fileid block = (fileid + block / span_blocks) % stripes

-- a byte of a block; a hole reads as zero
abbrev pub byte_of : Option Block → ℕ → ℕ
byte_of None i = 0
byte_of (Some b) i = slice_index_or b.bytes i 0

-- a byte of a file
abbrev pub byte_at : StripeValue → ℕ → ℕ → ℕ
byte_at s fileid at = byte_of (get s.blocks (fileid, at / block_size)) (at % block_size)

-- this many bytes of a file from an offset on
abbrev pub bytes_read : StripeValue → ℕ → ℕ → ℕ → List ℕ
bytes_read s fileid offset n = map (byte_at s fileid) (range_with_len offset n)

-- ---- what is asked

-- whether a card is of a file that reaches to an end
abbrev pub reaches : ℕ → Option Card → Bool
reaches end None = false
reaches end (Some OfDirectory) = false
reaches end (Some (OfFile size touch owner)) = nat_le end size

-- whether a block of a file is there
abbrev pub is_filled : StripeValue → ℕ → ℕ → Bool
is_filled s fileid block = is_some (get s.blocks (fileid, block))

-- whether a write of n bytes at an offset neither extends the file nor fills a hole
abbrev pub stays_within : ℕ → ℕ → ℕ → StripeValue → Bool
stays_within fileid offset n s =
    reaches (offset + n) (get s.cards fileid) && list_all (is_filled s fileid) (blocks_met offset n)

-- the touch on a card
abbrev pub touch_of : Option Card → Option Moment
touch_of (Some (OfFile size touch owner)) = touch
touch_of (Some OfDirectory) = None
touch_of None = None

-- ---- what changes its cards

-- a file's card with a write at a moment
abbrev pub card_touched : Moment → Card → Card
card_touched moment (OfFile size touch owner) = OfFile size (Some (touched touch moment)) owner
card_touched moment OfDirectory = OfDirectory

-- a file's card whose touch was taken
abbrev pub card_settled : Card → Card
card_settled (OfFile size touch owner) = OfFile size None owner
card_settled OfDirectory = OfDirectory

-- a touch taken, where there is one
abbrev pub touch_taken : ℕ → StripeValue → StripeValue
touch_taken fileid s = record s { cards = changed_at card_settled fileid s.cards }

-- a file's card with a size and an owner, where there is one or not: the touch stays
abbrev pub file_card_set : ℕ → ℕ → Ownership → StripeValue → StripeValue
file_card_set fileid size owner s = record s { cards = insert s.cards fileid (OfFile size (touch_of (get s.cards fileid)) owner) }

-- a file's card with another size
abbrev pub card_sized : ℕ → Card → Card
card_sized size (OfFile old touch owner) = OfFile size touch owner
card_sized size OfDirectory = OfDirectory

-- and where there is one, it has that size
abbrev pub file_card_sized : ℕ → ℕ → StripeValue → StripeValue
file_card_sized fileid size s = record s { cards = changed_at (card_sized size) fileid s.cards }

-- a file's card with another owner
abbrev pub card_owned : Ownership → Card → Card
card_owned owner (OfFile size touch old) = OfFile size touch owner
card_owned owner OfDirectory = OfDirectory

-- and where there is one, it has that owner
abbrev pub file_card_owned : ℕ → Ownership → StripeValue → StripeValue
file_card_owned fileid owner s = record s { cards = changed_at (card_owned owner) fileid s.cards }

-- a directory's card
abbrev pub directory_card_set : ℕ → StripeValue → StripeValue
directory_card_set fileid s = record s { cards = insert s.cards fileid OfDirectory }

-- a card gone
abbrev pub card_dropped : ℕ → StripeValue → StripeValue
card_dropped fileid s = record s { cards = remove s.cards fileid }

-- ---- what changes its blocks

-- a block of zeros
abbrev pub zero_block : ℕ → Block
zero_block number = record { number = number; bytes = replicate block_size 0 }

-- a block of zeros put at a place
abbrev pub block_inserted : ℕ → ℕ → ℕ → StripeValue → StripeValue
block_inserted fileid block number s = record s { blocks = insert s.blocks (fileid, block) (zero_block number) }

-- a block gone from a place
abbrev pub block_taken : ℕ → ℕ → StripeValue → StripeValue
block_taken fileid block s = record s { blocks = remove s.blocks (fileid, block) }

-- a block under another number
abbrev pub block_numbered : ℕ → ℕ → ℕ → StripeValue → StripeValue
block_numbered fileid block number s = record s { blocks = changed_at (λ (b : Block). record b { number = number }) (fileid, block) s.blocks }

-- a byte of a file, after others are written at an offset
abbrev pub byte_written : ℕ → List ℕ → ℕ → ℕ → ℕ
byte_written offset written at old = if nat_le offset at then slice_index_or written (at - offset) old else old

-- a file's block with a byte at each place of the file, by what was there
abbrev pub block_mapped : (ℕ → ℕ → ℕ) → ℕ → Block → Block
block_mapped change block b = record b {
  bytes = map (λ i. change (block_size * block + i) (slice_index_or b.bytes i 0)) (range_with_len 0 block_size);
}

-- all blocks of a file with such bytes
abbrev pub file_mapped : (ℕ → ℕ → ℕ) → ℕ → FileBlock → Block → Block
file_mapped change fileid place b = if place.0 == fileid then block_mapped change place.1 b else b

-- bytes written at an offset, at a moment, into blocks that are there
abbrev pub overwritten : ℕ → ℕ → List ℕ → Moment → StripeValue → StripeValue
overwritten fileid offset written moment s = record s {
  cards = changed_at (card_touched moment) fileid s.cards;
  blocks = map_values (file_mapped (byte_written offset written) fileid) s.blocks;
}

-- a byte of a file that is cut to a size
abbrev pub byte_cut : ℕ → ℕ → ℕ → ℕ
byte_cut size at old = if nat_lt at size then old else 0

-- whether a place is of a file, and the block lies wholly past a size
abbrev pub is_cut_off : ℕ → ℕ → FileBlock → Bool
is_cut_off fileid size place = (place.0 == fileid) && nat_le size (block_size * place.1)

-- a file's blocks cut to a size: those past it gone, and zeros in the rest of the last
abbrev pub cut : ℕ → ℕ → StripeValue → StripeValue
cut fileid size s = record s {
  blocks = map_values (file_mapped (byte_cut size) fileid) (retain_keys s.blocks (λ p. not (is_cut_off fileid size p)));
}

-- the numbers of the blocks that a cut frees
abbrev pub numbers_freed : ℕ → ℕ → StripeValue → List ℕ
numbers_freed fileid size s =
    map (λ (e : FileBlock × Block). e.1.number) (filter (λ (e : FileBlock × Block). is_cut_off fileid size e.0) (entries s.blocks))

-- ---- what holds of it

-- A block has 4,096 bytes.
pub record IsStripe (s : StripeValue) : Type 0 where
  pub long : (place : FileBlock) (b : Block) → get s.blocks place ≡ Some b → length b.bytes ≡ block_size

-- a stripe as it is made
abbrev pub empty_stripe : List ℕ → ℕ → ℕ → StripeValue
empty_stripe verifier stripes largest =
    record { verifier = verifier; stripes = stripes; largest = largest; cards = maps.empty; blocks = maps.empty }
