-- The blocks of files by spans, each an array of 64 places.
use Rattle.std.specs.Prelude.{◌≡◌, ℕ, zero, suc, ◌+◌, ◌-◌, ◌*◌, ◌/◌, ◌%◌, ◌<◌, ◌≤◌, Bool, true, false, not, ⊤, ◌==◌, ◌&&◌, nat_le, nat_lt, if◌then◌else◌}
use Rattle.std.specs.Prelude.{List, [], ◌∷◌, ◌++◌, map, length, Option, Some, None, is_some, slice_index_or}
use Rattle.std.specs.List.{range_with_len, list_all, filter}
use Rattle.std.specs.Option.{option_map}
use Rattle.std.specs.Map.{lookup}
use Rattle.std.specs.BTreeMap.{is_at}
use Rattle.std.specs.FinMap.{FinMap, from_entries, entries, get, retain_keys}
use Rattle.nfs_model.specs.volume.Maps.{map_values, changed_at}
use Rattle.nfs_model.specs.Server.{block_size}
use Rattle.nfs_model.specs.Home.{span_bytes}
use Rattle.nfs_model.specs.Serial.Write.{blocks_met}
use Rattle.nfs_model.specs.volume.Stripes.{Block, FileBlock, file_block_cmp, span_blocks, byte_of, byte_written, byte_cut, block_mapped, file_mapped, is_cut_off}

-- the places of a span
abbrev pub Places : Type 0
Places = List (Option Block)

-- arrays by their file and span
abbrev pub Spans : Type 0
Spans = List (FileBlock × Places)

-- the block of a number in a span's array
abbrev pub place_of : Places → ℕ → Option Block
place_of places block = slice_index_or places (block % span_blocks) None

-- the same, where there may be no array
abbrev pub place_in : Option Places → ℕ → Option Block
place_in None block = None
place_in (Some places) block = place_of places block

-- the span of a file's block
abbrev pub span_of : FileBlock → FileBlock
span_of p = (p.0, p.1 / span_blocks)

-- a file's block
abbrev pub block_at : Spans → FileBlock → Option Block
block_at spans p = place_in (lookup (is_at (file_block_cmp (span_of p))) spans) p.1

-- n places of a file from a block on
abbrev pub places_from : ℕ → ℕ → ℕ → List FileBlock
places_from fileid block zero = []
places_from fileid block (suc n) = (fileid, block) ∷ places_from fileid (block + 1) n

-- the places of all spans
unfoldable pub all_places : Spans → List FileBlock
all_places [] = []
all_places (e ∷ es) = places_from e.0.0 (span_blocks * e.0.1) span_blocks ++ all_places es

-- an entry, where there is a value
abbrev pub with_entry : FileBlock → Option Block → List (FileBlock × Block) → List (FileBlock × Block)
with_entry p None es = es
with_entry p (Some b) es = (p, b) ∷ es

-- the entries of those places that have a value
abbrev pub present : (FileBlock → Option Block) → List FileBlock → List (FileBlock × Block)
present f [] = []
present f (p ∷ ps) = with_entry p (f p) (present f ps)

-- the blocks of all spans
unfoldable pub blocks_of : Spans → FinMap file_block_cmp Block
blocks_of spans = from_entries (present (block_at spans) (all_places spans))

-- ---- a span's array

-- a byte of a span, and n of them from an offset on
abbrev pub span_byte : Places → ℕ → ℕ
span_byte places at = byte_of (place_of places (at / block_size)) (at % block_size)

abbrev pub span_read : Places → ℕ → ℕ → List ℕ
span_read places offset n = map (span_byte places) (range_with_len offset n)

-- the last of n bytes from an offset on is in this block
abbrev pub last_met : ℕ → ℕ → ℕ
last_met offset n = (offset + n - 1) / block_size

-- whether each block of n bytes from an offset on is filled
abbrev pub span_is_filled : ℕ → ℕ → Option Places → Bool
span_is_filled offset n places = list_all (λ b. is_some (place_in places b)) (blocks_met offset n)

-- a block put at its place
abbrev pub PutsBlock : ℕ → Block → Places → Places → Type 0
PutsBlock number block old new =
    (b : ℕ) → place_of new b ≡ (if b % span_blocks == number % span_blocks then Some block else place_of old b)

-- bytes written at an offset, into the blocks from a first one to before another
abbrev pub WritesBlocks : ℕ → ℕ → ℕ → List ℕ → Places → Places → Type 0
WritesBlocks first past offset written old new =
    (b : ℕ) → b / span_blocks ≡ offset / span_bytes
    → place_of new b ≡ (if nat_le first b && nat_lt b past then option_map (block_mapped (byte_written offset written) b)
    (place_of old b) else place_of old b)

-- bytes written at an offset, into the blocks that they meet
abbrev pub WritesSpan : ℕ → List ℕ → Places → Places → Type 0
WritesSpan offset written = WritesBlocks (offset / block_size) (last_met offset (length written) + 1) offset written

-- a block cut at a size
abbrev pub CutsSpan : ℕ → Places → Places → Type 0
CutsSpan size old new =
    (b : ℕ) → place_of new b
    ≡ (if b % span_blocks == (size / block_size) % span_blocks then option_map (block_mapped (byte_cut size) (size / block_size))
    (place_of old b) else place_of old b)

-- a block under another number
abbrev pub renumbered : ℕ → Block → Block
renumbered number b = record b { number = number }

-- the block at its place under another number
abbrev pub NumbersSpan : ℕ → ℕ → Places → Places → Type 0
NumbersSpan block number old new =
    (b : ℕ) → place_of new b
    ≡ (if b % span_blocks == block % span_blocks then option_map (renumbered number) (place_of old b) else place_of old b)

-- No block is at a place or after it.
abbrev pub HasNone : ℕ → Places → Type 0
HasNone from places = (i : ℕ) → from ≤ i → i < span_blocks → place_of places i ≡ None

-- A block is somewhere.
abbrev pub HasBlock : Places → Type 0
HasBlock places = (i : ℕ) × (i < span_blocks) × (is_some (place_of places i) ≡ true)

-- The first block from a place on is at another.
pub record IsFirst (from i : ℕ) (places : Places) : Type 0 where
  pub within : i < span_blocks
  pub after : from ≤ i
  pub there : is_some (place_of places i) ≡ true
  pub before : (j : ℕ) → from ≤ j → j < i → place_of places j ≡ None

-- A block is taken from its place.
pub record TakesBlock (i : ℕ) (block : Block) (old new : Places) : Type 0 where
  pub there : place_of old i ≡ Some block
  pub gone : (b : ℕ) → place_of new b ≡ (if b % span_blocks == i then None else place_of old b)

-- a number, where there is a block
abbrev pub with_number : Option Block → List ℕ → List ℕ
with_number None ns = ns
with_number (Some b) ns = b.number ∷ ns

-- the numbers of the blocks that are at n places from one on
abbrev pub numbers_at : (ℕ → Option Block) → (from n : ℕ) → List ℕ
numbers_at block from zero = []
numbers_at block from (suc n) = with_number (block from) (numbers_at block (from + 1) n)

-- the numbers of an array's blocks from a place on
abbrev pub numbers_from : ℕ → Places → List ℕ
numbers_from from places = numbers_at (place_of places) from (span_blocks - from)

-- The blocks from a place on to before another are gone.
abbrev pub IsTakenUpTo : (from past : ℕ) → Places → Places → Type 0
IsTakenUpTo from past old new =
    (b : ℕ) → place_of new b ≡ (if nat_le from (b % span_blocks) && nat_lt (b % span_blocks) past then None else place_of old b)

-- The blocks from a place on are gone.
abbrev pub IsTakenFrom : ℕ → Places → Places → Type 0
IsTakenFrom from = IsTakenUpTo from span_blocks

-- ---- all spans

-- the array under a file and a span
abbrev pub span_at : Spans → FileBlock → Option Places
span_at spans k = lookup (is_at (file_block_cmp k)) spans

-- Each span's array has a block.
abbrev pub AllFilled : Spans → Type 0
AllFilled spans = (k : FileBlock) (places : Places) → span_at spans k ≡ Some places → HasBlock places

-- Blocks have 4,096 bytes, and a span's array has a block.
pub record IsSpans (spans : Spans) : Type 0 where
  pub long : (p : FileBlock) (b : Block) → block_at spans p ≡ Some b → length b.bytes ≡ block_size
  pub filled : AllFilled spans

-- ---- what is done to the arrays

-- All arrays are the same.
abbrev pub SameSpans : Spans → Spans → Type 0
SameSpans old new = (k : FileBlock) → span_at new k ≡ span_at old k

-- The array under a key is changed so, and the others are the same.
pub record ChangesSpan (Q : Option Places → Option Places → Type 0) (k : FileBlock) (old new : Spans) : Type 0 where
  pub here : Q (span_at old k) (span_at new k)
  pub others : (q : FileBlock) → is_at (file_block_cmp k) q ≡ false → span_at new q ≡ span_at old q

-- an array changed, where there is one
abbrev pub Where : (Places → Places → Type 0) → Option Places → Option Places → Type 0
Where Q None None = ⊤
Where Q None (Some new) = ⊥
Where Q (Some old) None = ⊥
Where Q (Some old) (Some new) = Q old new

-- an array that is there changed
abbrev pub There : (Places → Places → Type 0) → Option Places → Option Places → Type 0
There Q None new = ⊥
There Q (Some old) None = ⊥
There Q (Some old) (Some new) = Q old new

-- an array gone, if it was there
abbrev pub Drops : Option Places → Option Places → Type 0
Drops old new = new ≡ None

-- a block put into an array, where there is one or not
abbrev pub Puts : ℕ → Block → Option Places → Option Places → Type 0
Puts number block old None = ⊥
Puts number block None (Some new) = PutsBlock number block [] new
Puts number block (Some old) (Some new) = PutsBlock number block old new

-- the same array
abbrev pub Stays : Places → Places → Type 0
Stays old new = new ≡ old

-- The first block from a place on is taken out of an array, and it is told whether none is left.
pub record TakesFirst (from : ℕ) (block : Block) (is_empty : Bool) (old new : Places) : Type 0 where
  pub place : ℕ
  pub first : IsFirst from place old
  pub taken : TakesBlock place block old new
  pub empty : is_empty ≡ true → HasNone 0 new
  pub filled : is_empty ≡ false → HasBlock new

-- The first block from a place on is taken out of an array, which goes with its last block.
abbrev pub Takes : ℕ → Block → Option Places → Option Places → Type 0
Takes from block None new = ⊥
Takes from block (Some old) None = (left : Places) × TakesFirst from block true old left
Takes from block (Some old) (Some new) = TakesFirst from block false old new

-- The blocks from a place on are taken out of an array, their numbers told, and whether none is left.
pub record TakesRest (from : ℕ) (numbers : List ℕ) (is_empty : Bool) (old new : Places) : Type 0 where
  pub some : 0 < length numbers
  pub told : numbers ≡ numbers_from from old
  pub taken : IsTakenFrom from old new
  pub empty : is_empty ≡ true → HasNone 0 new
  pub filled : is_empty ≡ false → HasBlock new

-- The blocks from a place on are taken out of an array, which goes with its last block.
abbrev pub TakesFrom : ℕ → List ℕ → Option Places → Option Places → Type 0
TakesFrom from numbers None new = ⊥
TakesFrom from numbers (Some old) None = (left : Places) × TakesRest from numbers true old left
TakesFrom from numbers (Some old) (Some new) = TakesRest from numbers false old new

-- No block is at a place of an array or after it.
abbrev pub TakesNone : ℕ → Option Places → Type 0
TakesNone from None = ⊤
TakesNone from (Some places) = HasNone from places

-- A file has no block from a number on.
abbrev pub HasNoneFrom : ℕ → ℕ → Spans → Type 0
HasNoneFrom fileid first spans = (b : ℕ) → first ≤ b → block_at spans (fileid, b) ≡ None

-- A file's first block from a number on is gone.
pub record FreesFirst (fileid first : ℕ) (block : Block) (old new : Spans) : Type 0 where
  pub number : ℕ
  pub from : first ≤ number
  pub before : (b : ℕ) → first ≤ b → b < number → block_at old (fileid, b) ≡ None
  pub there : block_at old (fileid, number) ≡ Some block
  pub gone : (p : FileBlock) → block_at new p ≡ (if is_at (file_block_cmp (fileid, number)) p then None else block_at old p)
  pub filled : AllFilled new

-- whether a block is in a file's span, at a place or after it
abbrev pub is_in_rest : (fileid span from : ℕ) → FileBlock → Bool
is_in_rest fileid span from p = is_at (file_block_cmp (fileid, span)) (span_of p) && nat_le from (p.1 % span_blocks)

-- Of a file's blocks from a number on, those in the span of the first are gone, and their numbers told.
pub record FreesSpan (fileid first : ℕ) (numbers : List ℕ) (old new : Spans) : Type 0 where
  pub span : ℕ
  pub from : ℕ
  pub within : from ≤ span_blocks
  pub after : first ≤ span_blocks * span + from
  pub before : (b : ℕ) → first ≤ b → b < span_blocks * span + from → block_at old (fileid, b) ≡ None
  pub some : 0 < length numbers
  pub told : numbers ≡ numbers_at (λ i. block_at old (fileid, span_blocks * span + i)) from (span_blocks - from)
  pub gone : (p : FileBlock) → block_at new p ≡ (if is_in_rest fileid span from p then None else block_at old p)
  pub filled : AllFilled new

-- ---- words on blocks

-- The blocks from a number on are those that lie wholly past a size.
pub record IsFirstPast (size first : ℕ) : Type 0 where
  pub from : (b : ℕ) → size ≤ block_size * b → first ≤ b
  pub past : (b : ℕ) → first ≤ b → size ≤ block_size * b

-- the numbers of a file's blocks that lie wholly past a size
abbrev pub numbers_past : ℕ → ℕ → FinMap file_block_cmp Block → List ℕ
numbers_past fileid size blocks =
    map (λ (e : FileBlock × Block). e.1.number) (filter (λ (e : FileBlock × Block). is_cut_off fileid size e.0) (entries blocks))

-- a file's blocks cut to a size
abbrev pub cut_blocks : ℕ → ℕ → FinMap file_block_cmp Block → FinMap file_block_cmp Block
cut_blocks fileid size blocks = map_values (file_mapped (byte_cut size) fileid) (retain_keys blocks (λ p. not (is_cut_off fileid size p)))

-- n bytes of a file from an offset on
abbrev pub blocks_read : FinMap file_block_cmp Block → ℕ → ℕ → ℕ → List ℕ
blocks_read blocks fileid offset n =
    map (λ at. byte_of (get blocks (fileid, at / block_size)) (at % block_size)) (range_with_len offset n)

-- a file's block under another number, if it is there
abbrev pub block_renumbered : ℕ → ℕ → ℕ → FinMap file_block_cmp Block → FinMap file_block_cmp Block
block_renumbered fileid block number blocks = changed_at (renumbered number) (fileid, block) blocks

-- Blocks have 4,096 bytes.
abbrev pub IsLong : FinMap file_block_cmp Block → Type 0
IsLong blocks = (p : FileBlock) (b : Block) → get blocks p ≡ Some b → length b.bytes ≡ block_size
