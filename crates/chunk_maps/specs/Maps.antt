-- Values by fileid in a map of chunks.
use Rattle.std.specs.Prelude.{ℕ, zero, suc, ◌+◌, ◌*◌, List, [], ◌∷◌, Option, Some, None}
use Rattle.std.specs.Global.{Vec}
use Rattle.std.specs.Ordering.{nat_cmp}
use Rattle.std.specs.FinMap.{FinMap, empty, insert, remove}
use Rattle.chunk_maps.specs.declared.chunk_map.ChunkMap.{ChunkMap}
use Rattle.chunk_maps.specs.Chunks.{page_size, Slots, slot_of, value_on}
use Rattle.chunk_maps.specs.Numbers.{value_among}

-- the value of a fileid in a map, by what a chunk has under a fileid
abbrev pub value_by : {C V : Type 0} → (C → ℕ → Option V) → ChunkMap C → ℕ → Option V
value_by slot chunks fileid = value_among slot chunks.pages fileid

abbrev pub value_at : {V : Type 0} → ChunkMap (Slots V) → ℕ → Option V
value_at chunks fileid = value_by slot_of chunks fileid

-- ---- the map that a map of chunks is

-- a map with a value at a key, or none
abbrev pub with_slot : {V : Type 0} → ℕ → Option V → FinMap nat_cmp V → FinMap nat_cmp V
with_slot fileid None values = remove values fileid
with_slot fileid (Some value) values = insert values fileid value

-- a map with what is under n fileids from a first on
unfoldable pub with_values : {V : Type 0} → (ℕ → Option V) → ℕ → ℕ → FinMap nat_cmp V → FinMap nat_cmp V
with_values under first zero values = values
with_values under first (suc n) values = with_slot (first + n) (under (first + n)) (with_values under first n values)

-- the values of pages by their numbers
unfoldable pub values_on : {V : Type 0} → List (ℕ × Vec (Option (Slots V))) → FinMap nat_cmp V
values_on [] = empty
values_on (page ∷ pages) = with_values (value_on slot_of page.1.items) (page_size * page.0) page_size (values_on pages)

-- the values of a map of chunks
unfoldable pub values_of : {V : Type 0} → ChunkMap (Slots V) → FinMap nat_cmp V
values_of chunks = values_on chunks.pages
