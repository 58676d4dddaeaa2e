-- Bytes of a part of a file.
use Rattle.std.specs.Prelude.{ℕ, ◌+◌, List, map, length, slice_index_or}
use Rattle.std.specs.List.{range_with_len}

-- the bytes of a part that begins at a place of the file, each by its place and by what was there
abbrev pub bytes_mapped : (ℕ → ℕ → ℕ) → ℕ → List ℕ → List ℕ
bytes_mapped change start bytes = map (λ i. change (start + i) (slice_index_or bytes i 0)) (range_with_len 0 (length bytes))
