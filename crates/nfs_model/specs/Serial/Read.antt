-- READ (RFC 1813 section 3.3.6).
use Rattle.std.specs.Prelude.{ℕ, ◌+◌, min, true, nat_le, List, [], length, take, drop, if◌then◌else◌}
use Rattle.std.specs.FinMap.{get}
use Rattle.nfs_model.specs.Types.{Answer, ReadDone}
use Rattle.nfs_model.specs.Server.{VolumeState, most_bytes}
use Rattle.nfs_model.specs.Locate.{Effect, Tells, on_file}

-- at most this many bytes from offset on
abbrev pub bytes_at : List ℕ → ℕ → ℕ → List ℕ
bytes_at bytes offset count = take count (drop offset bytes)

-- the bytes, and whether they reach the end
abbrev pub read_of : ℕ → ℕ → List ℕ → Answer
read_of offset size bytes = ReadDone (length bytes) (nat_le size (offset + length bytes)) bytes

-- STALE, INVAL for all but a regular file; at or past the end, nothing
abbrev pub read : ℕ → ℕ → VolumeState → ℕ → Effect
read offset count volume fileid = on_file (get volume.nodes fileid) (λ f.
    if nat_le (length f.bytes) offset then Tells (ReadDone 0 true [])
    else Tells (read_of offset (length f.bytes) (bytes_at f.bytes offset (min count most_bytes))))
