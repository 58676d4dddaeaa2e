-- WRITE (RFC 1813 section 3.3.7). A block is filled as a whole; memory is stable storage, so what
-- is written is committed (our profile).
use Rattle.std.specs.Prelude.{ℕ, ◌+◌, ◌-◌, ◌/◌, Bool, not, ◌&&◌, nat_lt, ◌==◌, List, [], ◌∷◌, ◌++◌, length, take, drop}
use Rattle.std.specs.Prelude.{replicate, Option, Some, None, if◌then◌else◌}
use Rattle.std.specs.List.{range_with_len, filter}
use Rattle.std.specs.Ordering.{nat_cmp}
use Rattle.std.specs.FinMap.{get}
use Rattle.std.specs.FinSet.{FinSet, contains, insert}
use Rattle.nfs_model.specs.Types.{Caller, Moment, Status, Invalid, TooBig, NoSpace, WriteDone}
use Rattle.nfs_model.specs.Server.{FileNode, File, VolumeState, used, block_size, most_bytes}
use Rattle.nfs_model.specs.Shown.{touched}
use Rattle.nfs_model.specs.Locate.{Effect, Fails, Tells, Changes, unless, on_file}
use Rattle.nfs_model.specs.Serial.Rights.{without_set_ids}
use Rattle.nfs_model.specs.Serial.Setattr.{with_node}

-- the numbers of the blocks that n bytes at an offset meet
abbrev pub blocks_met : ℕ → ℕ → List ℕ
blocks_met offset n =
    if n == 0 then []
    else range_with_len (offset / block_size) (((offset + n - 1) / block_size + 1) - offset / block_size)

-- those blocks that aren't filled
abbrev pub unfilled : FinSet nat_cmp → List ℕ → List ℕ
unfilled filled blocks = filter (λ b. not (contains filled b)) blocks

-- how many blocks it has to fill
abbrev pub need : FileNode → ℕ → ℕ → ℕ
need f offset n = length (unfilled f.filled (blocks_met offset n))

-- what stands before the question of space
abbrev pub write_fault : VolumeState → ℕ → ℕ → Option Status
write_fault volume offset n = if nat_lt volume.largest (offset + n) then Some TooBig else None

-- NOSPC exactly where the blocks in files and those needed exceed the volume's total (our profile)
abbrev pub space_fault : VolumeState → FileNode → ℕ → ℕ → Option Status
space_fault volume f offset n =
    if nat_lt volume.total (used volume + need f offset n) then Some NoSpace else None

-- a set with these blocks filled
abbrev pub with_blocks : FinSet nat_cmp → List ℕ → FinSet nat_cmp
with_blocks filled [] = filled
with_blocks filled (b ∷ bs) = insert (with_blocks filled bs) b

-- the bytes with others at an offset; a gap is a hole
abbrev pub written_bytes : List ℕ → ℕ → List ℕ → List ℕ
written_bytes bytes offset written =
    take offset bytes ++ replicate (offset - length bytes) 0 ++ written
    ++ drop (offset + length written) bytes

-- a file after a write: its bytes, blocks and touch; its stored times stay
abbrev pub written_file : FileNode → ℕ → List ℕ → Moment → FileNode
written_file f offset written moment = record f {
  bytes = written_bytes f.bytes offset written;
  filled = with_blocks f.filled (blocks_met offset (length written));
  touch = Some (touched f.touch moment);
}

-- whether a caller's WRITE ends that a file is run as its owner: where it is checked, and not uid 0
abbrev pub clears_set_ids : Caller → FileNode → Bool
clears_set_ids caller f =
    caller.checked && not (caller.credential.uid == 0) && not (without_set_ids f.attributes.mode == f.attributes.mode)

-- a file that a caller writes, before its bytes change
abbrev pub file_taken : Caller → FileNode → FileNode
file_taken caller f =
    if clears_set_ids caller f
    then record f { attributes = record f.attributes { mode = without_set_ids f.attributes.mode } } else f

-- what a WRITE asks of a file, at a moment
pub record Writing : Type 0 where
  pub caller : Caller
  pub offset : ℕ
  pub count : ℕ
  pub written : List ℕ
  pub moment : Moment

-- the bytes that it writes: the first 65,536
abbrev pub bytes_kept : Writing → List ℕ
bytes_kept w = take most_bytes w.written

-- at least one byte: FBIG, NOSPC, the change
abbrev pub write_some : VolumeState → ℕ → FileNode → Writing → Effect
write_some volume fileid f w =
    unless (write_fault volume w.offset (length (bytes_kept w)))
    (unless (space_fault volume f w.offset (length (bytes_kept w)))
    (Changes (WriteDone (length (bytes_kept w)) volume.verifier)
    (with_node volume fileid (File (written_file (file_taken w.caller f) w.offset (bytes_kept w) w.moment)))))

-- STALE, INVAL for all but a regular file, INVAL for a count that isn't the data's length; a count of 0
-- changes nothing; then the rest
abbrev pub write : Writing → VolumeState → ℕ → Effect
write w volume fileid = on_file (get volume.nodes fileid) (λ f.
    if not (w.count == length w.written) then Fails Invalid
    else if w.count == 0 then Tells (WriteDone 0 volume.verifier)
    else write_some volume fileid f w)
