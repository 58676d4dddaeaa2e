-- What is told of a file by its inode and its bytes is the serial server's READ.
use Rattle.std.proofs.Common.{◌≡◌, ℕ, ◌+◌, ◌-◌, ◌≤◌, min, Bool, true, false, List, [], map, length, Option, Some, None, refl, sym, ap, ◌∙◌, arith}
use Rattle.std.specs.Prelude.{nat_le, if◌then◌else◌}
use Rattle.std.specs.Option.{option_map}
use Rattle.std.specs.List.{range_with_len}
use Rattle.std.specs.FinMap.{get}
use Rattle.std.proofs.lemmas.List.FromFn.{length-map-range_with_len}
use Rattle.nfs_model.specs.Types.{Answer, ReadDone}
use Rattle.nfs_model.specs.Server.{FileNode, Node, File, VolumeState, most_bytes}
use Rattle.nfs_model.specs.Locate.{Effect, Tells, on_file}
use Rattle.nfs_model.specs.Serial.Read.{bytes_at, read_of, read}
use Rattle.nfs_model.specs.volume.Inodes.{InodeKind, RegularFile, Inode}
use Rattle.nfs_model.specs.volume.Stripes.{Card}
use Rattle.filer_state.specs.state.Contents.{VolumeContents}
use Rattle.filer_state.specs.state.Names.{size_in}
use Rattle.filer_state.specs.state.Tree.{file_byte, node_by, node_of, volume_of}
use Rattle.filer_state.specs.state.WellFormed.{size_shown}
use Rattle.filer_state.specs.state.Calls.{answer_of, volume_left}
use Rattle.filer_state.specs.attributes.lemmas.Getting.{node-at}
use Rattle.filer_state.specs.bytes.Reading.{some_told, read_told, on_size, on_card, on_inode, bytes_under}
use Rattle.filer_state.specs.bytes.lemmas.Bytes.{bytes-from, many-from}

-- what the serial server tells of a file
abbrev reads : ℕ → ℕ → List ℕ → Effect
reads offset most bytes =
    if nat_le (length bytes) offset then Tells (ReadDone 0 true []) else Tells (read_of offset (length bytes) (bytes_at bytes offset most))

-- ---- a file whose byte at k is f k

module _ (f : ℕ → ℕ) (bytes : ℕ → List ℕ) (offset most : ℕ)
    (same : (n : ℕ) → n ≤ most → bytes n ≡ map f (range_with_len offset n)) where
  some-told : (size : ℕ)
      → some_told bytes offset size (min most (size - offset)) ≡ read_of offset size (bytes_at (map f (range_with_len 0 size)) offset most)
  some-told size =
      let n = many-from f offset most size in
      let is : bytes (min most (size - offset)) ≡ bytes_at (map f (range_with_len 0 size)) offset most =
      same (min most (size - offset)) (omega arith) ∙ sym (bytes-from f offset most size) in
      λ j. ReadDone (sym n j) (nat_le size (offset + sym n j)) (is j)

  file-told : (size : ℕ) → read_told bytes offset most size ≡ answer_of 1 (reads offset most (map f (range_with_len 0 size)))
  file-told size = by (nat_le size offset)
      ∙ ap (λ (long : ℕ). answer_of 1 (if nat_le long offset then Tells (ReadDone 0 true [])
      else Tells (read_of offset long (bytes_at (map f (range_with_len 0 size)) offset most)))) (sym (length-map-range_with_len f 0 size))
    where
      by : (past : Bool) → (if past then ReadDone 0 true [] else some_told bytes offset size (min most (size - offset)))
          ≡ answer_of 1 (if past then Tells (ReadDone 0 true [])
          else Tells (read_of offset size (bytes_at (map f (range_with_len 0 size)) offset most)))
      by true = refl
      by false = some-told size

-- ---- by its inode

module _ (p : VolumeContents) (fileid offset count : ℕ) (bytes : ℕ → List ℕ)
    (same : (n : ℕ) → n ≤ min count most_bytes → bytes n ≡ bytes_under p.stripes fileid offset n) where
  abbrev run : FileNode → Effect
  run f = reads offset (min count most_bytes) f.bytes

  kinds : (inode : Inode) (kind : InodeKind)
      → on_size (size_in kind) (read_told bytes offset (min count most_bytes))
      ≡ answer_of 1 (on_file (Some (node_by p.stripes (get p.logical.directories fileid) (get p.logical.texts fileid) fileid inode.attributes inode.names kind)) run)
  kinds inode (RegularFile size filled verifier) = file-told (file_byte p.stripes fileid) bytes offset (min count most_bytes) same size
  kinds inode kind = refl

  by_inode : (o : Option Inode)
      → on_inode o (read_told bytes offset (min count most_bytes))
      ≡ answer_of 1 (on_file (option_map (node_of p.stripes p.logical.directories p.logical.texts fileid) o) run)
  by_inode None = refl
  by_inode (Some inode) = kinds inode inode.kind

  pub inode-told : on_inode (get p.logical.inodes.inodes fileid) (read_told bytes offset (min count most_bytes))
      ≡ answer_of 1 (read offset count (volume_of p) fileid)
  inode-told =
      by_inode (get p.logical.inodes.inodes fileid) ∙ ap (λ (o : Option Node). answer_of 1 (on_file o run)) (sym (node-at p fileid))

-- ---- by its card, which shows what its inode does

pub card-told : (told : ℕ → Answer) (card : Option Card) (inode : Option Inode)
    → option_map size_shown card ≡ option_map (λ (i : Inode). size_in i.kind) inode → on_card card told ≡ on_inode inode told
card-told told None None e = refl
card-told told None (Some inode) e = absurd cc
card-told told (Some card) None e = absurd cc
card-told told (Some card) (Some inode) e =
    let size : size_shown card ≡ size_in inode.kind = cc in ap (λ (o : Option ℕ). on_size o told) size

-- ---- READ changes nothing

pub read-stays : (volume : VolumeState) (fileid offset count : ℕ) → volume ≡ volume_left volume (read offset count volume fileid)
read-stays volume fileid offset count = by (get volume.nodes fileid)
  where
    told : (bytes : List ℕ) (past : Bool)
        → volume ≡ volume_left volume (if past then Tells (ReadDone 0 true [])
        else Tells (read_of offset (length bytes) (bytes_at bytes offset (min count most_bytes))))
    told bytes true = refl
    told bytes false = refl

    by : (o : Option Node) → volume ≡ volume_left volume (on_file o (λ f. reads offset (min count most_bytes) f.bytes))
    by None = refl
    by (Some (File f)) = told f.bytes (nat_le (length f.bytes) offset)
    by (Some node) = refl
