-- What has to hold of the contents of a volume, whatever is in hands (our profile).
use Rattle.std.specs.Prelude.{◌≡◌, ℕ, ◌+◌, ◌*◌, ◌<◌, ◌≤◌, nat_lt, List, length, Option, Some, None, slice_index_or, ◌⊎◌}
use Rattle.std.specs.Option.{option_map}
use Rattle.std.specs.FinMap.{get, len}
use Rattle.std.specs.FinSet as sets
use Rattle.nfs_model.specs.Types.{Ownership}
use Rattle.nfs_model.specs.Server.{Attributes, block_size}
use Rattle.nfs_model.specs.Serial.Rights.{ownership_of}
use Rattle.nfs_model.specs.Parts.{most_ranges}
use Rattle.affinity.specs.Largest.{mebibyte}
use Rattle.depot_rule.specs.Sums.{total}
use Rattle.nfs_model.specs.volume.Inodes.{InodeKind, Inode, filled_blocks, inodes_of_a_volume}
use Rattle.nfs_model.specs.volume.Stripes.{Card, OfFile, OfDirectory, Block, StripeValue, IsStripe, stripe_of, byte_of}
use Rattle.nfs_model.specs.volume.Ranges.{RangeValue, IsRange, IsRangeSize}
use Rattle.nfs_model.specs.volume.Logical.{LogicalValue}
use Rattle.filer_state.specs.state.Parcels.{no_range}
use Rattle.filer_state.specs.state.Contents.{VolumeContents}
use Rattle.filer_state.specs.state.Tree.{stripe_at, file_filled, ranges_used}
use Rattle.filer_state.specs.state.Names.{size_in, size_of, IsLogical}

-- ---- stripes

-- the size that a card shows of a file; of a directory none
abbrev pub size_shown : Card → Option ℕ
size_shown (OfFile size touch owner) = Some size
size_shown OfDirectory = None

-- the owner that a card shows of a file; of a directory none
abbrev pub owner_shown : Card → Option Ownership
owner_shown (OfFile size touch owner) = Some owner
owner_shown OfDirectory = None

-- the owner of a file, by its inode; nothing else has one that a card shows
abbrev pub owner_by : Attributes → InodeKind → Option Ownership
owner_by a kind = option_map (λ (size : ℕ). ownership_of a) (size_in kind)

abbrev pub owner_in : Inode → Option Ownership
owner_in inode = owner_by inode.attributes inode.kind

-- A block of a file of this size lies in the stripe of its span, starts before the size, and has zeros past it.
pub record BlockFits (stripes i fileid block size : ℕ) (b : Block) : Type 0 where
  pub lies : stripe_of stripes fileid block ≡ i
  pub starts : block_size * block < size
  pub zeros : (at : ℕ) → size ≤ block_size * block + at → byte_of (Some b) at ≡ 0

-- Of the i-th stripe of a volume, by what Volume Logical has: the same verifier, number of stripes and largest size; a card
-- of each inode, which shows its kind and size, and no other card; each block of 4,096 bytes, and a file's.
pub record StripeFits (l : LogicalValue) (i : ℕ) (s : StripeValue) : Type 0 where
  pub verifier : s.verifier ≡ l.verifier
  pub stripes : s.stripes ≡ l.stripes
  pub largest : s.largest ≡ l.largest
  pub cards : (fileid : ℕ)
      → option_map size_shown (get s.cards fileid) ≡ option_map (λ (inode : Inode). size_in inode.kind) (get l.inodes.inodes fileid)
  pub owners : (fileid : ℕ) → option_map owner_shown (get s.cards fileid) ≡ option_map owner_in (get l.inodes.inodes fileid)
  pub long : IsStripe s
  pub blocks : (fileid block : ℕ) (b : Block) → get s.blocks (fileid, block) ≡ Some b
      → (size : ℕ) × (size_of (get l.inodes.inodes fileid) ≡ Some size) × BlockFits l.stripes i fileid block size b

-- ---- ranges

abbrev pub range_at : List RangeValue → ℕ → RangeValue
range_at ranges r = slice_index_or ranges r no_range

-- Of the r-th range, where a range has this many blocks and this many are in use: these are the first.
pub record RangeFits (size used r : ℕ) (x : RangeValue) : Type 0 where
  pub blocks : x.range_blocks ≡ size
  pub number : x.number ≡ r
  pub in_use : x.is_used ≡ nat_lt r used
  pub free : IsRange x

-- ---- a volume

-- 8 or 16 stripes
abbrev pub IsStriped : ℕ → Type 0
IsStriped n = (n ≡ 8) ⊎ (n ≡ 16)

-- 16 to 1,048,576 MiB
pub record IsLargest (n : ℕ) : Type 0 where
  pub mebibytes : ℕ
  pub is : n ≡ mebibyte * mebibytes
  pub least : 16 ≤ mebibytes
  pub most : mebibytes ≤ 1048576

-- 65,536 to 67,108,864 inodes
abbrev pub IsInodeCount : ℕ → Type 0
IsInodeCount n = (65536 ≤ n) × (n ≤ inodes_of_a_volume)

pub record WellFormed (p : VolumeContents) : Type 0 where
  pub striped : IsStriped p.logical.stripes
  pub largest : IsLargest p.logical.largest
  pub most_inodes : IsInodeCount p.logical.most_inodes
  pub size : IsRangeSize p.logical.dead.range_blocks
  pub logical : IsLogical p.logical
  pub as_many : length p.stripes ≡ p.logical.stripes
  pub stripes : (i : ℕ) → i < length p.stripes → StripeFits p.logical i (stripe_at p.stripes i)
  -- the used count is the number of blocks that are there, and an inode's is that of its own
  pub used : p.logical.inodes.used ≡ total (λ (s : StripeValue). len s.blocks) p.stripes
  pub filled : (fileid : ℕ) (inode : Inode) → get p.logical.inodes.inodes fileid ≡ Some inode
      → filled_blocks inode.kind ≡ sets.len (file_filled p.stripes fileid)
  -- 16 ranges, of which 1 to 16 are in use, all of the volume's size
  pub sixteen : length p.ranges ≡ most_ranges
  pub some : 0 < ranges_used p.ranges
  pub ranges : (r : ℕ) → r < length p.ranges → RangeFits p.logical.dead.range_blocks (ranges_used p.ranges) r (range_at p.ranges r)
