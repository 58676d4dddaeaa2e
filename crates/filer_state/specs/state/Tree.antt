-- The server that parcels stand for: names, and files as lists of bytes (RFC 1813 section 2.5).
use Rattle.std.specs.Prelude.{ℕ, ◌+◌, ◌*◌, ◌/◌, List, [], ◌∷◌, map, length, Option, Some, None, slice_index_or, if◌then◌else◌}
use Rattle.std.specs.List.{range_with_len}
use Rattle.std.specs.Ordering.{nat_cmp}
use Rattle.std.specs.FinMap.{FinMap, get}
use Rattle.std.specs.FinSet.{FinSet, retain, from_list}
use Rattle.nfs_model.specs.Types.{Moment}
use Rattle.nfs_model.specs.Tree.{Layout}
use Rattle.nfs_model.specs.Server as servers
use Rattle.nfs_model.specs.Server.{Attributes, Node, File, Directory, Special, Server, block_size}
use Rattle.nfs_model.specs.Shown.{touched}
use Rattle.nfs_model.specs.volume.Maps.{map_values}
use Rattle.nfs_model.specs.volume.Directories.{DirectoryValue, empty_directory}
use Rattle.nfs_model.specs.volume.Inodes.{InodeKind, RegularFile, DirectoryKind, SpecialFile, Inode}
use Rattle.nfs_model.specs.volume.Stripes.{StripeValue, stripe_of, byte_at, is_filled, touch_of}
use Rattle.nfs_model.specs.volume.Ranges.{RangeValue}
use Rattle.filer_state.specs.state.Parcels.{FilerParcel, no_stripe}
use Rattle.filer_state.specs.state.Contents.{VolumeContents, FilerContents, filer_contents}

-- ---- a file

abbrev pub stripe_at : List StripeValue → ℕ → StripeValue
stripe_at stripes i = slice_index_or stripes i no_stripe

-- the stripe in which a file's block lies
abbrev pub home_stripe : List StripeValue → ℕ → ℕ → StripeValue
home_stripe stripes fileid block = stripe_at stripes (stripe_of (length stripes) fileid block)

-- a byte of a file; a hole reads as zero
abbrev pub file_byte : List StripeValue → ℕ → ℕ → ℕ
file_byte stripes fileid at = byte_at (home_stripe stripes fileid (at / block_size)) fileid at

-- the bytes of a file of a size
abbrev pub file_bytes : List StripeValue → ℕ → ℕ → List ℕ
file_bytes stripes fileid size = map (file_byte stripes fileid) (range_with_len 0 size)

-- more blocks than this no file has, in any layout: 1 TiB
unfoldable pub most_file_blocks : ℕ
most_file_blocks = 268435456

-- the blocks of a file that are there
abbrev pub file_filled : List StripeValue → ℕ → FinSet nat_cmp
file_filled stripes fileid =
    retain (from_list (range_with_len 0 most_file_blocks)) (λ block. is_filled (home_stripe stripes fileid block) fileid block)

-- the later of two touches
abbrev pub later : Option Moment → Option Moment → Option Moment
later None touch = touch
later (Some moment) None = Some moment
later (Some moment) (Some other) = Some (touched (Some moment) other)

-- the latest touch of a file in its stripes
abbrev pub file_touch : List StripeValue → ℕ → Option Moment
file_touch [] fileid = None
file_touch (s ∷ stripes) fileid = later (touch_of (get s.cards fileid)) (file_touch stripes fileid)

-- ---- a node

-- the entries of a directory
abbrev pub directory_or_empty : Option DirectoryValue → DirectoryValue
directory_or_empty None = empty_directory
directory_or_empty (Some d) = d

-- the text of a symbolic link
abbrev pub text_or_empty : Option (List ℕ) → List ℕ
text_or_empty None = []
text_or_empty (Some text) = text

-- A node by its attributes, its count of names and its kind: a file has these bytes by its size, these blocks and this touch, a
-- directory these entries, a symbolic link this text.
abbrev pub node_with : (ℕ → List ℕ) → FinSet nat_cmp → Option Moment → DirectoryValue → List ℕ → Attributes → ℕ → InodeKind → Node
node_with bytes blocks touch entries text attributes names (RegularFile size filled verifier) =
    File (record { attributes = attributes; bytes = bytes size; filled = blocks; touch = touch; verifier = verifier; links = names })
node_with bytes blocks touch entries text attributes names (DirectoryKind parent subdirectories) =
    Directory (record { attributes = attributes; parent = parent; next = entries.next; list = entries.list })
node_with bytes blocks touch entries text attributes names (SpecialFile special size) =
    Special (record { attributes = attributes; special = special; text = text; links = names })

-- a file's size is its inode's, its bytes, blocks and touch are its stripes'
abbrev pub node_by : List StripeValue → Option DirectoryValue → Option (List ℕ) → ℕ → Attributes → ℕ → InodeKind → Node
node_by stripes directory text fileid attributes names kind =
    node_with (file_bytes stripes fileid) (file_filled stripes fileid) (file_touch stripes fileid) (directory_or_empty directory)
    (text_or_empty text) attributes names kind

-- the node of an inode
abbrev pub node_of : List StripeValue → FinMap nat_cmp DirectoryValue → FinMap nat_cmp (List ℕ) → ℕ → Inode → Node
node_of stripes directories texts fileid inode =
    node_by stripes (get directories fileid) (get texts fileid) fileid inode.attributes inode.names inode.kind

-- ---- volumes

-- how many ranges are in use
abbrev pub ranges_used : List RangeValue → ℕ
ranges_used [] = 0
ranges_used (r ∷ rs) = (if r.is_used then 1 else 0) + ranges_used rs

-- a volume as calls see it
abbrev pub volume_of : VolumeContents → servers.VolumeState
volume_of p = record {
  number = p.number;
  aggregate = p.aggregate;
  total = p.logical.dead.range_blocks * ranges_used p.ranges;
  largest = p.logical.largest;
  range_blocks = p.logical.dead.range_blocks;
  most_inodes = p.logical.most_inodes;
  most_steps = p.logical.most_steps;
  verifier = p.logical.verifier;
  next = p.logical.inodes.next;
  nodes = map_values (node_of p.stripes p.logical.directories p.logical.texts) p.logical.inodes.inodes;
  memos = p.logical.memos;
}

-- all volumes as calls see them
abbrev pub server_of : FilerContents → Server
server_of c = record { spare = c.spare; volumes = map volume_of c.volumes }

-- the server of all parcels
abbrev pub tree : {P : Type 0} → Layout → (ℕ → Option (FilerParcel P)) → Server
tree layout f = server_of (filer_contents layout f)
