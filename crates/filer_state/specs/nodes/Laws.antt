-- What a node comes to on a sound volume that is made under a name, dropped with its last name, moved, or gets or loses one of its
-- names (RFC 1813 sections 3.3.8 to 3.3.15).
use Rattle.std.specs.Prelude.{◌≡◌, ℕ, ◌+◌, ◌-◌, ◌*◌, ◌<◌, ◌≤◌, ◌==◌, nat_lt, false, List, [], length, replicate, Option, Some, None, IfSome}
use Rattle.std.specs.Option.{option_map}
use Rattle.std.specs.FinMap.{get, len, insert, remove}
use Rattle.std.specs.FinSet as sets
use Rattle.std.specs.FinSet.{retain}
use Rattle.nfs_model.specs.Types.{Listed}
use Rattle.nfs_model.specs.Server.{Attributes, Node, File, Directory, FileNode, DirectoryNode, block_size, used}
use Rattle.nfs_model.specs.Serial.Setattr.{resized_bytes, with_node}
use Rattle.nfs_model.specs.Moves.{Emptied}
use Rattle.nfs_model.specs.Names.{with_name, dropped_name}
use Rattle.nfs_model.specs.Parts.{Hand}
use Rattle.depot_rule.specs.Sums.{total}
use Rattle.nfs_model.specs.volume.Directories.{DirectoryValue, empty_directory, found}
use Rattle.nfs_model.specs.volume.Inodes.{InodeKind, RegularFile, Inode, InodesValue, filled_blocks, inode_of}
use Rattle.filer_state.specs.state.Contents.{VolumeContents}
use Rattle.filer_state.specs.state.Tree.{file_bytes, file_filled, file_touch, text_or_empty, node_with, node_of, volume_of}
use Rattle.filer_state.specs.state.Names.{DirectoryMap, root, directory_above, size_in, parent_in, subdirectories_in, text_length_in}
use Rattle.filer_state.specs.state.Partition.{parts_of, times_in_hand}
use Rattle.filer_state.specs.state.Sound.{IsSound}
use Rattle.filer_state.specs.state.Lenses.{LogicalSet, logical_lens}
use Rattle.filer_state.specs.nodes.Making.{Making, node_made}
use Rattle.filer_state.specs.nodes.Dropping.{Dropping, node_dropped}
use Rattle.filer_state.specs.nodes.Sizing.{Sizing, file_sized}
use Rattle.filer_state.specs.nodes.Moving.{Naming, inodes_untied, entries_untied, entry_taken, node_hung_up, name_dropped}
use Rattle.nfs_model.specs.Serial.Links.{with_link, without_link}
use Rattle.nfs_model.specs.Serial.Rename.{moved_node}
use Rattle.nfs_model.specs.volume.Maps.{map_values}
use Rattle.std.specs.FinMap.{FinMap}
use Rattle.std.specs.Ordering.{nat_cmp}

-- hands that carry as much of a volume's blocks
abbrev pub WeighAlike : ℕ → List Hand → List Hand → Type 0
WeighAlike v hands hands' = (n : ℕ) → total (times_in_hand v n) hands' ≡ total (times_in_hand v n) hands

-- a directory as it is seen, by its inode's attributes and its entries
abbrev pub seen_directory : Inode → DirectoryValue → ℕ → DirectoryNode
seen_directory inode d parent = record { attributes = inode.attributes; parent = parent; next = d.next; list = d.list }

-- ---- made

-- a new file has no block, and is no larger than the largest; a new directory has the other as its parent, and no subdirectory
pub record IsNewIn (directory largest : ℕ) (kind : InodeKind) : Type 0 where
  pub blocks : filled_blocks kind ≡ 0
  pub size : IfSome (size_in kind) (λ size. size ≤ largest)
  pub parent : IfSome (parent_in kind) (λ parent. parent ≡ directory)
  pub alone : IfSome (subdirectories_in kind) (λ subdirectories. subdirectories ≡ 0)

-- what has to be so of a node to be made: the directory is there, the name isn't, and an inode is left
pub record MayBeMade (m : Making) (p : VolumeContents) : Type 0 where
  pub there : get p.logical.inodes.inodes m.directory ≡ Some m.inode
  pub entered : get p.logical.directories m.directory ≡ Some m.entries
  pub absent : found m.entries m.name ≡ None
  pub few : len p.logical.inodes.inodes < p.logical.most_inodes
  pub one : m.made.names ≡ 1
  pub text : option_map length m.text ≡ text_length_in m.made.kind
  pub is_new : IsNewIn m.directory p.logical.largest m.made.kind

-- a new node as it is seen: a file of zeros without blocks, a directory without entries, or a special one with a text
abbrev pub new_node : Inode → Option (List ℕ) → Node
new_node inode text =
    node_with (λ size. replicate size 0) sets.empty None empty_directory (text_or_empty text) inode.attributes inode.names inode.kind

-- all stays sound, and the volume that is seen has the node under the next fileid, and the entry
abbrev pub NodesAreMade : Type 0
NodesAreMade = (p : VolumeContents) (m : Making) (hands hands' : List Hand) (made parent : ℕ)
    → MayBeMade m p → IsSound p hands made → WeighAlike p.number hands hands' → parent_in m.inode.kind ≡ Some parent
    → IsSound (logical_lens.put (node_made m (logical_lens.of p)) p) hands' (made + 1)
    × (volume_of (logical_lens.put (node_made m (logical_lens.of p)) p) ≡ record (volume_of p) {
      next = p.logical.inodes.next + 1;
      nodes = insert (insert (volume_of p).nodes p.logical.inodes.next (new_node m.made m.text)) m.directory
          (Directory (with_name (seen_directory m.inode m.entries parent) m.name p.logical.inodes.next m.moment));
    })

-- ---- dropped

-- a file of no bytes and no blocks, or a directory
abbrev pub IsEmptyKind : InodeKind → Type 0
IsEmptyKind kind = IfSome (size_in kind) (λ size. size ≡ 0) × (filled_blocks kind ≡ 0)

-- what has to be so of a node to be dropped: it stands under the name, which is its last, and has neither bytes nor entries
pub record LosesName (m : Dropping) (old : InodesValue) (directories : DirectoryMap) : Type 0 where
  pub there : inode_of old m.directory ≡ Some m.inode
  pub entered : get directories m.directory ≡ Some m.entries
  pub entry : Listed
  pub found_there : found m.entries m.name ≡ Some entry
  pub is : entry.fileid ≡ m.fileid
  pub node : inode_of old m.fileid ≡ Some m.dropped
  pub last : m.dropped.names ≤ 1
  pub kind : IsEmptyKind m.dropped.kind
  pub empty : (d : DirectoryValue) → get directories m.fileid ≡ Some d → d.list ≡ []

-- all stays sound, with no entry more needed, and the volume that is seen has neither the node nor the entry
abbrev pub NodesAreDropped : Type 0
NodesAreDropped = (p : VolumeContents) (m : Dropping) (hands hands' : List Hand) (made now parent : ℕ)
    → made ≤ now → LosesName m p.logical.inodes p.logical.directories → IsSound p hands made → WeighAlike p.number hands hands'
    → parent_in m.inode.kind ≡ Some parent
    → IsSound (logical_lens.put (node_dropped m (logical_lens.of p)) p) hands' now
    × (volume_of (logical_lens.put (node_dropped m (logical_lens.of p)) p) ≡ record (volume_of p) {
      nodes = insert (remove (volume_of p).nodes m.fileid) m.directory
          (Directory (dropped_name (seen_directory m.inode m.entries parent) m.name m.moment));
    })

-- ---- of a size set

-- a file as it is seen before
abbrev pub file_seen : VolumeContents → Sizing → ℕ → Option (List ℕ) → FileNode
file_seen p m old_size verifier = record {
  attributes = m.inode.attributes;
  bytes = file_bytes p.stripes m.fileid old_size;
  filled = file_filled p.stripes m.fileid;
  touch = file_touch p.stripes m.fileid;
  verifier = verifier;
  links = m.inode.names;
}

-- a file as it is seen, of a size set: it is settled, cut or grown, and has these attributes
abbrev pub file_resized : ℕ → Attributes → FileNode → FileNode
file_resized size attributes g = record g {
  attributes = attributes;
  bytes = resized_bytes size g.bytes;
  filled = retain g.filled (λ b. nat_lt (block_size * b) size);
  touch = None;
}

-- the volume after it
abbrev pub sized_volume : Sizing → VolumeContents → VolumeContents
sized_volume m p = logical_lens.put (file_sized m (logical_lens.of p)) p

-- all stays sound, the volume that is seen has the file cut or grown, and the blocks that left it are dead
abbrev pub FilesAreSized : Type 0
FilesAreSized = (p : VolumeContents) (m : Sizing) (hands hands' : List Hand) (made now old_size filled : ℕ) (verifier : Option (List ℕ))
    → made ≤ now → inode_of p.logical.inodes m.fileid ≡ Some m.inode → m.inode.kind ≡ RegularFile old_size filled verifier → m.size ≤ p.logical.largest
    → IsSound p hands made → WeighAlike p.number hands hands'
    → IsSound (sized_volume m p) hands' now
    × (volume_of (sized_volume m p)
    ≡ with_node (volume_of p) m.fileid (File (file_resized m.size m.attributes (file_seen p m old_size verifier))))
    × Emptied (used (volume_of p) - used (volume_of (sized_volume m p))) (parts_of p) (parts_of (sized_volume m p))

-- ---- moved to another name

-- the nodes of what is under Logical
abbrev pub nodes_of : LogicalSet → FinMap nat_cmp Node
nodes_of set = map_values (node_of set.stripes set.own.directories set.own.texts) set.own.inodes.inodes

-- a node stands under a name
pub record StandsUnder (m : Naming) (old : InodesValue) (directories : DirectoryMap) : Type 0 where
  pub there : inode_of old m.directory ≡ Some m.inode
  pub entered : get directories m.directory ≡ Some m.entries
  pub entry : Listed
  pub found_there : found m.entries m.name ≡ Some entry
  pub is : entry.fileid ≡ m.fileid
  pub node : inode_of old m.fileid ≡ Some m.node

-- a node without a name may be hung up under one: the name isn't there, and the directory isn't below the node
pub record MayHang (m : Naming) (old : InodesValue) (directories : DirectoryMap) : Type 0 where
  pub there : inode_of old m.directory ≡ Some m.inode
  pub entered : get directories m.directory ≡ Some m.entries
  pub absent : found m.entries m.name ≡ None
  pub node : inode_of old m.fileid ≡ Some m.node
  pub no_root : (m.fileid == root) ≡ false
  pub clear : (steps : ℕ) → (directory_above old.inodes steps m.directory == m.fileid) ≡ false

-- the volume after a node moved: its entry is taken, and it is hung up
abbrev pub moved_in : Naming → Naming → VolumeContents → VolumeContents
moved_in from to p =
    logical_lens.put (node_hung_up to (file_touch p.stripes to.fileid) (entry_taken from (logical_lens.of p))) p

-- all stays sound, and the nodes that are seen have lost the one entry and have the other, and the node is below that directory
abbrev pub NodesAreMoved : Type 0
NodesAreMoved = (p : VolumeContents) (from to : Naming) (hands hands' : List Hand) (made from_parent to_parent : ℕ)
    → StandsUnder from p.logical.inodes p.logical.directories
    → MayHang to (inodes_untied from p.logical.inodes) (entries_untied from p.logical.directories)
    → to.fileid ≡ from.fileid → to.names ≡ to.node.names → parent_in from.inode.kind ≡ Some from_parent → parent_in to.inode.kind ≡ Some to_parent
    → IsSound p hands made → WeighAlike p.number hands hands'
    → IsSound (moved_in from to p) hands' (made + 1)
    × (nodes_of (logical_lens.of (moved_in from to p))
    ≡ insert (insert (insert (volume_of p).nodes from.directory
    (Directory (dropped_name (seen_directory from.inode from.entries from_parent) from.name from.moment)))
    to.directory (Directory (with_name (seen_directory to.inode to.entries to_parent) to.name to.fileid to.moment)))
    to.fileid (moved_node to.directory to.moment (node_of p.stripes (entries_untied from p.logical.directories) p.logical.texts to.fileid to.node)))

-- ---- one more name

-- a node that isn't a directory gets a name that isn't there
pub record MayBeLinked (m : Naming) (old : InodesValue) (directories : DirectoryMap) : Type 0 where
  pub there : inode_of old m.directory ≡ Some m.inode
  pub entered : get directories m.directory ≡ Some m.entries
  pub absent : found m.entries m.name ≡ None
  pub node : inode_of old m.fileid ≡ Some m.node
  pub no_directory : parent_in m.node.kind ≡ None
  pub one_more : m.names ≡ m.node.names + 1

-- the volume after it
abbrev pub linked_in : Naming → VolumeContents → VolumeContents
linked_in m p = logical_lens.put (node_hung_up m (file_touch p.stripes m.fileid) (logical_lens.of p)) p

-- all stays sound, and the volume that is seen has the node with one more name, and the entry
abbrev pub NodesAreLinked : Type 0
NodesAreLinked = (p : VolumeContents) (m : Naming) (hands hands' : List Hand) (made parent : ℕ)
    → MayBeLinked m p.logical.inodes p.logical.directories → IsSound p hands made → WeighAlike p.number hands hands'
    → parent_in m.inode.kind ≡ Some parent
    → IsSound (linked_in m p) hands' (made + 1)
    × (volume_of (linked_in m p) ≡ record (volume_of p) {
      nodes = insert (insert (volume_of p).nodes m.fileid
          (with_link m.moment (node_of p.stripes p.logical.directories p.logical.texts m.fileid m.node))) m.directory
          (Directory (with_name (seen_directory m.inode m.entries parent) m.name m.fileid m.moment));
    })

-- ---- one name less

-- a node stands under a name, and has another
pub record KeepsAName (m : Naming) (old : InodesValue) (directories : DirectoryMap) : Type 0 where
  pub stands : StandsUnder m old directories
  pub more : 1 < m.node.names
  pub one_less : m.names ≡ m.node.names - 1

-- the volume after it
abbrev pub unlinked_in : Naming → VolumeContents → VolumeContents
unlinked_in m p = logical_lens.put (name_dropped m (file_touch p.stripes m.fileid) (logical_lens.of p)) p

-- all stays sound, with no entry more needed, and the volume that is seen has the node with one name less, and not the entry
abbrev pub NodesAreUnlinked : Type 0
NodesAreUnlinked = (p : VolumeContents) (m : Naming) (node : Node) (hands hands' : List Hand) (made now parent : ℕ)
    → made ≤ now → KeepsAName m p.logical.inodes p.logical.directories → IsSound p hands made → WeighAlike p.number hands hands'
    → parent_in m.inode.kind ≡ Some parent
    → without_link m.moment (node_of p.stripes p.logical.directories p.logical.texts m.fileid m.node) ≡ Some node
    → IsSound (unlinked_in m p) hands' now
    × (volume_of (unlinked_in m p) ≡ record (volume_of p) {
      nodes = insert (insert (volume_of p).nodes m.fileid node) m.directory
          (Directory (dropped_name (seen_directory m.inode m.entries parent) m.name m.moment));
    })
