-- What a node without bytes and entries comes to that loses its last name, by what is under Logical (REMOVE and RMDIR, RFC 1813 sections
-- 3.3.12 and 3.3.13).
use Rattle.std.specs.Prelude.{ℕ, ◌-◌, List, map, is_some, if◌then◌else◌}
use Rattle.std.specs.FinMap.{insert, remove}
use Rattle.nfs_model.specs.Types.{Moment}
use Rattle.nfs_model.specs.volume.Directories.{DirectoryValue, removed}
use Rattle.nfs_model.specs.volume.Inodes.{InodeKind, Inode, InodesValue, inode_dropped, inode_set}
use Rattle.nfs_model.specs.volume.Stripes.{card_dropped}
use Rattle.filer_state.specs.state.Names.{DirectoryMap, TextMap, parent_in, text_length_in}
use Rattle.filer_state.specs.state.Kinds.{directory_changed}
use Rattle.filer_state.specs.state.Lenses.{LogicalSet}
use Rattle.filer_state.specs.nodes.Making.{directories_in}

-- a node to be dropped, which stands under a name of a directory
pub record Dropping : Type 0 where
  pub directory : ℕ  -- the fileid of the directory
  pub entries : DirectoryValue  -- its entries before
  pub inode : Inode  -- its inode before
  pub name : List ℕ
  pub fileid : ℕ  -- of the node
  pub dropped : Inode  -- of the node
  pub moment : Moment

-- a directory with fewer subdirectories
abbrev pub without_subdirectories : ℕ → InodeKind → InodeKind
without_subdirectories fewer kind = directory_changed (λ parent. parent) (λ subdirectories. subdirectories - fewer) kind

-- the inode of the directory after it: both times are the moment's
abbrev pub directory_left : Dropping → Inode
directory_left m = record m.inode {
  attributes = record m.inode.attributes { mtime = m.moment; ctime = m.moment };
  kind = without_subdirectories (directories_in m.dropped.kind) m.inode.kind;
}

-- the inodes after it
abbrev pub inodes_left : Dropping → InodesValue → InodesValue
inodes_left m v = inode_set m.directory (directory_left m) (inode_dropped m.fileid v)

-- a directory's entries go with it
abbrev pub directories_left : InodeKind → ℕ → DirectoryMap → DirectoryMap
directories_left kind fileid directories = if is_some (parent_in kind) then remove directories fileid else directories

-- the directories after it
abbrev pub entries_left : Dropping → DirectoryMap → DirectoryMap
entries_left m directories = insert (directories_left m.dropped.kind m.fileid directories) m.directory (removed m.name m.entries)

-- a symbolic link's text goes with it
abbrev pub texts_left : InodeKind → ℕ → TextMap → TextMap
texts_left kind fileid texts = if is_some (text_length_in kind) then remove texts fileid else texts

-- what is under Logical after it: one inode less, with its cards and its text, and one entry less
abbrev pub node_dropped : Dropping → LogicalSet → LogicalSet
node_dropped m set = record {
  own = record set.own {
    inodes = inodes_left m set.own.inodes;
    directories = entries_left m set.own.directories;
    texts = texts_left m.dropped.kind m.fileid set.own.texts;
  };
  stripes = map (card_dropped m.fileid) set.stripes;
}
