-- What a node comes to that gets or loses a name and stays, by what is under Logical. RENAME (RFC 1813 section 3.3.14) has two steps:
-- an entry is taken from one directory, and the node is hung up under a name of one, which may be the same. LINK (section 3.3.15) has
-- the second alone; REMOVE (section 3.3.12) of a node with more names has the first, and counts them.
use Rattle.std.specs.Prelude.{ℕ, Option}
use Rattle.std.specs.FinMap.{insert}
use Rattle.nfs_model.specs.Types.{Moment}
use Rattle.nfs_model.specs.volume.Directories.{DirectoryValue, added, removed}
use Rattle.nfs_model.specs.volume.Inodes.{InodeKind, Inode, InodesValue, inode_set}
use Rattle.filer_state.specs.state.Names.{DirectoryMap}
use Rattle.filer_state.specs.state.Kinds.{directory_changed}
use Rattle.filer_state.specs.state.Lenses.{LogicalSet}
use Rattle.filer_state.specs.state.Changes.{attributes_now, touches_taken}
use Rattle.filer_state.specs.nodes.Making.{directories_in, with_subdirectories}
use Rattle.filer_state.specs.nodes.Dropping.{without_subdirectories}
use Rattle.std.specs.Prelude.{List}

-- a name of a directory, and the node that is under it, or comes under it
pub record Naming : Type 0 where
  pub directory : ℕ  -- the fileid of the directory
  pub entries : DirectoryValue  -- its entries before
  pub inode : Inode  -- its inode before
  pub name : List ℕ
  pub fileid : ℕ  -- of the node
  pub node : Inode  -- of the node, before
  pub names : ℕ  -- how many the node has, after
  pub moment : Moment

-- an inode whose times of modification and change are a moment
abbrev pub dated_inode : Moment → InodeKind → Inode → Inode
dated_inode moment kind inode = record inode { attributes = record inode.attributes { mtime = moment; ctime = moment }; kind = kind }

-- ---- an entry taken

abbrev pub inodes_untied : Naming → InodesValue → InodesValue
inodes_untied m v =
    inode_set m.directory (dated_inode m.moment (without_subdirectories (directories_in m.node.kind) m.inode.kind) m.inode) v

abbrev pub entries_untied : Naming → DirectoryMap → DirectoryMap
entries_untied m directories = insert directories m.directory (removed m.name m.entries)

-- what is under Logical after it
abbrev pub entry_taken : Naming → LogicalSet → LogicalSet
entry_taken m set = record set {
  own = record set.own { inodes = inodes_untied m set.own.inodes; directories = entries_untied m set.own.directories };
}

-- ---- a node hung up

-- a directory has another parent
abbrev pub with_parent : ℕ → InodeKind → InodeKind
with_parent parent kind = directory_changed (λ old. parent) (λ subdirectories. subdirectories) kind

-- the node after it, where this was its file's latest touch: it settles, and its ctime is the moment
abbrev pub node_hung : Naming → Option Moment → Inode
node_hung m touch = record {
  attributes = record (attributes_now touch m.node.attributes m.node.kind) { ctime = m.moment };
  names = m.names;
  kind = with_parent m.directory m.node.kind;
}

abbrev pub inodes_hung : Naming → Option Moment → InodesValue → InodesValue
inodes_hung m touch v = inode_set m.fileid (node_hung m touch)
    (inode_set m.directory (dated_inode m.moment (with_subdirectories (directories_in m.node.kind) m.inode.kind) m.inode) v)

abbrev pub entries_hung : Naming → DirectoryMap → DirectoryMap
entries_hung m directories = insert directories m.directory (added m.name m.fileid m.entries)

-- what is under Logical after it
abbrev pub node_hung_up : Naming → Option Moment → LogicalSet → LogicalSet
node_hung_up m touch set = record {
  own = record set.own { inodes = inodes_hung m touch set.own.inodes; directories = entries_hung m set.own.directories };
  stripes = touches_taken m.fileid set.stripes;
}

-- ---- a node counted

-- the node after one of its names is gone, where this was its file's latest touch: it settles, and its ctime is the moment
abbrev pub node_counted : Naming → Option Moment → Inode
node_counted m touch = record {
  attributes = record (attributes_now touch m.node.attributes m.node.kind) { ctime = m.moment };
  names = m.names;
  kind = m.node.kind;
}

abbrev pub inodes_counted : Naming → Option Moment → InodesValue → InodesValue
inodes_counted m touch v = inode_set m.fileid (node_counted m touch) (inodes_untied m v)

-- what is under Logical after its entry is taken, and it stays with its other names
abbrev pub name_dropped : Naming → Option Moment → LogicalSet → LogicalSet
name_dropped m touch set = record {
  own = record set.own { inodes = inodes_counted m touch set.own.inodes; directories = entries_untied m set.own.directories };
  stripes = touches_taken m.fileid set.stripes;
}
