-- What a node made under a name comes to, by what is under Logical (CREATE, MKDIR, SYMLINK and MKNOD, RFC 1813 sections 3.3.8 to 3.3.11).
use Rattle.std.specs.Prelude.{ℕ, ◌+◌, List, map, Option, Some, None, is_some, if◌then◌else◌}
use Rattle.std.specs.FinMap.{insert}
use Rattle.nfs_model.specs.Types.{Moment, Ownership}
use Rattle.nfs_model.specs.Serial.Rights.{ownership_of}
use Rattle.nfs_model.specs.Parts.{one_if}
use Rattle.nfs_model.specs.volume.Directories.{DirectoryValue, empty_directory, added}
use Rattle.nfs_model.specs.volume.Inodes.{InodeKind, Inode, InodesValue, inode_created, inode_set}
use Rattle.nfs_model.specs.volume.Stripes.{StripeValue, file_card_set, directory_card_set}
use Rattle.filer_state.specs.state.Names.{DirectoryMap, TextMap, size_in, parent_in}
use Rattle.filer_state.specs.state.Kinds.{directory_changed}
use Rattle.filer_state.specs.state.Lenses.{LogicalSet}

-- a node to be made, under a name of a directory
pub record Making : Type 0 where
  pub directory : ℕ  -- the fileid of the directory
  pub entries : DirectoryValue  -- its entries before
  pub inode : Inode  -- its inode before
  pub name : List ℕ
  pub made : Inode  -- of the new node
  pub text : Option (List ℕ)  -- of the new node, if it is a symbolic link
  pub moment : Moment

-- how many directories a node is
abbrev pub directories_in : InodeKind → ℕ
directories_in kind = one_if (is_some (parent_in kind))

-- a directory with more subdirectories
abbrev pub with_subdirectories : ℕ → InodeKind → InodeKind
with_subdirectories more kind = directory_changed (λ parent. parent) (λ subdirectories. subdirectories + more) kind

-- the inode of the directory after it: both times are the moment's
abbrev pub directory_inode : Making → Inode
directory_inode m = record m.inode {
  attributes = record m.inode.attributes { mtime = m.moment; ctime = m.moment };
  kind = with_subdirectories (directories_in m.made.kind) m.inode.kind;
}

-- the inodes after it
abbrev pub inodes_made : Making → InodesValue → InodesValue
inodes_made m v = inode_set m.directory (directory_inode m) (inode_created m.made v)

-- a new directory has no entries
abbrev pub directories_made : InodeKind → ℕ → DirectoryMap → DirectoryMap
directories_made kind fileid directories = if is_some (parent_in kind) then insert directories fileid empty_directory else directories

-- the directories after it, where the new node has this fileid
abbrev pub entries_made : Making → ℕ → DirectoryMap → DirectoryMap
entries_made m fileid directories =
    insert (directories_made m.made.kind fileid directories) m.directory (added m.name fileid m.entries)

-- the texts after it
abbrev pub texts_made : Option (List ℕ) → ℕ → TextMap → TextMap
texts_made None fileid texts = texts
texts_made (Some text) fileid texts = insert texts fileid text

-- a card set, of a file of this size; else it shows none
abbrev pub card_of_size : Ownership → Option ℕ → ℕ → StripeValue → StripeValue
card_of_size owner None fileid s = directory_card_set fileid s
card_of_size owner (Some size) fileid s = file_card_set fileid size owner s

-- the card of a new node, in each stripe
abbrev pub card_made : Ownership → InodeKind → ℕ → StripeValue → StripeValue
card_made owner kind fileid s = card_of_size owner (size_in kind) fileid s

-- what is under Logical after it: one more inode, under the next fileid, with its cards and its text, and one more entry
abbrev pub node_made : Making → LogicalSet → LogicalSet
node_made m set = record {
  own = record set.own {
    inodes = inodes_made m set.own.inodes;
    directories = entries_made m set.own.inodes.next set.own.directories;
    texts = texts_made m.text set.own.inodes.next set.own.texts;
  };
  stripes = map (card_made (ownership_of m.made.attributes) m.made.kind set.own.inodes.next) set.stripes;
}
