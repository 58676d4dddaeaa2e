-- What has to hold of the inodes and names of a volume (RFC 1813 sections 2.5 and 3.2; limits are our profile).
use Rattle.std.specs.Prelude.{◌≡◌, ℕ, zero, suc, ◌≤◌, Bool, true, not, ◌==◌, List, length, Option, Some, None, is_some, IfSome, if◌then◌else◌}
use Rattle.std.specs.Option.{option_map}
use Rattle.std.specs.List.{AllByRecursion}
use Rattle.std.specs.Ordering.{nat_cmp}
use Rattle.std.specs.FinMap.{FinMap, get, entries, len}
use Rattle.nfs_model.specs.Types.{Listed}
use Rattle.nfs_model.specs.Parts.{one_if, count}
use Rattle.depot_rule.specs.Sums.{total}
use Rattle.nfs_model.specs.volume.Directories.{DirectoryValue, IsDirectory}
use Rattle.nfs_model.specs.volume.Inodes.{InodeKind, RegularFile, DirectoryKind, SpecialFile, Inode, IsInodes}
use Rattle.nfs_model.specs.volume.Logical.{LogicalValue}

-- the fileid of the root
abbrev pub root : ℕ
root = 1

-- inodes, directories and texts of symbolic links, each by fileid
abbrev pub InodeMap : Type 0
InodeMap = FinMap nat_cmp Inode

abbrev pub DirectoryMap : Type 0
DirectoryMap = FinMap nat_cmp DirectoryValue

abbrev pub TextMap : Type 0
TextMap = FinMap nat_cmp (List ℕ)

-- ---- what an inode tells

-- the size of a file; nothing else has one
abbrev pub size_in : InodeKind → Option ℕ
size_in (RegularFile size filled verifier) = Some size
size_in kind = None

-- the parent of a directory; nothing else has one
abbrev pub parent_in : InodeKind → Option ℕ
parent_in (DirectoryKind parent subdirectories) = Some parent
parent_in kind = None

-- how many subdirectories a directory has
abbrev pub subdirectories_in : InodeKind → Option ℕ
subdirectories_in (DirectoryKind parent subdirectories) = Some subdirectories
subdirectories_in kind = None

-- the length of a symbolic link's text, which isn't empty; nothing else has one
abbrev pub text_length_in : InodeKind → Option ℕ
text_length_in (SpecialFile special size) = if size == 0 then None else Some size
text_length_in kind = None

-- the size of a file that is there
abbrev pub size_of : Option Inode → Option ℕ
size_of None = None
size_of (Some inode) = size_in inode.kind

-- the parent of a directory that is there
abbrev pub parent_directory : Option Inode → Option ℕ
parent_directory None = None
parent_directory (Some inode) = parent_in inode.kind

-- how many subdirectories the inode of a directory says that it has
abbrev pub subdirectories_of : Option Inode → Option ℕ
subdirectories_of None = None
subdirectories_of (Some inode) = subdirectories_in inode.kind

-- the length of the text of a symbolic link that is there
abbrev pub text_length_of : Option Inode → Option ℕ
text_length_of None = None
text_length_of (Some inode) = text_length_in inode.kind

-- how many names an inode has, if it is there
abbrev pub names_of : Option Inode → ℕ
names_of None = 0
names_of (Some inode) = inode.names

-- whether a directory is there
abbrev pub is_directory : Option Inode → Bool
is_directory inode = is_some (parent_directory inode)

-- ---- names

-- how often a fileid is named in a directory
abbrev pub times_in_list : ℕ → List Listed → ℕ
times_in_list fileid list = count (λ (e : Listed). e.fileid == fileid) list

-- how often it is named in all directories
abbrev pub times_named : ℕ → DirectoryMap → ℕ
times_named fileid directories = total (λ (d : ℕ × DirectoryValue). times_in_list fileid d.1.list) (entries directories)

-- how many of a directory's entries are directories
abbrev pub directories_listed : InodeMap → List Listed → ℕ
directories_listed inodes list = count (λ (e : Listed). is_directory (get inodes e.fileid)) list

-- Of a directory: cookies rise from 3 on and are below the next one, and names differ; a directory that is named in it has
-- it as its parent; its inode counts its subdirectories, which are links to it.
pub record DirectoryFits (inodes : InodeMap) (fileid : ℕ) (d : DirectoryValue) : Type 0 where
  pub list : IsDirectory d
  pub children : AllByRecursion (λ (e : Listed). IfSome (parent_directory (get inodes e.fileid)) (λ parent. parent ≡ fileid)) d.list
  pub links : subdirectories_of (get inodes fileid) ≡ Some (directories_listed inodes d.list)

-- ---- the way to the root

-- the parent of a directory; where there is no directory, the same fileid
abbrev pub parent_or : Option ℕ → ℕ → ℕ
parent_or None fileid = fileid
parent_or (Some parent) fileid = parent

-- the directory this many steps above one
abbrev pub directory_above : InodeMap → ℕ → ℕ → ℕ
directory_above inodes zero fileid = fileid
directory_above inodes (suc n) fileid = directory_above inodes n (parent_or (parent_directory (get inodes fileid)) fileid)

-- following parents reaches the root
abbrev pub ReachesRoot : InodeMap → ℕ → Type 0
ReachesRoot inodes fileid = (steps : ℕ) × (directory_above inodes steps fileid ≡ root)

-- ---- all of it

pub record AreNamed (inodes : InodeMap) (directories : DirectoryMap) : Type 0 where
  -- the root is a directory, and its own parent
  pub root_there : parent_directory (get inodes root) ≡ Some root
  -- just the directories have entries
  pub as_directories : (fileid : ℕ) → is_some (get directories fileid) ≡ is_directory (get inodes fileid)
  pub fits : (fileid : ℕ) (d : DirectoryValue) → get directories fileid ≡ Some d → DirectoryFits inodes fileid d
  -- every inode stands in as many entries as it has names, and every entry names an inode
  pub counted : (fileid : ℕ) → times_named fileid directories ≡ names_of (get inodes fileid)
  -- a directory has one name, but the root, which has none
  pub once : (fileid : ℕ) → is_directory (get inodes fileid) ≡ true → names_of (get inodes fileid) ≡ one_if (not (fileid == root))
  -- following parents from any directory reaches the root
  pub rooted : (fileid : ℕ) → is_directory (get inodes fileid) ≡ true → ReachesRoot inodes fileid

-- Of what Volume Logical has: at most the volume's most inodes, the root with them, with fileids below the next one, and files
-- of at most the largest size; and names, and the texts of just the symbolic links.
pub record IsLogical (l : LogicalValue) : Type 0 where
  pub inodes : IsInodes l.inodes
  pub few : len l.inodes.inodes ≤ l.most_inodes
  pub sizes : (fileid : ℕ) → IfSome (size_of (get l.inodes.inodes fileid)) (λ size. size ≤ l.largest)
  pub named : AreNamed l.inodes.inodes l.directories
  pub texts : (fileid : ℕ) → option_map length (get l.texts fileid) ≡ text_length_of (get l.inodes.inodes fileid)
