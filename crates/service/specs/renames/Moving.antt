-- The steps of a RENAME in the order in which they are done: the entry of the new name comes first, which alone takes memory. Each is
-- the step of its definition but for the directories, which it changes in its own way; all together change them as the definition does.
use Rattle.std.specs.Prelude.{◌≡◌, ℕ, ◌*◌, ◌<◌, ◌≤◌, ◌^◌, ◌&&◌, ◌==◌, nat_le, Bool, false, true, List, [], Option, Some, None, IfSome}
use Rattle.std.specs.FinMap.{get}
use Rattle.nfs_model.specs.Names.{same_name}
use Rattle.nfs_model.specs.Parts.{most_ranges}
use Rattle.nfs_model.specs.volume.Ranges.{most_range_blocks}
use Rattle.nfs_values.specs.Moment.{moment_of}
use Rattle.nfs_model.specs.volume.Directories.{DirectoryValue, added, removed}
use Rattle.nfs_model.specs.volume.Maps.{changed_at}
use Rattle.nfs_model.specs.volume.Inodes.{InodeKind, RegularFile}
use Rattle.inodes.specs.Inode.{kind_value, inode_value}
use Rattle.filer_state.specs.state.Lenses.{LogicalSet}
use Rattle.filer_state.specs.state.Names.{DirectoryMap, is_directory}
use Rattle.filer_state.specs.state.Tree.{file_touch}
use Rattle.service_names.specs.NameAnswers.{entries_of}
use Rattle.service_names.specs.NodesDropped.{directories_left, node_dropped}
use Rattle.service_names.specs.NodesMoved.{name_dropped}
use Rattle.service_names.specs.NodesSized.{file_sized}
use Rattle.service_names.specs.NamedChanges.{HeldNaming, HeldNode}
use Rattle.service_names.specs.DroppingChanges.{dropping_of, emptying_of, child_emptied, losing_of}
use Rattle.service_names.specs.RenamingChanges.{child_taken, child_hung}
use Rattle.service_names.specs.Changing.{with_directories, MayBeSet}
use Rattle.service_names.specs.Naming.{naming_of}
use Rattle.service.specs.declared.renames.between.Between.{Between}
use Rattle.service.specs.renames.Renaming.{IsWithin, AllWithin}

-- with other directories
abbrev pub with_map : DirectoryMap → LogicalSet → LogicalSet
with_map directories s = record s { own = with_directories directories s.own }

-- a name, whichever, in the directory that the node comes into
abbrev pub to_of : Between → LogicalSet → HeldNaming
to_of b s = naming_of b.volume.0 b.to [] (moment_of b.moment) s

-- an entry under a name, in the place of the old one
abbrev pub replaced : List ℕ → ℕ → DirectoryValue → DirectoryValue
replaced name fileid d = added name fileid (removed name d)

-- the entry of the new name
abbrev pub entry_put : ℕ → List ℕ → ℕ → LogicalSet → LogicalSet
entry_put directory name fileid s = with_map (changed_at (replaced name fileid) directory s.own.directories) s

-- a node without bytes and entries is dropped; its entry is gone before
abbrev pub node_gone : HeldNaming → HeldNode → LogicalSet → LogicalSet
node_gone n child s = with_map (directories_left child.inode.kind child.fileid s.own.directories) (node_dropped (dropping_of n child) s)

-- so is a file, whose blocks are dead
abbrev pub emptied_gone : HeldNaming → HeldNode → LogicalSet → LogicalSet
emptied_gone n child s =
    with_map (directories_left child.inode.kind child.fileid s.own.directories)
    (node_dropped (dropping_of n (child_emptied child s)) (file_sized (emptying_of child) s))

-- and a node that has other names loses this one
abbrev pub name_out : HeldNaming → HeldNode → LogicalSet → LogicalSet
name_out n child s = with_map s.own.directories (name_dropped (losing_of n child) (file_touch s.stripes child.fileid) s)

-- the last name goes: only a file has blocks
abbrev pub last_out : HeldNaming → HeldNode → InodeKind → LogicalSet → LogicalSet
last_out n child (RegularFile size filled verifier) s = emptied_gone n child s
last_out n child kind s = node_gone n child s

-- a name goes, which is the last or isn't
abbrev pub out_as : Bool → HeldNaming → HeldNode → LogicalSet → LogicalSet
out_as true n child s = last_out n child child.inode.kind s
out_as false n child s = name_out n child s

-- the target loses its name, if there is one
abbrev pub target_out : Between → Option HeldNode → LogicalSet → LogicalSet
target_out b None s = s
target_out b (Some target) s = out_as (nat_le target.inode.names 1) (to_of b s) target s

-- a directory's entries go with its last name
abbrev pub left_as : Bool → InodeKind → ℕ → DirectoryMap → DirectoryMap
left_as true kind fileid directories = directories_left kind fileid directories
left_as false kind fileid directories = directories

-- so do a target's
abbrev pub target_left : Option HeldNode → DirectoryMap → DirectoryMap
target_left None directories = directories
target_left (Some target) directories = left_as (nat_le target.inode.names 1) target.inode.kind target.fileid directories

-- the entry of the old name
abbrev pub entry_out : Between → List ℕ → HeldNode → LogicalSet → LogicalSet
entry_out b name child s =
    with_map (changed_at (removed name) b.from.fileid.0 s.own.directories) (child_taken (naming_of b.volume.0 b.from name (moment_of b.moment) s) child s)

-- the node, and the directory that it comes into
abbrev pub node_in : Between → HeldNode → LogicalSet → LogicalSet
node_in b child s = with_map s.own.directories (child_hung (to_of b s) child s)

-- What moving a node takes: there are no more stripes than places, numbers have room, and inodes are within bounds; the target may be set;
-- the directories are there, and stay where the target goes; a name without a target has no entry; and the names aren't of one entry.
pub record MayMove (b : Between) (from_name to_name : List ℕ) (target : Option HeldNode) (s : LogicalSet) : Type 0 where
  pub few : s.own.stripes ≤ 16
  pub used : s.own.inodes.used ≤ most_ranges * most_range_blocks
  pub sized : IfSome target (λ (t : HeldNode). MayBeSet t.fileid s)
  pub cookies : IfSome (get s.own.directories b.to.fileid.0) (λ (d : DirectoryValue). d.next < 2 ^ 63)
  pub within : AllWithin s.own.inodes.inodes
  pub from_within : IsWithin (kind_value b.from.inode.kind)
  pub to_within : IsWithin (kind_value b.to.inode.kind)
  pub target_within : IfSome target (λ (t : HeldNode). IsWithin t.inode.kind)
  pub from_entered : get s.own.directories b.from.fileid.0 ≡ Some (entries_of s.own b.from.fileid.0)
  pub to_entered : get s.own.directories b.to.fileid.0 ≡ Some (entries_of s.own b.to.fileid.0)
  pub from_stays : get (target_left target s.own.directories) b.from.fileid.0 ≡ Some (entries_of s.own b.from.fileid.0)
  pub to_stays : get (target_left target s.own.directories) b.to.fileid.0 ≡ Some (entries_of s.own b.to.fileid.0)
  pub absent : target ≡ None → removed to_name (entries_of s.own b.to.fileid.0) ≡ entries_of s.own b.to.fileid.0
  pub apart : ((b.from.fileid.0 == b.to.fileid.0) && same_name from_name to_name) ≡ false

-- what is known of the directories of a call
pub record AreThere (b : Between) (s : LogicalSet) : Type 0 where
  pub from : get s.own.inodes.inodes b.from.fileid.0 ≡ Some (inode_value b.from.inode)
  pub to : get s.own.inodes.inodes b.to.fileid.0 ≡ Some (inode_value b.to.inode)
  pub from_is_directory : is_directory (Some (inode_value b.from.inode)) ≡ true
  pub to_is_directory : is_directory (Some (inode_value b.to.inode)) ≡ true
