-- What calls that make nodes take, and leave.
use Rattle.std.specs.Prelude.{◌≡◌, ℕ, ◌<◌, ◌≤◌, ◌^◌, ◌==◌, false, List, Option, Some, None, IsSome, IfSome}
use Rattle.std.specs.FinMap.{get, len, remove}
use Rattle.nfs_model.specs.Types as types
use Rattle.nfs_model.specs.Types.{Moment, Shown, Wcc, Answer, MadeDone, SpecialType, BadType}
use Rattle.nfs_model.specs.Serial.Create.{Maker}
use Rattle.nfs_values.specs.Caller.{caller_of}
use Rattle.nfs_values.specs.Moment.{moment_of}
use Rattle.nfs_values.specs.declared.caller.Caller.{Caller}
use Rattle.inodes.specs.Inode.{attributes_value, inode_value}
use Rattle.nfs_model.specs.volume.Directories.{found}
use Rattle.nfs_model.specs.volume.Inodes.{InodeKind, Inode, IsInodes, inode_unmade, inodes_of_a_volume}
use Rattle.nfs_model.specs.volume.Logical.{LogicalValue}
use Rattle.filer_state.specs.state.Lenses.{LogicalSet}
use Rattle.filer_state.specs.state.Names.{root, subdirectories_in}
use Rattle.filer_state.specs.state.Tree.{stripe_at}
use Rattle.filer_state.specs.changes.NodesMade.{directories_in, with_subdirectories}
use Rattle.filer_state.specs.state.Changes.{LogicalAnswer}
use Rattle.filer_state.specs.changes.Named.{HeldNaming, fails, unless_fault}
use Rattle.filer_state.specs.changes.Making.{held_made, maker_in, mkdir_check, special_inode}
use Rattle.service_names.specs.Naming.{naming_in}
use Rattle.service_names.specs.declared.parent.Parent.{Parent}

-- a name in the directory of a call
abbrev pub naming_in_parent : Parent → List ℕ → LogicalSet → HeldNaming
naming_in_parent w name s = naming_in w.volume.0 w.fileid.0 (inode_value w.inode) name (moment_of w.moment) s

-- who makes a node in the directory of a call
abbrev pub maker_in_parent : Caller → Parent → Maker
maker_in_parent caller w = record { caller = caller_of caller; directory = attributes_value w.inode.attributes }

-- without the directory and the text of a fileid
abbrev pub without_parts : ℕ → LogicalValue → LogicalValue
without_parts fileid l = record l { directories = remove l.directories fileid; texts = remove l.texts fileid }

-- without the node of a fileid, which was made last
abbrev pub node_unmade : ℕ → LogicalValue → LogicalValue
node_unmade fileid l = record l { inodes = inode_unmade l.inodes; directories = remove l.directories fileid; texts = remove l.texts fileid }

-- a directory in which a node of a kind is made at a moment: both times are the moment's
abbrev pub inode_dated : Inode → InodeKind → Moment → Inode
inode_dated inode made moment = record inode {
  attributes = record inode.attributes { mtime = moment; ctime = moment };
  kind = with_subdirectories (directories_in made) inode.kind;
}

-- What making a node under a name takes: there are no more stripes than places, each with the root's card; inodes, fileids and cookies
-- have room for one more, inodes by the volume's own limit, which no volume's exceeds; the directory is there, and doesn't have the name;
-- the next fileid is that of no inode, no directory, no text and no card.
pub record MayMake (n : HeldNaming) : Type 0 where
  pub few : n.set.own.stripes ≤ 16
  pub root_there : (i : ℕ) → i < n.set.own.stripes → IsSome (get (stripe_at n.set.stripes i).cards root)
  pub fileids : n.set.own.inodes.next < 2 ^ 63
  pub room : len n.set.own.inodes.inodes < n.set.own.most_inodes
  pub most : n.set.own.most_inodes ≤ inodes_of_a_volume
  pub links : IfSome (subdirectories_in n.inode.kind) (λ subdirectories. subdirectories < inodes_of_a_volume)
  pub entered : get n.set.own.directories n.fileid ≡ Some n.entries
  pub cookies : n.entries.next < 2 ^ 63
  pub absent : found n.entries n.name ≡ None
  pub apart : (n.fileid == n.set.own.inodes.next) ≡ false
  pub inodes : IsInodes n.set.own.inodes
  pub no_directory : get n.set.own.directories n.set.own.inodes.next ≡ None
  pub no_text : get n.set.own.texts n.set.own.inodes.next ≡ None
  pub no_card : (i : ℕ) → i < n.set.own.stripes → get (stripe_at n.set.stripes i).cards n.set.own.inodes.next ≡ None

-- an answer tells that a node was made
abbrev pub Makes : Answer → Type 0
Makes answer = (made : List ℕ) × (object : Shown) × (directory : Wcc) × (answer ≡ MadeDone made object directory)

-- a special node of a type that MKNOD makes, or BADTYPE
abbrev pub node_by : HeldNaming → types.SetAttributes → types.Caller → Option SpecialType → LogicalAnswer
node_by n set caller None = fails BadType n.set
node_by n set caller (Some special) =
    unless_fault (mkdir_check set n.set) n.set (held_made n (special_inode special 420 set 0 (maker_in caller n) n.moment) None)
