-- Names of a directory that calls change, and the nodes under them.
use Rattle.std.specs.Prelude.{ℕ, Result, Ok, Err, List}
use Rattle.nfs_model.specs.Types.{Moment}
use Rattle.nfs_values.specs.Status.{status_of}
use Rattle.nfs_values.specs.declared.status.Status.{Status}
use Rattle.nfs_model.specs.volume.Inodes as values
use Rattle.inodes.specs.Inode.{inode_value}
use Rattle.inodes.specs.declared.inode.Inode.{Inode}
use Rattle.filer_state.specs.state.Lenses.{LogicalSet}
use Rattle.filer_state.specs.state.Changes.{LogicalAnswer}
use Rattle.filer_state.specs.changes.NameAnswers.{entries_of}
use Rattle.filer_state.specs.changes.Named.{fails, HeldNaming, HeldNode}
use Rattle.service_names.specs.declared.node.Node.{Node}

-- a node as the parcels have it
abbrev pub node_value : Node → HeldNode
node_value n = record { fileid = n.fileid.0; inode = inode_value n.inode }

-- a name in the directory of a fileid with this inode
abbrev pub naming_in : ℕ → ℕ → values.Inode → List ℕ → Moment → LogicalSet → HeldNaming
naming_in v fileid inode name moment s = record {
  volume = v;
  set = s;
  fileid = fileid;
  inode = inode;
  entries = entries_of s.own fileid;
  name = name;
  moment = moment;
}

-- a name in the directory that a node is
abbrev pub naming_of : ℕ → Node → List ℕ → Moment → LogicalSet → HeldNaming
naming_of v node name moment s = naming_in v node.fileid.0 (inode_value node.inode) name moment s

-- what follows for the inode of a directory, or a failure
abbrev pub come_to : LogicalSet → (values.Inode → LogicalAnswer) → Result Inode Status → LogicalAnswer
come_to s run (Ok inode) = run (inode_value inode)
come_to s run (Err status) = fails (status_of status) s
