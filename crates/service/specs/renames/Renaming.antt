-- The two names of a RENAME, and its checks.
use Rattle.std.specs.Prelude.{◌≡◌, ℕ, ◌*◌, ◌≤◌, ◌||◌, Result, Ok, Err, List, Option, Some, None, IfSome, if◌then◌else◌}
use Rattle.std.specs.FinMap.{get}
use Rattle.nfs_model.specs.Types as model
use Rattle.nfs_model.specs.Types.{Invalid, Wcc, Answer, RenameDone}
use Rattle.nfs_model.specs.Names.{is_dots, name_fault}
use Rattle.nfs_model.specs.Parts.{most_ranges}
use Rattle.nfs_model.specs.volume.Ranges.{most_range_blocks}
use Rattle.nfs_values.specs.Moment.{moment_of}
use Rattle.nfs_values.specs.Status.{status_of}
use Rattle.nfs_values.specs.declared.status.Status.{Status}
use Rattle.nfs_model.specs.volume.Inodes as values
use Rattle.inodes.specs.Inode.{inode_value}
use Rattle.inodes.specs.declared.inode.Inode.{Inode}
use Rattle.filer_state.specs.state.Lenses.{LogicalSet}
use Rattle.filer_state.specs.state.Names.{InodeMap}
use Rattle.filer_state.specs.state.Changes.{LogicalAnswer}
use Rattle.service_names.specs.ChangeLaws.{rename_done}
use Rattle.service_names.specs.NamedChanges.{HeldNode, node_under}
use Rattle.service_names.specs.RenamingChanges.{HeldRenaming, fails_both, rename_by}
use Rattle.service_names.specs.Naming.{naming_of}
use Rattle.service_names.specs.Shown.{HasFewLinks}
use Rattle.service.specs.declared.renames.between.Between.{Between}

-- two names in the directories of a call
abbrev pub renaming_in : Between → List ℕ → List ℕ → LogicalSet → HeldRenaming
renaming_in b from_name to_name s = record {
  from = naming_of b.volume.0 b.from from_name (moment_of b.moment) s;
  to = naming_of b.volume.0 b.to to_name (moment_of b.moment) s;
}

-- what follows for the inode of a directory, or a failure
abbrev pub come_to_directory : LogicalSet → (values.Inode → LogicalAnswer) → Result Inode Status → LogicalAnswer
come_to_directory s run (Ok inode) = run (inode_value inode)
come_to_directory s run (Err status) = fails_both (status_of status) s

-- the first of two faults
abbrev pub first_fault : Option model.Status → Option model.Status → Option model.Status
first_fault None next = next
first_fault (Some fault) next = Some fault

-- what is wrong with the names: from's first; INVAL for `.` and `..` in either
abbrev pub names_fault : List ℕ → List ℕ → Option model.Status
names_fault from to =
    first_fault (name_fault from) (first_fault (name_fault to) (if is_dots from || is_dots to then Some Invalid else None))

-- what an inode is of within the bounds of a volume: it hasn't too many links, nor more blocks than any volume has
pub record IsWithin (kind : values.InodeKind) : Type 0 where
  pub links : HasFewLinks kind
  pub filled : values.filled_blocks kind ≤ most_ranges * most_range_blocks

abbrev pub AllWithin : InodeMap → Type 0
AllWithin inodes = (q : ℕ) → IfSome (get inodes q) (λ (i : values.Inode). IsWithin i.kind)

-- an answer tells that a node came under another name, or that both names are of one entry
abbrev pub Renamed : Answer → Type 0
Renamed answer = (from to : Wcc) × (answer ≡ RenameDone from to)

-- what RENAME comes to between the directories of a call
abbrev pub done_between : Between → List ℕ → List ℕ → LogicalSet → LogicalAnswer
done_between b from_name to_name s = rename_done b.volume.0 b.from.fileid.0 from_name b.to.fileid.0 to_name (moment_of b.moment) s

-- what it comes to where from's node is found
abbrev pub rename_found : HeldRenaming → HeldNode → LogicalAnswer
rename_found r child = rename_by r (Some child) (node_under r.to)
