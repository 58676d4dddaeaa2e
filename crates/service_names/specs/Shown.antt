-- What replies show of a node.
use Rattle.std.specs.Prelude.{◌≡◌, ◌≤◌, Option, Some, None, IfSome, Result, Ok, Err}
use Rattle.nfs_model.specs.Types as model
use Rattle.nfs_model.specs.volume.Inodes.{InodeKind, inodes_of_a_volume}
use Rattle.filer_state.specs.state.Names.{subdirectories_in}
use Rattle.nfs_values.specs.Attributes.{shown_of}
use Rattle.nfs_values.specs.declared.attributes.Attributes.{Attributes}
use Rattle.nfs_values.specs.declared.status.Status.{Status}
use Rattle.nfs_values.specs.declared.status.Status.TheVariants.{Stale}

-- no more subdirectories than any volume has inodes at most
abbrev pub HasFewLinks : InodeKind → Type 0
HasFewLinks kind = IfSome (subdirectories_in kind) (λ subdirectories. subdirectories ≤ inodes_of_a_volume)

-- the attributes of a node, or STALE where there is none
abbrev pub IsObject : Option model.Shown → Result Attributes Status → Type 0
IsObject object (Ok told) = object ≡ Some (shown_of told)
IsObject object (Err status) = (object ≡ None) × (status ≡ Stale)
