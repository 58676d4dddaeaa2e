-- Inodes as the values have them.
use Rattle.std.specs.Prelude.{◌≡◌, ℕ, ◌<◌, ◌≤◌, ◌^◌, Option, Some}
use Rattle.std.specs.Option.{option_map}
use Rattle.std.specs.Ordering.{nat_cmp}
use Rattle.std.specs.FinMap.{FinMap, get, len}
use Rattle.nfs_model.specs.Server.{Attributes}
use Rattle.nfs_values.specs.Moment.{moment_of}
use Rattle.nfs_values.specs.Special.{special_of}
use Rattle.nfs_values.specs.declared.number.Fileid.{Fileid}
use Rattle.nfs_values.specs.declared.verifier.Verifier.{Verifier}
use Rattle.nfs_model.specs.volume.Inodes as values
use Rattle.nfs_model.specs.volume.Inodes.{InodesValue, filled_blocks, inodes_of_a_volume}
use Rattle.inodes.specs.declared.inode.StoredAttributes.{StoredAttributes}
use Rattle.inodes.specs.declared.inode.InodeKind.{InodeKind}
use Rattle.inodes.specs.declared.inode.InodeKind.TheVariants.{RegularFile, Directory, Special}
use Rattle.inodes.specs.declared.inode.Inode.{Inode}

abbrev pub attributes_value : StoredAttributes → Attributes
attributes_value a = record {
  mode = a.mode;
  uid = a.uid;
  gid = a.gid;
  atime = moment_of a.atime;
  mtime = moment_of a.mtime;
  ctime = moment_of a.ctime;
}

abbrev pub kind_value : InodeKind → values.InodeKind
kind_value (RegularFile size filled verifier) = values.RegularFile size filled (option_map (λ (v : Verifier). v.0) verifier)
kind_value (Directory parent subdirectories) = values.DirectoryKind parent.0 subdirectories
kind_value (Special special size) = values.SpecialFile (special_of special) size

abbrev pub inode_value : Inode → values.Inode
inode_value i = record { attributes = attributes_value i.attributes; names = i.names; kind = kind_value i.kind }

-- an inode as it is stored, if there is one
abbrev pub stored : Option Inode → Option values.Inode
stored inode = option_map inode_value inode

abbrev pub inodes_value : Fileid → ℕ → FinMap nat_cmp values.Inode → InodesValue
inodes_value next used inodes = record { next = next.0; used = used; inodes = inodes }

-- There are at most 67,108,864 inodes, and the filled blocks of each are a u32, so that the used count is below 2^63.
pub record AreFew (v : InodesValue) : Type 0 where
  pub few : len v.inodes ≤ inodes_of_a_volume
  pub counts : (fileid : ℕ) (inode : values.Inode) → get v.inodes fileid ≡ Some inode → filled_blocks inode.kind < 2 ^ 32
