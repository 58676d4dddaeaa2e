-- What says who may do what with a node, by its inode (RFC 1813 section 2.6).
use Rattle.std.specs.Prelude.{Option, Some, None}
use Rattle.nfs_model.specs.Types as types
use Rattle.nfs_model.specs.Types.{Kind, Regular, SpecialKind, Ownership}
use Rattle.nfs_model.specs.Serial.Rights.{Protection, protected, ownership_of}
use Rattle.nfs_model.specs.volume.Inodes.{InodeKind, RegularFile, DirectoryKind, SpecialFile, Inode}

-- what an inode is of, as attributes show it
abbrev pub kind_shown : InodeKind → Kind
kind_shown (RegularFile size filled verifier) = Regular
kind_shown (DirectoryKind parent subdirectories) = types.DirectoryKind
kind_shown (SpecialFile special size) = SpecialKind special

abbrev pub protection_of : Inode → Protection
protection_of inode = protected (kind_shown inode.kind) inode.attributes
