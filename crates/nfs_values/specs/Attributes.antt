use Rattle.std.specs.Prelude.{ℕ}
use Rattle.nfs_model.specs.Types as model
use Rattle.nfs_values.specs.declared.attributes.FileKind.{FileKind}
use Rattle.nfs_values.specs.declared.attributes.FileKind.TheVariants.{Regular, Directory, Special}
use Rattle.nfs_values.specs.declared.attributes.Attributes.{Attributes}
use Rattle.nfs_values.specs.declared.attributes.PriorAttributes.{PriorAttributes}
use Rattle.nfs_values.specs.declared.attributes.Change.{Change}
use Rattle.nfs_values.specs.Moment.{moment_of}
use Rattle.nfs_values.specs.Special.{special_of, special_word, special_device, no_device}

-- a kind, as the model has it
abbrev pub kind_of : FileKind → model.Kind
kind_of Regular = model.Regular
kind_of Directory = model.DirectoryKind
kind_of (Special special) = model.SpecialKind (special_of special)

-- NF3REG, NF3DIR and the others (RFC 1813 section 2.6)
abbrev pub kind_word : model.Kind → ℕ
kind_word model.Regular = 1
kind_word model.DirectoryKind = 2
kind_word (model.SpecialKind special) = special_word special

-- rdev, which is zero but for devices (RFC 1813 section 2.6)
abbrev pub kind_device : model.Kind → model.Device
kind_device model.Regular = no_device
kind_device model.DirectoryKind = no_device
kind_device (model.SpecialKind special) = special_device special

-- attributes, as the model has them
abbrev pub shown_of : Attributes → model.Shown
shown_of a = record {
  kind = kind_of a.kind;
  mode = a.mode;
  links = a.links;
  uid = a.uid;
  gid = a.gid;
  size = a.size;
  used = a.used;
  fsid = a.fsid;
  fileid = a.fileid.0;
  atime = moment_of a.atime;
  mtime = moment_of a.mtime;
  ctime = moment_of a.ctime;
}

-- attributes before a call, as the model has them
abbrev pub before_of : PriorAttributes → model.Before
before_of a = record { size = a.size; mtime = moment_of a.mtime; ctime = moment_of a.ctime }

-- attributes before and after a call, as the model has them
abbrev pub change_of : Change → model.Wcc
change_of c = record { before = before_of c.before; after = shown_of c.after }
