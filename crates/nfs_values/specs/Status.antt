use Rattle.nfs_model.specs.Types as model
use Rattle.nfs_values.specs.declared.status.Status.{Status}
use Rattle.nfs_values.specs.declared.status.Status.TheVariants.{NotPermitted, NoEntry, Access, Exists, CrossVolume, NotDirectory, IsDirectory, Invalid}
use Rattle.nfs_values.specs.declared.status.Status.TheVariants.{TooBig, NoSpace, ReadOnly, TooManyLinks, NameTooLong, NotEmpty, Stale, BadHandle}
use Rattle.nfs_values.specs.declared.status.Status.TheVariants.{NotSynchronous, BadCookie, TooSmall, BadType}

-- a status, as the model has it
abbrev pub status_of : Status → model.Status
status_of NotPermitted = model.NotPermitted
status_of NoEntry = model.NoEntry
status_of Access = model.Access
status_of Exists = model.Exists
status_of CrossVolume = model.CrossVolume
status_of NotDirectory = model.NotDirectory
status_of IsDirectory = model.IsDirectory
status_of Invalid = model.Invalid
status_of TooBig = model.TooBig
status_of NoSpace = model.NoSpace
status_of ReadOnly = model.ReadOnly
status_of TooManyLinks = model.TooManyLinks
status_of NameTooLong = model.NameTooLong
status_of NotEmpty = model.NotEmpty
status_of Stale = model.Stale
status_of BadHandle = model.BadHandle
status_of NotSynchronous = model.NotSynchronous
status_of BadCookie = model.BadCookie
status_of TooSmall = model.TooSmall
status_of BadType = model.BadType
