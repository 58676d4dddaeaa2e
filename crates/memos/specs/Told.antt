-- Of which procedure results are that are told again.
use Rattle.nfs_model.specs.Types as model
use Rattle.nfs_model.specs.Memo.{Told, ToldSet, ToldMade, ToldGone, ToldRenamed, ToldLinked}
use Rattle.nfs_values.specs.declared.procedure.Procedure.{Procedure}
use Rattle.nfs_values.specs.declared.procedure.Procedure.TheVariants.{SetAttributes, Create, MakeDirectory, MakeSymbolicLink, MakeDevice}
use Rattle.nfs_values.specs.declared.procedure.Procedure.TheVariants.{Remove, RemoveDirectory, Rename, MakeLink}

-- a MKDIR, SYMLINK, MKNOD and an RMDIR are told their own, whose results have the form of a CREATE's and a REMOVE's (RFC 1813 section 3.3)
abbrev pub procedure_told : model.Call → Told → Procedure
procedure_told call (ToldSet change) = SetAttributes
procedure_told (model.Mkdir directory name set) (ToldMade object made_in) = MakeDirectory
procedure_told (model.Symlink directory name set text) (ToldMade object made_in) = MakeSymbolicLink
procedure_told (model.Mknod directory name kind set) (ToldMade object made_in) = MakeDevice
procedure_told call (ToldMade object made_in) = Create
procedure_told (model.Rmdir directory name) (ToldGone gone_from) = RemoveDirectory
procedure_told call (ToldGone gone_from) = Remove
procedure_told call (ToldRenamed from to) = Rename
procedure_told call (ToldLinked object linked_in) = MakeLink
