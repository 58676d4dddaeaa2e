use Rattle.std.specs.Prelude.{ℕ, List}
use Rattle.std.specs.Option.{option_map}
use Rattle.nfs_model.specs.Types as model
use Rattle.nfs_values.specs.declared.call.Call.{Call}
use Rattle.nfs_values.specs.declared.call.Call.TheVariants.{Null, GetAttributes, SetAttributes, Lookup, CheckAccess, ReadLink, Read, Write, Create}
use Rattle.nfs_values.specs.declared.call.Call.TheVariants.{MakeDirectory, MakeSymbolicLink, MakeDevice, Remove, RemoveDirectory, Rename, MakeLink}
use Rattle.nfs_values.specs.declared.call.Call.TheVariants.{ReadDirectory, ReadDirectoryPlus, FilesystemStatus, FilesystemInfo}
use Rattle.nfs_values.specs.declared.call.Call.TheVariants.{PathConfiguration, Commit, Census, Grow, Stop, Mount, MountBelow}
use Rattle.nfs_values.specs.Attributes.{kind_of}
use Rattle.nfs_values.specs.Moment.{moment_of}
use Rattle.nfs_values.specs.Mount.{mount_call_of}
use Rattle.nfs_values.specs.Set.{set_of, mode_of}

-- a call, as the model has it
abbrev pub call_of : Call → model.Call
call_of Null = model.Null
call_of (GetAttributes handle) = model.Getattr handle
call_of (SetAttributes handle set guard) = model.Setattr handle (set_of set) (option_map moment_of guard)
call_of (Lookup target) = model.Lookup target.directory target.name
call_of (CheckAccess handle asked) = model.CheckAccess handle asked
call_of (ReadLink handle) = model.Readlink handle
call_of (Read handle offset count) = model.Read handle offset count
call_of (Write handle offset count bytes) = model.Write handle offset count bytes
call_of (Create target mode) = model.Create target.directory target.name (mode_of mode)
call_of (MakeDirectory target set) = model.Mkdir target.directory target.name (set_of set)
call_of (MakeSymbolicLink target set text) = model.Symlink target.directory target.name (set_of set) text
call_of (MakeDevice target kind set) = model.Mknod target.directory target.name (kind_of kind) (set_of set)
call_of (Remove target) = model.Remove target.directory target.name
call_of (RemoveDirectory target) = model.Rmdir target.directory target.name
call_of (Rename from to) = model.Rename from.directory from.name to.directory to.name
call_of (MakeLink handle target) = model.Link handle target.directory target.name
call_of (ReadDirectory directory cookie verifier count) = model.Readdir directory cookie.0 verifier.0 count
call_of (ReadDirectoryPlus directory cookie verifier names_count count) =
    model.Readdirplus directory cookie.0 verifier.0 names_count count
call_of (FilesystemStatus handle) = model.Fsstat handle
call_of (FilesystemInfo handle) = model.Fsinfo handle
call_of (PathConfiguration handle) = model.Pathconf handle
call_of (Commit handle) = model.Commit handle
call_of Census = model.Census
call_of (Grow volume ranges) = model.Grow volume.0 ranges
call_of Stop = model.Stop
call_of (Mount call) = model.Mount (mount_call_of call)
call_of (MountBelow root path) = model.MountBelow root path

-- a call with another handle in place of each of its own (RFC 1813 section 3.3); the root of a MNT isn't one, since it never came
abbrev pub call_with : (List ℕ → List ℕ) → model.Call → model.Call
call_with f (model.Getattr handle) = model.Getattr (f handle)
call_with f (model.Setattr handle set guard) = model.Setattr (f handle) set guard
call_with f (model.Lookup directory name) = model.Lookup (f directory) name
call_with f (model.CheckAccess handle asked) = model.CheckAccess (f handle) asked
call_with f (model.Readlink handle) = model.Readlink (f handle)
call_with f (model.Read handle offset count) = model.Read (f handle) offset count
call_with f (model.Write handle offset count written) = model.Write (f handle) offset count written
call_with f (model.Create directory name mode) = model.Create (f directory) name mode
call_with f (model.Mkdir directory name set) = model.Mkdir (f directory) name set
call_with f (model.Symlink directory name set text) = model.Symlink (f directory) name set text
call_with f (model.Mknod directory name kind set) = model.Mknod (f directory) name kind set
call_with f (model.Remove directory name) = model.Remove (f directory) name
call_with f (model.Rmdir directory name) = model.Rmdir (f directory) name
call_with f (model.Rename from from_name to to_name) = model.Rename (f from) from_name (f to) to_name
call_with f (model.Link handle directory name) = model.Link (f handle) (f directory) name
call_with f (model.Readdir directory cookie verifier count) = model.Readdir (f directory) cookie verifier count
call_with f (model.Readdirplus directory cookie verifier names_count count) = model.Readdirplus (f directory) cookie verifier names_count count
call_with f (model.Fsstat handle) = model.Fsstat (f handle)
call_with f (model.Fsinfo handle) = model.Fsinfo (f handle)
call_with f (model.Pathconf handle) = model.Pathconf (f handle)
call_with f (model.Commit handle) = model.Commit (f handle)
call_with f call = call
