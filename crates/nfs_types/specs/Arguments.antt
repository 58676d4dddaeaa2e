-- The arguments of each procedure (RFC 1813 section 3.3).
use Rattle.std.specs.Prelude.{◌≡◌, ℕ, Bool, true, false, List, Result, Ok, Err}
use Rattle.std.specs.Option.{option_map}
use Rattle.xdr.specs.declared.fault.Fault.{Fault}
use Rattle.xdr.specs.Shape.{Shape, Void, Word, Hyper, Value, Spells}
use Rattle.xdr.specs.Reading.{◌>>=◌, all_of}
use Rattle.nfs_model.specs.Types as model
use Rattle.nfs_model.specs.Serial.Mount as mounts
use Rattle.nfs_values.specs.declared.procedure.Procedure.{Procedure}
use Rattle.nfs_values.specs.declared.procedure.Procedure.TheVariants.{Null, GetAttributes, SetAttributes, Lookup, CheckAccess, ReadLink, Read, Write}
use Rattle.nfs_values.specs.declared.procedure.Procedure.TheVariants.{Create, MakeDirectory, MakeSymbolicLink, MakeDevice, Remove, RemoveDirectory}
use Rattle.nfs_values.specs.declared.procedure.Procedure.TheVariants.{Rename, MakeLink, ReadDirectory, ReadDirectoryPlus, FilesystemStatus}
use Rattle.nfs_values.specs.declared.procedure.Procedure.TheVariants.{FilesystemInfo, PathConfiguration, Commit, AdminNull, Census, Grow, Stop, MountNull}
use Rattle.nfs_values.specs.declared.procedure.Procedure.TheVariants.{Mount, ListMounts, Unmount, UnmountAll, ListExports}
use Rattle.nfs_values.specs.declared.target.Target.{Target}
use Rattle.nfs_types.specs.declared.bad.Bad.{Bad}
use Rattle.nfs_types.specs.declared.bad.Bad.TheVariants as bads
use Rattle.nfs_types.specs.Shapes.{◌&◌, handle_shape, any_bytes, verifier_shape, moment_from, set_shape, set_from, guard_shape, target_shape, create_shape}
use Rattle.nfs_types.specs.Shapes.{create_from, symlink_shape, mknod_shape, mknod_kind, mknod_set, stable_shape}

-- SETATTR3args (section 3.3.2): object, new_attributes and guard
abbrev pub setattr_shape : Shape
setattr_shape = handle_shape & set_shape & guard_shape

-- ACCESS3args (section 3.3.4): object and access
abbrev pub access_shape : Shape
access_shape = handle_shape & Word

-- READ3args (section 3.3.6) and COMMIT3args (section 3.3.21): file, offset and count
abbrev pub range_shape : Shape
range_shape = handle_shape & Hyper & Word

-- WRITE3args (section 3.3.7): file, offset, count, stable and data
abbrev pub writing_shape : Shape
writing_shape = handle_shape & Hyper & Word & stable_shape & any_bytes

-- CREATE3args (section 3.3.8): where and how
abbrev pub creating_shape : Shape
creating_shape = target_shape & create_shape

-- MKDIR3args (section 3.3.9): where and attributes
abbrev pub making_shape : Shape
making_shape = target_shape & set_shape

-- SYMLINK3args (section 3.3.10): where and symlink
abbrev pub symlinking_shape : Shape
symlinking_shape = target_shape & symlink_shape

-- MKNOD3args (section 3.3.11): where and what
abbrev pub mknodding_shape : Shape
mknodding_shape = target_shape & mknod_shape

-- LINK3args (section 3.3.15): file and link
abbrev pub linking_shape : Shape
linking_shape = handle_shape & target_shape

-- RENAME3args (section 3.3.14): from and to
abbrev pub renaming_shape : Shape
renaming_shape = target_shape & target_shape

-- READDIR3args (section 3.3.16): dir, cookie, cookieverf and count
abbrev pub listing_shape : Shape
listing_shape = handle_shape & Hyper & verifier_shape & Word

-- READDIRPLUS3args (section 3.3.17): dir, cookie, cookieverf, dircount and maxcount
abbrev pub listing_plus_shape : Shape
listing_plus_shape = handle_shape & Hyper & verifier_shape & Word & Word

-- GROW (our profile): volume and ranges
abbrev pub growing_shape : Shape
growing_shape = Word & Word

-- dirpath of MOUNT (appendix I, section 5.1.5). One that is longer than MNTPATHLEN is read too, since MNT has an answer to it.
abbrev pub path_shape : Shape
path_shape = any_bytes

abbrev pub arguments_shape : Procedure → Shape
arguments_shape Null = Void
arguments_shape GetAttributes = handle_shape
arguments_shape SetAttributes = setattr_shape
arguments_shape Lookup = target_shape
arguments_shape CheckAccess = access_shape
arguments_shape ReadLink = handle_shape
arguments_shape Read = range_shape
arguments_shape Write = writing_shape
arguments_shape Create = creating_shape
arguments_shape MakeDirectory = making_shape
arguments_shape MakeSymbolicLink = symlinking_shape
arguments_shape MakeDevice = mknodding_shape
arguments_shape Remove = target_shape
arguments_shape RemoveDirectory = target_shape
arguments_shape Rename = renaming_shape
arguments_shape MakeLink = linking_shape
arguments_shape ReadDirectory = listing_shape
arguments_shape ReadDirectoryPlus = listing_plus_shape
arguments_shape FilesystemStatus = handle_shape
arguments_shape FilesystemInfo = handle_shape
arguments_shape PathConfiguration = handle_shape
arguments_shape Commit = range_shape
arguments_shape AdminNull = Void
arguments_shape Census = Void
arguments_shape Grow = growing_shape
arguments_shape Stop = Void
arguments_shape MountNull = Void
arguments_shape Mount = path_shape
arguments_shape ListMounts = Void
arguments_shape Unmount = path_shape
arguments_shape UnmountAll = Void
arguments_shape ListExports = Void

-- a name in a directory, as its type has it
abbrev pub target_of : Target → Value target_shape
target_of t = (t.directory, t.name)

-- what arguments ask
abbrev pub null_call : Value Void → model.Call
null_call v = model.Null

abbrev pub getattr_call : Value handle_shape → model.Call
getattr_call handle = model.Getattr handle

abbrev pub setattr_call : Value setattr_shape → model.Call
setattr_call v = model.Setattr v.0 (set_from v.1.0) (option_map moment_from v.1.1)

abbrev pub lookup_call : Value target_shape → model.Call
lookup_call v = model.Lookup v.0 v.1

abbrev pub access_call : Value access_shape → model.Call
access_call v = model.CheckAccess v.0 v.1

abbrev pub readlink_call : Value handle_shape → model.Call
readlink_call handle = model.Readlink handle

abbrev pub read_call : Value range_shape → model.Call
read_call v = model.Read v.0 v.1.0 v.1.1

abbrev pub write_call : Value writing_shape → model.Call
write_call v = model.Write v.0 v.1.0 v.1.1.0 v.1.1.1.1

abbrev pub create_call : Value creating_shape → model.Call
create_call v = model.Create v.0.0 v.0.1 (create_from v.1)

abbrev pub mkdir_call : Value making_shape → model.Call
mkdir_call v = model.Mkdir v.0.0 v.0.1 (set_from v.1)

abbrev pub symlink_call : Value symlinking_shape → model.Call
symlink_call v = model.Symlink v.0.0 v.0.1 (set_from v.1.0) v.1.1

abbrev pub mknod_call : Value mknodding_shape → model.Call
mknod_call v = model.Mknod v.0.0 v.0.1 (mknod_kind v.1) (mknod_set v.1)

abbrev pub remove_call : Value target_shape → model.Call
remove_call v = model.Remove v.0 v.1

abbrev pub rmdir_call : Value target_shape → model.Call
rmdir_call v = model.Rmdir v.0 v.1

abbrev pub rename_call : Value renaming_shape → model.Call
rename_call v = model.Rename v.0.0 v.0.1 v.1.0 v.1.1

abbrev pub link_call : Value linking_shape → model.Call
link_call v = model.Link v.0 v.1.0 v.1.1

abbrev pub readdir_call : Value listing_shape → model.Call
readdir_call v = model.Readdir v.0 v.1.0 v.1.1.0 v.1.1.1

abbrev pub readdirplus_call : Value listing_plus_shape → model.Call
readdirplus_call v = model.Readdirplus v.0 v.1.0 v.1.1.0 v.1.1.1.0 v.1.1.1.1

abbrev pub fsstat_call : Value handle_shape → model.Call
fsstat_call handle = model.Fsstat handle

abbrev pub fsinfo_call : Value handle_shape → model.Call
fsinfo_call handle = model.Fsinfo handle

abbrev pub pathconf_call : Value handle_shape → model.Call
pathconf_call handle = model.Pathconf handle

abbrev pub commit_call : Value range_shape → model.Call
commit_call v = model.Commit v.0

abbrev pub census_call : Value Void → model.Call
census_call v = model.Census

abbrev pub grow_call : Value growing_shape → model.Call
grow_call v = model.Grow v.0 v.1

abbrev pub stop_call : Value Void → model.Call
stop_call v = model.Stop

abbrev pub mnt_call : Value path_shape → model.Call
mnt_call path = mounts.mnt_call path

abbrev pub dump_call : Value Void → model.Call
dump_call v = model.Mount model.Dump

abbrev pub umnt_call : Value path_shape → model.Call
umnt_call path = model.Mount model.Unmount

abbrev pub umntall_call : Value Void → model.Call
umntall_call v = model.Mount model.Unmount

abbrev pub export_call : Value Void → model.Call
export_call v = model.Mount model.Exports

abbrev pub call_from : (procedure : Procedure) → Value (arguments_shape procedure) → model.Call
call_from Null = null_call
call_from GetAttributes = getattr_call
call_from SetAttributes = setattr_call
call_from Lookup = lookup_call
call_from CheckAccess = access_call
call_from ReadLink = readlink_call
call_from Read = read_call
call_from Write = write_call
call_from Create = create_call
call_from MakeDirectory = mkdir_call
call_from MakeSymbolicLink = symlink_call
call_from MakeDevice = mknod_call
call_from Remove = remove_call
call_from RemoveDirectory = rmdir_call
call_from Rename = rename_call
call_from MakeLink = link_call
call_from ReadDirectory = readdir_call
call_from ReadDirectoryPlus = readdirplus_call
call_from FilesystemStatus = fsstat_call
call_from FilesystemInfo = fsinfo_call
call_from PathConfiguration = pathconf_call
call_from Commit = commit_call
call_from AdminNull = null_call
call_from Census = census_call
call_from Grow = grow_call
call_from Stop = stop_call
call_from MountNull = null_call
call_from Mount = mnt_call
call_from ListMounts = dump_call
call_from Unmount = umnt_call
call_from UnmountAll = umntall_call
call_from ListExports = export_call

-- The arguments have a name, a path, a text or data.
abbrev pub takes_memory : Procedure → Bool
takes_memory Lookup = true
takes_memory Write = true
takes_memory Create = true
takes_memory MakeDirectory = true
takes_memory MakeSymbolicLink = true
takes_memory MakeDevice = true
takes_memory Remove = true
takes_memory RemoveDirectory = true
takes_memory Rename = true
takes_memory MakeLink = true
takes_memory Mount = true
takes_memory procedure = false

-- The bytes spell arguments that ask this call.
abbrev pub Asks : Procedure → List ℕ → model.Call → Type 0
Asks procedure bytes call = (v : Value (arguments_shape procedure)) × Spells (arguments_shape procedure) v bytes × (call ≡ call_from procedure v)

-- the call that these bytes of a type ask, or the fault of the first item that can't be read
abbrev pub asked_by : (shape : Shape) → (Value shape → model.Call) → List ℕ → Result model.Call Fault
asked_by shape call bytes = all_of shape bytes >>= λ v. Ok (call v)

abbrev pub asked : Procedure → List ℕ → Result model.Call Fault
asked Null bytes = asked_by Void null_call bytes
asked GetAttributes bytes = asked_by handle_shape getattr_call bytes
asked SetAttributes bytes = asked_by setattr_shape setattr_call bytes
asked Lookup bytes = asked_by target_shape lookup_call bytes
asked CheckAccess bytes = asked_by access_shape access_call bytes
asked ReadLink bytes = asked_by handle_shape readlink_call bytes
asked Read bytes = asked_by range_shape read_call bytes
asked Write bytes = asked_by writing_shape write_call bytes
asked Create bytes = asked_by creating_shape create_call bytes
asked MakeDirectory bytes = asked_by making_shape mkdir_call bytes
asked MakeSymbolicLink bytes = asked_by symlinking_shape symlink_call bytes
asked MakeDevice bytes = asked_by mknodding_shape mknod_call bytes
asked Remove bytes = asked_by target_shape remove_call bytes
asked RemoveDirectory bytes = asked_by target_shape rmdir_call bytes
asked Rename bytes = asked_by renaming_shape rename_call bytes
asked MakeLink bytes = asked_by linking_shape link_call bytes
asked ReadDirectory bytes = asked_by listing_shape readdir_call bytes
asked ReadDirectoryPlus bytes = asked_by listing_plus_shape readdirplus_call bytes
asked FilesystemStatus bytes = asked_by handle_shape fsstat_call bytes
asked FilesystemInfo bytes = asked_by handle_shape fsinfo_call bytes
asked PathConfiguration bytes = asked_by handle_shape pathconf_call bytes
asked Commit bytes = asked_by range_shape commit_call bytes
asked AdminNull bytes = asked_by Void null_call bytes
asked Census bytes = asked_by Void census_call bytes
asked Grow bytes = asked_by growing_shape grow_call bytes
asked Stop bytes = asked_by Void stop_call bytes
asked MountNull bytes = asked_by Void null_call bytes
asked Mount bytes = asked_by path_shape mnt_call bytes
asked ListMounts bytes = asked_by Void dump_call bytes
asked Unmount bytes = asked_by path_shape umnt_call bytes
asked UnmountAll bytes = asked_by Void umntall_call bytes
asked ListExports bytes = asked_by Void export_call bytes

-- What was returned, seen by view, is what is asked. Memory runs out only where something is asked that takes some.
abbrev pub Makes : {X Y : Type 0} → (X → Y) → Bool → Result X Bad → Result Y Fault → Type 0
Makes view memory (Ok x) asked = asked ≡ Ok (view x)
Makes view memory (Err (bads.Fault fault)) asked = asked ≡ Err fault
Makes {X} {Y} view memory (Err bads.NoMemory) asked = (memory ≡ true) × ((y : Y) × (asked ≡ Ok y))

-- the call that was put in its place, where it came to that
abbrev pub put_in : {X : Type 0} → Result (Unit {0}) Bad → X → Result X Bad
put_in (Ok done) call = Ok call
put_in (Err bad) call = Err bad
