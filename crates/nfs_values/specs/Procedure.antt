use Rattle.std.specs.Prelude.{ℕ, List, [], ◌∷◌}
use Rattle.nfs_values.specs.declared.procedure.Procedure.{Procedure}
use Rattle.nfs_values.specs.declared.procedure.Procedure.TheVariants.{Null, GetAttributes, SetAttributes, Lookup, CheckAccess, ReadLink, Read, Write}
use Rattle.nfs_values.specs.declared.procedure.Procedure.TheVariants.{Create, MakeDirectory, MakeSymbolicLink, MakeDevice, Remove, RemoveDirectory}
use Rattle.nfs_values.specs.declared.procedure.Procedure.TheVariants.{Rename, MakeLink, ReadDirectory, ReadDirectoryPlus, FilesystemStatus}
use Rattle.nfs_values.specs.declared.procedure.Procedure.TheVariants.{FilesystemInfo, PathConfiguration, Commit, AdminNull, Census, Grow, Stop, MountNull}
use Rattle.nfs_values.specs.declared.procedure.Procedure.TheVariants.{Mount, ListMounts, Unmount, UnmountAll, ListExports}

-- all of them
abbrev pub all_procedures : List Procedure
all_procedures =
    Null ∷ GetAttributes ∷ SetAttributes ∷ Lookup ∷ CheckAccess ∷ ReadLink ∷ Read ∷ Write ∷ Create ∷ MakeDirectory ∷ MakeSymbolicLink ∷ MakeDevice ∷
    Remove ∷ RemoveDirectory ∷ Rename ∷ MakeLink ∷ ReadDirectory ∷ ReadDirectoryPlus ∷ FilesystemStatus ∷ FilesystemInfo ∷ PathConfiguration ∷ Commit ∷
    MountNull ∷ Mount ∷ ListMounts ∷ Unmount ∷ UnmountAll ∷ ListExports ∷ AdminNull ∷ Census ∷ Grow ∷ Stop ∷ []

-- program and procedure of NFS (RFC 1813 section 3), of MOUNT (appendix I, section 5) and of the admin program (our profile)
abbrev pub numbers_of : Procedure → ℕ × ℕ
numbers_of Null = (100003, 0)
numbers_of GetAttributes = (100003, 1)
numbers_of SetAttributes = (100003, 2)
numbers_of Lookup = (100003, 3)
numbers_of CheckAccess = (100003, 4)
numbers_of ReadLink = (100003, 5)
numbers_of Read = (100003, 6)
numbers_of Write = (100003, 7)
numbers_of Create = (100003, 8)
numbers_of MakeDirectory = (100003, 9)
numbers_of MakeSymbolicLink = (100003, 10)
numbers_of MakeDevice = (100003, 11)
numbers_of Remove = (100003, 12)
numbers_of RemoveDirectory = (100003, 13)
numbers_of Rename = (100003, 14)
numbers_of MakeLink = (100003, 15)
numbers_of ReadDirectory = (100003, 16)
numbers_of ReadDirectoryPlus = (100003, 17)
numbers_of FilesystemStatus = (100003, 18)
numbers_of FilesystemInfo = (100003, 19)
numbers_of PathConfiguration = (100003, 20)
numbers_of Commit = (100003, 21)
numbers_of MountNull = (100005, 0)
numbers_of Mount = (100005, 1)
numbers_of ListMounts = (100005, 2)
numbers_of Unmount = (100005, 3)
numbers_of UnmountAll = (100005, 4)
numbers_of ListExports = (100005, 5)
numbers_of AdminNull = (0x20000001, 0)
numbers_of Census = (0x20000001, 1)
numbers_of Grow = (0x20000001, 2)
numbers_of Stop = (0x20000001, 3)

-- its place among all
abbrev pub place_of : Procedure → ℕ
place_of Null = 0
place_of GetAttributes = 1
place_of SetAttributes = 2
place_of Lookup = 3
place_of CheckAccess = 4
place_of ReadLink = 5
place_of Read = 6
place_of Write = 7
place_of Create = 8
place_of MakeDirectory = 9
place_of MakeSymbolicLink = 10
place_of MakeDevice = 11
place_of Remove = 12
place_of RemoveDirectory = 13
place_of Rename = 14
place_of MakeLink = 15
place_of ReadDirectory = 16
place_of ReadDirectoryPlus = 17
place_of FilesystemStatus = 18
place_of FilesystemInfo = 19
place_of PathConfiguration = 20
place_of Commit = 21
place_of MountNull = 22
place_of Mount = 23
place_of ListMounts = 24
place_of Unmount = 25
place_of UnmountAll = 26
place_of ListExports = 27
place_of AdminNull = 28
place_of Census = 29
place_of Grow = 30
place_of Stop = 31
