-- What each procedure is on (our profile): names and attributes of a volume, bytes of a file, two directories of a
-- volume, a whole volume, the aggregate of a volume, all volumes, or nothing. Typed by hand, one row a procedure.
use Rattle.std.proofs.Common.{◌≡◌, [], ◌∷◌, replicate, None, refl}
use Rattle.nfs_model.specs.Types.{Unchecked, Null, Getattr, Setattr, Lookup, Read, Write, Create, Mkdir, Remove, Rmdir, Rename, Readdir, Readdirplus}
use Rattle.nfs_model.specs.Types.{Readlink, Symlink, Mknod, Link, CheckAccess, Fsstat, Fsinfo, Pathconf, Commit, Regular, Census, Grow}
use Rattle.nfs_model.specs.Route.{AtOnce, OfNames, OfBytesRead, OfBytesWritten, OfTwoHandles, OfVolume, OfAggregate, OfEverything, route}
use Rattle.nfs_model.specs.Serial.Create.{no_attributes}
use Rattle.nfs_laws.proofs.rows.Cases.{h, a, b}

null_is_on_nothing : route Null ≡ AtOnce
null_is_on_nothing = refl

getattr_is_on_names : route (Getattr (h 2)) ≡ OfNames (h 2)
getattr_is_on_names = refl

setattr_is_on_names : route (Setattr (h 2) no_attributes None) ≡ OfNames (h 2)
setattr_is_on_names = refl

lookup_is_on_names : route (Lookup (h 2) a) ≡ OfNames (h 2)
lookup_is_on_names = refl

access_is_on_names : route (CheckAccess (h 2) 63) ≡ OfNames (h 2)
access_is_on_names = refl

readlink_is_on_names : route (Readlink (h 2)) ≡ OfNames (h 2)
readlink_is_on_names = refl

read_is_on_bytes : route (Read (h 2) 700 12) ≡ OfBytesRead (h 2) 700 12
read_is_on_bytes = refl

write_is_on_bytes : route (Write (h 2) 700 1 (9 ∷ [])) ≡ OfBytesWritten (h 2) 700 1
write_is_on_bytes = refl

create_is_on_names : route (Create (h 2) a (Unchecked no_attributes)) ≡ OfNames (h 2)
create_is_on_names = refl

mkdir_is_on_names : route (Mkdir (h 2) a no_attributes) ≡ OfNames (h 2)
mkdir_is_on_names = refl

symlink_is_on_names : route (Symlink (h 2) a no_attributes b) ≡ OfNames (h 2)
symlink_is_on_names = refl

mknod_is_on_names : route (Mknod (h 2) a Regular no_attributes) ≡ OfNames (h 2)
mknod_is_on_names = refl

remove_is_on_names : route (Remove (h 2) a) ≡ OfNames (h 2)
remove_is_on_names = refl

rmdir_is_on_names : route (Rmdir (h 2) a) ≡ OfNames (h 2)
rmdir_is_on_names = refl

rename_is_on_two_directories : route (Rename (h 2) a (h 3) b) ≡ OfTwoHandles (h 2) (h 3)
rename_is_on_two_directories = refl

link_is_on_two_handles : route (Link (h 3) (h 2) a) ≡ OfTwoHandles (h 3) (h 2)
link_is_on_two_handles = refl

readdir_is_on_names : route (Readdir (h 2) 0 (replicate 8 0) 512) ≡ OfNames (h 2)
readdir_is_on_names = refl

readdirplus_is_on_names : route (Readdirplus (h 2) 0 (replicate 8 0) 512 4096) ≡ OfNames (h 2)
readdirplus_is_on_names = refl

fsstat_is_on_the_volume : route (Fsstat (h 2)) ≡ OfVolume (h 2)
fsstat_is_on_the_volume = refl

fsinfo_is_on_names : route (Fsinfo (h 2)) ≡ OfNames (h 2)
fsinfo_is_on_names = refl

pathconf_is_on_names : route (Pathconf (h 2)) ≡ OfNames (h 2)
pathconf_is_on_names = refl

commit_is_on_names : route (Commit (h 2)) ≡ OfNames (h 2)
commit_is_on_names = refl

census_is_on_everything : route Census ≡ OfEverything
census_is_on_everything = refl

grow_is_on_the_aggregate : route (Grow 1 3) ≡ OfAggregate 1
grow_is_on_the_aggregate = refl
