-- What a call is on, by which it is known where it may run (our profile). Of a call's arguments it has
-- the handles, and of READ and WRITE the place of their bytes.
use Rattle.std.specs.Prelude.{ℕ, List, []}
use Rattle.nfs_model.specs.Types.{Call, Null, Getattr, Setattr, Lookup, CheckAccess, Read, Write, Create}
use Rattle.nfs_model.specs.Types.{Mkdir, Remove, Rmdir, Rename, Readdir, Readdirplus, Fsstat, Fsinfo, Pathconf}
use Rattle.nfs_model.specs.Types.{Commit, Readlink, Symlink, Mknod, Link, Census, Grow, Stop, Mount, MountBelow}

pub data Route : Type 0 where
  -- on no state
  AtOnce : Route
  -- names and attributes of one volume, which a handle names
  OfNames : (handle : List ℕ) → Route
  -- bytes of a file, which are read where they lie
  OfBytesRead : (handle : List ℕ) (offset count : ℕ) → Route
  -- bytes of a file, which are written where they lie or above
  OfBytesWritten : (handle : List ℕ) (offset count : ℕ) → Route
  -- names and attributes of one volume, which two handles name
  OfTwoHandles : (from to : List ℕ) → Route
  -- a whole volume, which a handle names
  OfVolume : (handle : List ℕ) → Route
  -- the aggregate of a volume
  OfAggregate : (volume : ℕ) → Route
  -- all volumes
  OfEverything : Route

-- the route of a call
abbrev pub route : Call → Route
route Null = AtOnce
route (Getattr handle) = OfNames handle
route (Setattr handle set guard) = OfNames handle
route (Lookup directory name) = OfNames directory
route (CheckAccess handle asked) = OfNames handle
route (Readlink handle) = OfNames handle
route (Read handle offset count) = OfBytesRead handle offset count
route (Write handle offset count written) = OfBytesWritten handle offset count
route (Create directory name mode) = OfNames directory
route (Mkdir directory name set) = OfNames directory
route (Symlink directory name set text) = OfNames directory
route (Mknod directory name kind set) = OfNames directory
route (Remove directory name) = OfNames directory
route (Rmdir directory name) = OfNames directory
route (Rename from from_name to to_name) = OfTwoHandles from to
route (Link handle directory name) = OfTwoHandles handle directory
route (Readdir directory cookie verifier count) = OfNames directory
route (Readdirplus directory cookie verifier names_count count) = OfNames directory
route (Fsstat handle) = OfVolume handle
route (Fsinfo handle) = OfNames handle
route (Pathconf handle) = OfNames handle
route (Commit handle) = OfNames handle
route Census = OfEverything
route (Grow volume ranges) = OfAggregate volume
route Stop = AtOnce
route (Mount call) = AtOnce
route (MountBelow root path) = OfNames root

-- the handle by which a route comes to its volume, its only one or the first; one without a handle
-- has no bytes
abbrev pub handle_on : Route → List ℕ
handle_on (OfNames handle) = handle
handle_on (OfBytesRead handle offset count) = handle
handle_on (OfBytesWritten handle offset count) = handle
handle_on (OfTwoHandles from to) = from
handle_on (OfVolume handle) = handle
handle_on other = []
