-- How many optional parts a failure of a procedure has in its results, all absent: this many zero
-- words (our profile; RFC 1813 section 3.3 has the results).
use Rattle.std.specs.Prelude.{ℕ}
use Rattle.nfs_model.specs.Types.{Call, Null, Getattr, Setattr, Lookup, CheckAccess, Readlink, Read, Write, Create}
use Rattle.nfs_model.specs.Types.{Mkdir, Symlink, Mknod, Remove, Rmdir, Rename, Link, Readdir, Readdirplus, Fsstat}
use Rattle.nfs_model.specs.Types.{Fsinfo, Pathconf, Commit, Census, Grow, Stop, Mount, MountBelow}

-- attributes are one, attributes before and after are two; of LINK there are both
abbrev pub absent_parts : Call → ℕ
absent_parts Null = 0
absent_parts (Getattr handle) = 0
absent_parts (Setattr handle set guard) = 2
absent_parts (Lookup directory name) = 1
absent_parts (CheckAccess handle asked) = 1
absent_parts (Readlink handle) = 1
absent_parts (Read handle offset count) = 1
absent_parts (Write handle offset count written) = 2
absent_parts (Create directory name mode) = 2
absent_parts (Mkdir directory name set) = 2
absent_parts (Symlink directory name set text) = 2
absent_parts (Mknod directory name kind set) = 2
absent_parts (Remove directory name) = 2
absent_parts (Rmdir directory name) = 2
absent_parts (Rename from from_name to to_name) = 4
absent_parts (Link handle directory name) = 3
absent_parts (Readdir directory cookie verifier count) = 1
absent_parts (Readdirplus directory cookie verifier names_count count) = 1
absent_parts (Fsstat handle) = 1
absent_parts (Fsinfo handle) = 1
absent_parts (Pathconf handle) = 1
absent_parts (Commit handle) = 2
absent_parts Census = 0
absent_parts (Grow volume ranges) = 0
absent_parts Stop = 0
absent_parts (Mount call) = 0
absent_parts (MountBelow root path) = 0
