-- Which calls are refused by the owner, the groups and the mode of objects, by what is under Logical (RFC 1813
-- section 2.5).
use Rattle.std.specs.Prelude.{ℕ, Bool, false, not, ◌||◌, ◌==◌, List, Option, Some, None, is_none, if◌then◌else◌}
use Rattle.std.specs.Option.{option_map}
use Rattle.std.specs.FinMap.{get}
use Rattle.nfs_model.specs.Types as types
use Rattle.nfs_model.specs.Types.{Credential, Caller, Status, CreateMode, Unchecked, Kind, Regular}
use Rattle.nfs_model.specs.Types.{Call, Setattr, Lookup, Read, Write, Create, Mkdir, Symlink, Mknod, Remove, Rmdir, Rename, Link, Readdir}
use Rattle.nfs_model.specs.Types.{Readdirplus, Commit}
use Rattle.nfs_model.specs.Serial.Rights.{Protection, may_read, may_write, may_search, may_list, may_change, may_drop, rights_of}
use Rattle.nfs_model.specs.Serial.Permission.{needs, reserved, then_asks, set_refusal, is_no_child, is_device, is_change, write_rights, refusal_of}
use Rattle.nfs_model.specs.volume.Directories.{fileid_found}
use Rattle.nfs_model.specs.volume.Inodes.{InodeKind, RegularFile, DirectoryKind, Inode}
use Rattle.filer_state.specs.state.Protected.{protection_of}
use Rattle.filer_state.specs.state.Lenses.{LogicalSet}
use Rattle.filer_state.specs.names.Answers.{entries_of}

-- ---- what is asked of

-- a node that is there
abbrev pub of_inode : Option Inode → (Protection → Option Status) → Option Status
of_inode None ask = None
of_inode (Some inode) ask = ask (protection_of inode)

-- a directory: nothing is asked of a file
abbrev pub if_directory : InodeKind → Option Status → Option Status
if_directory (DirectoryKind parent subdirectories) asked = asked
if_directory kind asked = None

abbrev pub of_directory_inode : Option Inode → (Protection → Option Status) → Option Status
of_directory_inode None ask = None
of_directory_inode (Some inode) ask = if_directory inode.kind (ask (protection_of inode))

-- a file: nothing is asked of a directory
abbrev pub if_file : InodeKind → Option Status → Option Status
if_file (RegularFile size filled verifier) asked = asked
if_file kind asked = None

abbrev pub of_file_inode : Option Inode → (Protection → Option Status) → Option Status
of_file_inode None ask = None
of_file_inode (Some inode) ask = if_file inode.kind (ask (protection_of inode))

-- what a fileid's node is protected by, if it is there
abbrev pub protection_at : LogicalSet → Option ℕ → Option Protection
protection_at s None = None
protection_at s (Some fileid) = option_map protection_of (get s.own.inodes.inodes fileid)

-- and the node under a name of a directory
abbrev pub protection_under : LogicalSet → ℕ → List ℕ → Option Protection
protection_under s fileid name = protection_at s (fileid_found (entries_of s.own fileid) name)

-- ---- names

-- a new name: nothing is asked where it is there
abbrev pub new_asked : Credential → Protection → Option Protection → Option Status
new_asked who directory None = needs (may_change who directory)
new_asked who directory (Some object) = None

-- a device is for uid 0 to make
abbrev pub mknod_asked : Credential → Kind → Protection → Option Protection → Option Status
mknod_asked who kind directory None = then_asks (needs (may_change who directory)) (reserved (not (is_device kind) || (who.uid == 0)))
mknod_asked who kind directory (Some object) = None

-- UNCHECKED over a file that is there sets the size alone
abbrev pub over_kind : Credential → CreateMode → Protection → Kind → Option Status
over_kind who (Unchecked set) object Regular = needs (is_none set.size || may_write who object)
over_kind who mode object kind = None

abbrev pub create_asked : Credential → CreateMode → Protection → Option Protection → Option Status
create_asked who mode directory None = needs (may_change who directory)
create_asked who mode directory (Some object) = over_kind who mode object object.kind

-- a name that goes
abbrev pub gone_asked : Credential → Protection → Option Protection → Option Status
gone_asked who directory None = None
gone_asked who directory (Some object) =
    then_asks (needs (may_change who directory)) (needs (may_drop who directory object))

-- a name that another takes the place of, or a new one
abbrev pub target_asked : Credential → Protection → Option Protection → Option Status
target_asked who directory None = needs (may_change who directory)
target_asked who directory (Some object) = gone_asked who directory (Some object)

-- a directory that comes into another one needs w
abbrev pub moved_kind : Credential → Bool → Protection → Kind → Option Status
moved_kind who stays object types.DirectoryKind = needs (stays || (rights_of who object).writes)
moved_kind who stays object kind = None

-- both names are of one node, of which nothing is asked
abbrev pub are_one : Option ℕ → Option ℕ → Bool
are_one None target = false
are_one (Some fileid) None = false
are_one (Some fileid) (Some target) = target == fileid

-- what moves: its name goes, the other comes
abbrev pub move_asked : Credential → Bool → Protection → Protection → Option Protection → Option Protection → Option Status
move_asked who stays from to None target = None
move_asked who stays from to (Some object) target =
    then_asks (gone_asked who from (Some object))
    (then_asks (target_asked who to target) (moved_kind who stays object object.kind))

-- asked of a name in a directory, once this may be searched
abbrev pub of_held_name : Credential → List ℕ → LogicalSet → ℕ → (Protection → Option Protection → Option Status) → Option Status
of_held_name who name s fileid ask = of_directory_inode (get s.own.inodes.inodes fileid) (λ directory.
    then_asks (needs (may_search who directory))
    (if is_no_child name then None else ask directory (protection_under s fileid name)))

-- RENAME: both directories are to be searched before anything is asked of the names
abbrev pub of_held_names : Credential → List ℕ → List ℕ → LogicalSet → ℕ → ℕ → Option Status
of_held_names who from_name to_name s from to =
    of_directory_inode (get s.own.inodes.inodes from) (λ source. of_directory_inode (get s.own.inodes.inodes to) (λ target.
    then_asks (needs (may_search who source))
    (then_asks (needs (may_search who target))
    (if is_no_child from_name || is_no_child to_name
    || are_one (fileid_found (entries_of s.own from) from_name) (fileid_found (entries_of s.own to) to_name) then None
    else move_asked who (from == to) source target (protection_under s from from_name) (protection_under s to to_name)))))

-- LINK: a new name, of what is there
abbrev pub link_asked : Credential → List ℕ → LogicalSet → ℕ → ℕ → Option Status
link_asked who name s fileid directory =
    of_inode (get s.own.inodes.inodes fileid) (λ object. of_held_name who name s directory (new_asked who))

-- ---- calls

-- a call on a fileid and, of RENAME and LINK, on another, by its procedure
abbrev pub asked_of : Credential → Call → LogicalSet → ℕ → ℕ → Option Status
asked_of who (Setattr handle set guard) s fileid other = of_inode (get s.own.inodes.inodes fileid) (set_refusal who set)
asked_of who (Lookup directory name) s fileid other =
    of_directory_inode (get s.own.inodes.inodes fileid) (λ directory. needs (may_search who directory))
asked_of who (Read handle offset count) s fileid other = of_file_inode (get s.own.inodes.inodes fileid) (λ file. needs (may_read who file))
asked_of who (Write handle offset count written) s fileid other = of_file_inode (get s.own.inodes.inodes fileid) (write_rights who)
asked_of who (Create directory name mode) s fileid other = of_held_name who name s fileid (create_asked who mode)
asked_of who (Mkdir directory name set) s fileid other = of_held_name who name s fileid (new_asked who)
asked_of who (Symlink directory name set text) s fileid other = of_held_name who name s fileid (new_asked who)
asked_of who (Mknod directory name kind set) s fileid other = of_held_name who name s fileid (mknod_asked who kind)
asked_of who (Remove directory name) s fileid other = of_held_name who name s fileid (gone_asked who)
asked_of who (Rmdir directory name) s fileid other = of_held_name who name s fileid (gone_asked who)
asked_of who (Rename from from_name to to_name) s fileid other = of_held_names who from_name to_name s fileid other
asked_of who (Link handle directory name) s fileid other = link_asked who name s fileid other
asked_of who (Readdir directory cookie verifier count) s fileid other =
    of_directory_inode (get s.own.inodes.inodes fileid) (λ directory. needs (may_list who directory))
asked_of who (Readdirplus directory cookie verifier names_count count) s fileid other =
    of_directory_inode (get s.own.inodes.inodes fileid) (λ directory. needs (may_list who directory))
asked_of who (Commit handle) s fileid other =
    of_file_inode (get s.own.inodes.inodes fileid) (λ file. needs (may_read who file || may_write who file))
asked_of who call s fileid other = None

-- what a caller is refused
abbrev pub refusal_held : Caller → Call → LogicalSet → ℕ → ℕ → Option Status
refusal_held caller call s fileid other = refusal_of caller (is_change call) (asked_of caller.credential call s fileid other)
