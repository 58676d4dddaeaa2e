-- Which calls are refused by the owner, the groups and the mode of objects, and which since their caller may change nothing (RFC 1813
-- section 2.5: ACCES, PERM and ROFS). What isn't refused here goes on, and its procedure tells what else is wrong with it: so STALE,
-- NOTDIR and ISDIR, and what is wrong with a name, aren't told here.
use Rattle.std.specs.Prelude.{ℕ, Bool, true, false, not, ◌&&◌, ◌||◌, ◌==◌, List, Option, Some, None, is_some, is_none, if◌then◌else◌}
use Rattle.std.specs.FinMap.{get}
use Rattle.nfs_model.specs.Types.{Credential, Caller, SetTime, Keep, ServerTime, ClientTime, SetAttributes}
use Rattle.nfs_model.specs.Types.{CreateMode, Unchecked, Status, Access, NotPermitted, ReadOnly}
use Rattle.nfs_model.specs.Types.{Kind, SpecialKind, BlockDevice, CharacterDevice}
use Rattle.nfs_model.specs.Types.{Call, Setattr, Lookup, Read, Write, Create, Mkdir, Symlink, Mknod, Remove, Rmdir, Rename, Link, Readdir}
use Rattle.nfs_model.specs.Types.{Readdirplus, Commit}
use Rattle.nfs_model.specs.Server.{DirectoryNode, Node, File, Directory, Special, VolumeState}
use Rattle.nfs_model.specs.Names.{is_dots, name_fault, find_name}
use Rattle.nfs_model.specs.Locate.{Effect, unless, Found, child, is_node_of}
use Rattle.nfs_model.specs.Serial.Rights.{Protection, protection, is_in_group, may_read, may_write, may_search, may_list}
use Rattle.nfs_model.specs.Serial.Rights.{may_change, may_drop, rights_of}

-- ---- refusals

-- ACCES where a right is missing
abbrev pub needs : Bool → Option Status
needs true = None
needs false = Some Access

-- PERM where something is for the owner, or for uid 0
abbrev pub reserved : Bool → Option Status
reserved true = None
reserved false = Some NotPermitted

-- the first refusal, or the next one
abbrev pub then_asks : Option Status → Option Status → Option Status
then_asks None next = next
then_asks (Some status) next = Some status

-- asked of a node that is there
abbrev pub of_node : Option Node → (Protection → Option Status) → Option Status
of_node None ask = None
of_node (Some node) ask = ask (protection node)

-- asked of a file
abbrev pub of_file : Option Node → (Protection → Option Status) → Option Status
of_file None ask = None
of_file (Some (File f)) ask = ask (protection (File f))
of_file (Some (Directory d)) ask = None
of_file (Some (Special s)) ask = None

-- asked of a directory
abbrev pub of_directory : Option Node → (DirectoryNode → Option Status) → Option Status
of_directory None ask = None
of_directory (Some (File f)) ask = None
of_directory (Some (Directory d)) ask = ask d
of_directory (Some (Special s)) ask = None

-- ---- attributes

abbrev pub is_client_time : SetTime → Bool
is_client_time Keep = false
is_client_time ServerTime = false
is_client_time (ClientTime t) = true

-- a number that is given, if it is, is this one
abbrev pub is_kept : Option ℕ → ℕ → Bool
is_kept None old = true
is_kept (Some n) old = n == old

-- a group that is given, if it is, is one of the caller's, or this one
abbrev pub is_own_group : Credential → Option ℕ → ℕ → Bool
is_own_group who None old = true
is_own_group who (Some gid) old = is_in_group who gid || (gid == old)

-- the mode, the owner, the group, or a time that the client gives
abbrev pub sets_owned : SetAttributes → Bool
sets_owned set =
    is_some set.mode || is_some set.uid || is_some set.gid || is_client_time set.atime || is_client_time set.mtime

-- SETATTR (RFC 1813 section 3.3.2) by another than uid 0: mode, owner, group and times of the client are for the owner, who keeps its uid
-- and gives one of its own groups; the rest, a size or times of the server, needs w
abbrev pub set_refusal : Credential → SetAttributes → Protection → Option Status
set_refusal who set object =
    if who.uid == 0 then None
    else then_asks (reserved (not (sets_owned set) || (who.uid == object.uid)))
    (then_asks (reserved (is_kept set.uid object.uid && is_own_group who set.gid object.gid))
    (needs (may_write who object)))

-- ---- names

-- a name that no entry has: a bad one, `.` or `..`
abbrev pub is_no_child : List ℕ → Bool
is_no_child name = is_some (name_fault name) || is_dots name

-- asked of a name in a directory, once this may be searched
abbrev pub of_name : Credential → List ℕ → VolumeState → ℕ → (Protection → Option Found → Option Status) → Option Status
of_name who name volume fileid ask = of_directory (get volume.nodes fileid) (λ d.
    then_asks (needs (may_search who (protection (Directory d))))
    (if is_no_child name then None
    else ask (protection (Directory d)) (child volume (find_name name d.list))))

-- a new name: nothing is asked where it is there, which its procedure tells
abbrev pub new_refusal : Credential → Protection → Option Found → Option Status
new_refusal who directory None = needs (may_change who directory)
new_refusal who directory (Some found) = None

-- a device is for uid 0 to make (POSIX, mknod)
abbrev pub is_device : Kind → Bool
is_device (SpecialKind (BlockDevice device)) = true
is_device (SpecialKind (CharacterDevice device)) = true
is_device kind = false

-- MKNOD (section 3.3.11)
abbrev pub mknod_refusal : Credential → Kind → Protection → Option Found → Option Status
mknod_refusal who kind directory None =
    then_asks (new_refusal who directory None) (reserved (not (is_device kind) || (who.uid == 0)))
mknod_refusal who kind directory (Some found) = None

-- UNCHECKED over a file that is there sets the size alone
abbrev pub over_refusal : Credential → CreateMode → Node → Option Status
over_refusal who (Unchecked set) (File f) = needs (is_none set.size || may_write who (protection (File f)))
over_refusal who mode node = None

-- CREATE (section 3.3.8)
abbrev pub create_refusal : Credential → CreateMode → Protection → Option Found → Option Status
create_refusal who mode directory None = new_refusal who directory None
create_refusal who mode directory (Some found) = over_refusal who mode found.node

-- a name that goes
abbrev pub gone_refusal : Credential → Protection → Option Found → Option Status
gone_refusal who directory None = None
gone_refusal who directory (Some found) =
    then_asks (needs (may_change who directory)) (needs (may_drop who directory (protection found.node)))

-- a name that another takes the place of, or a new one
abbrev pub target_refusal : Credential → Protection → Option Found → Option Status
target_refusal who directory None = needs (may_change who directory)
target_refusal who directory (Some found) = gone_refusal who directory (Some found)

-- a directory that comes into another one needs w, since its `..` changes
abbrev pub moved_refusal : Credential → Bool → Node → Option Status
moved_refusal who stays (File f) = None
moved_refusal who stays (Directory d) = needs (stays || (rights_of who (protection (Directory d))).writes)
moved_refusal who stays (Special s) = None

-- what moves: its name goes, the other comes; nothing where both names are of one node
abbrev pub move_refusal : Credential → Bool → Protection → Protection → Option Found → Option Found → Option Status
move_refusal who stays from to None target = None
move_refusal who stays from to (Some found) target =
    if is_node_of found.fileid target then None
    else then_asks (gone_refusal who from (Some found))
    (then_asks (target_refusal who to target) (moved_refusal who stays found.node))

-- RENAME (section 3.3.14): both directories are to be searched before anything is asked of the names
abbrev pub rename_refusal : Credential → List ℕ → List ℕ → VolumeState → ℕ → ℕ → Option Status
rename_refusal who from_name to_name volume from to =
    of_directory (get volume.nodes from) (λ d. of_directory (get volume.nodes to) (λ e.
    then_asks (needs (may_search who (protection (Directory d))))
    (then_asks (needs (may_search who (protection (Directory e))))
    (if is_no_child from_name || is_no_child to_name then None
    else move_refusal who (from == to) (protection (Directory d)) (protection (Directory e))
    (child volume (find_name from_name d.list)) (child volume (find_name to_name e.list))))))

-- LINK (section 3.3.15): a new name, of what is there
abbrev pub link_refusal : Credential → List ℕ → VolumeState → ℕ → ℕ → Option Status
link_refusal who name volume fileid directory =
    of_node (get volume.nodes fileid) (λ object. of_name who name volume directory (new_refusal who))

-- ---- calls

-- a call that changes what it is on
abbrev pub is_change : Call → Bool
is_change (Setattr handle set guard) = true
is_change (Write handle offset count written) = true
is_change (Create directory name mode) = true
is_change (Mkdir directory name set) = true
is_change (Symlink directory name set text) = true
is_change (Mknod directory name kind set) = true
is_change (Remove directory name) = true
is_change (Rmdir directory name) = true
is_change (Rename from from_name to to_name) = true
is_change (Link handle directory name) = true
is_change call = false

-- WRITE to a file
abbrev pub write_rights : Credential → Protection → Option Status
write_rights who file = needs (may_write who file)

-- A call on a node and, of RENAME and LINK, on another, by its procedure. GETATTR, READLINK, ACCESS, FSSTAT, FSINFO and PATHCONF need no
-- right.
abbrev pub refusal_by : Credential → Call → VolumeState → ℕ → ℕ → Option Status
refusal_by who (Setattr handle set guard) volume fileid other = of_node (get volume.nodes fileid) (set_refusal who set)
refusal_by who (Lookup directory name) volume fileid other =
    of_directory (get volume.nodes fileid) (λ d. needs (may_search who (protection (Directory d))))
refusal_by who (Read handle offset count) volume fileid other =
    of_file (get volume.nodes fileid) (λ file. needs (may_read who file))
refusal_by who (Write handle offset count written) volume fileid other = of_file (get volume.nodes fileid) (write_rights who)
refusal_by who (Create directory name mode) volume fileid other = of_name who name volume fileid (create_refusal who mode)
refusal_by who (Mkdir directory name set) volume fileid other = of_name who name volume fileid (new_refusal who)
refusal_by who (Symlink directory name set text) volume fileid other = of_name who name volume fileid (new_refusal who)
refusal_by who (Mknod directory name kind set) volume fileid other = of_name who name volume fileid (mknod_refusal who kind)
refusal_by who (Remove directory name) volume fileid other = of_name who name volume fileid (gone_refusal who)
refusal_by who (Rmdir directory name) volume fileid other = of_name who name volume fileid (gone_refusal who)
refusal_by who (Rename from from_name to to_name) volume fileid other = rename_refusal who from_name to_name volume fileid other
refusal_by who (Link handle directory name) volume fileid other = link_refusal who name volume fileid other
refusal_by who (Readdir directory cookie verifier count) volume fileid other =
    of_directory (get volume.nodes fileid) (λ d. needs (may_list who (protection (Directory d))))
refusal_by who (Readdirplus directory cookie verifier names_count count) volume fileid other =
    of_directory (get volume.nodes fileid) (λ d. needs (may_list who (protection (Directory d))))
refusal_by who (Commit handle) volume fileid other =
    of_file (get volume.nodes fileid) (λ file. needs (may_read who file || may_write who file))
refusal_by who call volume fileid other = None

-- what of a caller is asked first: whether it may change anything; then its rights, if it is checked
abbrev pub refusal_of : Caller → Bool → Option Status → Option Status
refusal_of caller changes rights =
    if caller.reads_only && changes then Some ReadOnly else if caller.checked then rights else None

-- a call on a node and another
abbrev pub refusal : Caller → Call → VolumeState → ℕ → ℕ → Option Status
refusal caller call volume fileid other =
    refusal_of caller (is_change call) (refusal_by caller.credential call volume fileid other)

-- WRITE to a file
abbrev pub write_refusal : Caller → Protection → Option Status
write_refusal caller file = refusal_of caller true (write_rights caller.credential file)

-- what a call on one node comes to, if it is permitted
abbrev pub permitted : Caller → Call → (VolumeState → ℕ → Effect) → VolumeState → ℕ → Effect
permitted caller call run volume fileid = unless (refusal caller call volume fileid 0) (run volume fileid)

-- and RENAME and LINK, which are on two
abbrev pub permitted_two : Caller → Call → (VolumeState → ℕ → ℕ → Effect) → VolumeState → ℕ → ℕ → Effect
permitted_two caller call run volume from to = unless (refusal caller call volume from to) (run volume from to)
