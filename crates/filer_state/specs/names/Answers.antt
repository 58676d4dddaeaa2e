-- What LOOKUP, READLINK, READDIR, READDIRPLUS and COMMIT answer, and ACCESS, FSINFO and PATHCONF, by what is under Logical (RFC 1813
-- sections 3.3.3, 3.3.5, 3.3.16, 3.3.17, 3.3.21, 3.3.4, 3.3.19 and 3.3.20), and MNT below a root (RFC 1813 appendix I, section 5.2.1).
use Rattle.std.specs.Prelude.{ℕ, Bool, false, min, not, ◌&&◌, ◌==◌, List, [], ◌∷◌, replicate, Option, Some, None, if◌then◌else◌}
use Rattle.std.specs.Option.{option_map}
use Rattle.std.specs.FinMap.{get}
use Rattle.nfs_model.specs.Types.{Caller, Status, Shown, Listed, ListedPlus, Answer, LookupDone, AccessDone, FsinfoDone, PathconfDone}
use Rattle.nfs_model.specs.Types as types
use Rattle.nfs_model.specs.Types.{ReadlinkDone, CommitDone, MountDone, Failed, Stale, NotDirectory, NoEntry, BadCookie, Invalid}
use Rattle.nfs_model.specs.Types.{SpecialType, SymbolicLink, Fifo, Socket, BlockDevice, CharacterDevice}
use Rattle.nfs_model.specs.Server.{DirectoryNode, handle_bytes, most_bytes}
use Rattle.nfs_model.specs.Shown.{before_of}
use Rattle.nfs_model.specs.Names.{same_name, dot, dot_dot, name_fault}
use Rattle.nfs_model.specs.Serial.Access.{access_given}
use Rattle.nfs_model.specs.Serial.Readdir.{all_listed, above_cookie, readdir_from}
use Rattle.nfs_model.specs.Serial.Readdirplus.{listed_bare, readdirplus_from}
use Rattle.nfs_model.specs.Serial.MountBelow.{part_fault}
use Rattle.nfs_model.specs.Serial.Rights.{may_search, protected}
use Rattle.nfs_model.specs.Serial.Permission.{needs, refusal_of}
use Rattle.nfs_model.specs.volume.Directories.{DirectoryValue, fileid_found}
use Rattle.nfs_model.specs.volume.Inodes.{InodeKind, RegularFile, DirectoryKind, SpecialFile, Inode}
use Rattle.nfs_model.specs.volume.Logical.{LogicalValue}
use Rattle.filer_state.specs.state.Tree.{file_touch, directory_or_empty, text_or_empty}
use Rattle.filer_state.specs.state.Names.{parent_in}
use Rattle.filer_state.specs.state.Lenses.{LogicalSet}
use Rattle.filer_state.specs.state.Calls.{answer_of}
use Rattle.filer_state.specs.state.Changes.{shown_inode}

-- ---- a directory

-- where a node's kind has a parent, it is a directory
abbrev pub on_parent : Option ℕ → (ℕ → Answer) → Answer
on_parent None answer = Failed NotDirectory 1
on_parent (Some parent) answer = answer parent

-- What is asked of a directory is told by its inode and its parent; STALE, or NOTDIR for a file. A failure has one absent part,
-- the directory's attributes.
abbrev pub on_directory_inode : Option Inode → (Inode → ℕ → Answer) → Answer
on_directory_inode None answer = Failed Stale 1
on_directory_inode (Some inode) answer = on_parent (parent_in inode.kind) (answer inode)

-- the entries of a directory
abbrev pub entries_of : LogicalValue → ℕ → DirectoryValue
entries_of own fileid = directory_or_empty (get own.directories fileid)

-- ---- LOOKUP

-- the fileid that a name stands for in a directory: `.` is the directory, `..` its parent
abbrev pub fileid_named : ℕ → ℕ → DirectoryValue → List ℕ → Option ℕ
fileid_named fileid parent d name =
    if same_name name dot then Some fileid else if same_name name dot_dot then Some parent else fileid_found d name

-- what is told of the node that was found, with the directory's attributes; else NOENT
abbrev pub object_told : ℕ → LogicalSet → Shown → ℕ → Option Inode → Answer
object_told v s directory fileid None = Failed NoEntry 1
object_told v s directory fileid (Some inode) =
    LookupDone (handle_bytes v fileid) (shown_inode v fileid inode (file_touch s.stripes fileid)) directory

abbrev pub found_told : ℕ → LogicalSet → Shown → Option ℕ → Answer
found_told v s directory None = Failed NoEntry 1
found_told v s directory (Some fileid) = object_told v s directory fileid (get s.own.inodes.inodes fileid)

-- the first failure, or an answer
abbrev pub unless_fault : Option Status → Answer → Answer
unless_fault None answer = answer
unless_fault (Some status) answer = Failed status 1

abbrev pub lookup_answer : ℕ → ℕ → List ℕ → LogicalSet → Answer
lookup_answer v fileid name s = on_directory_inode (get s.own.inodes.inodes fileid) (λ inode parent.
    unless_fault (name_fault name)
    (found_told v s (shown_inode v fileid inode None) (fileid_named fileid parent (entries_of s.own fileid) name)))

-- ---- READDIR

-- a directory as calls see it, by its inode, its parent and its entries
abbrev pub directory_node : Inode → ℕ → DirectoryValue → DirectoryNode
directory_node inode parent d = record { attributes = inode.attributes; parent = parent; next = d.next; list = d.list }

-- a verifier is of our pages where it is zero
abbrev pub is_bad_cookie : ℕ → List ℕ → Bool
is_bad_cookie cookie verifier = not (cookie == 0) && not (same_name verifier (replicate 8 0))

abbrev pub readdir_answer : ℕ → ℕ → ℕ → List ℕ → ℕ → LogicalSet → Answer
readdir_answer v fileid cookie verifier count s = on_directory_inode (get s.own.inodes.inodes fileid) (λ inode parent.
    if is_bad_cookie cookie verifier then Failed BadCookie 1
    else answer_of 1 (readdir_from (min count most_bytes) (shown_inode v fileid inode None)
    (above_cookie cookie (all_listed fileid (directory_node inode parent (entries_of s.own fileid))))))

-- ---- COMMIT

-- the attributes of a file, which are the same before and after, with the verifier of writes; INVAL for a directory
abbrev pub file_committed : Shown → List ℕ → InodeKind → Answer
file_committed shown verifier (RegularFile size filled of_creation) =
    CommitDone (record { before = before_of shown; after = shown }) verifier
file_committed shown verifier kind = Failed Invalid 2

abbrev pub inode_committed : ℕ → ℕ → LogicalSet → Option Inode → Answer
inode_committed v fileid s None = Failed Stale 2
inode_committed v fileid s (Some inode) =
    file_committed (shown_inode v fileid inode (file_touch s.stripes fileid)) s.own.verifier inode.kind

abbrev pub commit_answer : ℕ → ℕ → LogicalSet → Answer
commit_answer v fileid s = inode_committed v fileid s (get s.own.inodes.inodes fileid)

-- ---- READLINK

-- the attributes of a symbolic link and its text; INVAL for what else is special
abbrev pub special_read : Shown → List ℕ → SpecialType → Answer
special_read shown text SymbolicLink = ReadlinkDone shown text
special_read shown text Fifo = Failed Invalid 1
special_read shown text Socket = Failed Invalid 1
special_read shown text (BlockDevice device) = Failed Invalid 1
special_read shown text (CharacterDevice device) = Failed Invalid 1

-- and INVAL for a file and a directory
abbrev pub link_read : Shown → List ℕ → InodeKind → Answer
link_read shown text (SpecialFile special size) = special_read shown text special
link_read shown text kind = Failed Invalid 1

abbrev pub inode_read : ℕ → ℕ → LogicalSet → Option Inode → Answer
inode_read v fileid s None = Failed Stale 1
inode_read v fileid s (Some inode) =
    link_read (shown_inode v fileid inode None) (text_or_empty (get s.own.texts fileid)) inode.kind

abbrev pub readlink_answer : ℕ → ℕ → LogicalSet → Answer
readlink_answer v fileid s = inode_read v fileid s (get s.own.inodes.inodes fileid)

-- ---- ACCESS, FSINFO and PATHCONF

-- the attributes of a node
abbrev pub object_in : ℕ → ℕ → LogicalSet → Option Shown
object_in v fileid s = option_map (λ inode. shown_inode v fileid inode (file_touch s.stripes fileid)) (get s.own.inodes.inodes fileid)

-- what is told by them, or STALE
abbrev pub object_told_by : (Shown → Answer) → Option Shown → Answer
object_told_by answer None = Failed Stale 1
object_told_by answer (Some object) = answer object

abbrev pub access_answer : ℕ → ℕ → ℕ → Caller → LogicalSet → Answer
access_answer v fileid asked caller s =
    object_told_by (λ object. AccessDone object (access_given caller asked object)) (object_in v fileid s)

abbrev pub fsinfo_answer : ℕ → ℕ → LogicalSet → Answer
fsinfo_answer v fileid s = object_told_by (λ object. FsinfoDone object s.own.largest) (object_in v fileid s)

abbrev pub pathconf_answer : ℕ → ℕ → Caller → LogicalSet → Answer
pathconf_answer v fileid caller s = object_told_by (λ object. PathconfDone object caller.checked) (object_in v fileid s)

-- ---- READDIRPLUS

-- what is told of an entry: with the attributes and the handle of its node
abbrev pub entry_told : ℕ → LogicalSet → Listed → ListedPlus
entry_told v s e = record { entry = e; attributes = object_in v e.fileid s; handle = Some (handle_bytes v e.fileid) }

-- what a caller is told of an entry: more than its name where it may search the directory
abbrev pub entry_for : Caller → ℕ → LogicalSet → Inode → Listed → ListedPlus
entry_for caller v s inode e =
    if caller.checked && not (may_search caller.credential (protected types.DirectoryKind inode.attributes)) then listed_bare e
    else entry_told v s e

abbrev pub readdirplus_answer : ℕ → ℕ → ℕ → List ℕ → ℕ → ℕ → Caller → LogicalSet → Answer
readdirplus_answer v fileid cookie verifier names_count count caller s = on_directory_inode (get s.own.inodes.inodes fileid) (λ inode parent.
    if is_bad_cookie cookie verifier then Failed BadCookie 1
    else answer_of 1 (readdirplus_from (min names_count most_bytes) (min count most_bytes) (entry_for caller v s inode) (shown_inode v fileid inode None)
    (above_cookie cookie (all_listed fileid (directory_node inode parent (entries_of s.own fileid))))))

-- ---- MNT below a root

-- an answer where there is a directory; STALE, or NOTDIR for a file
abbrev pub by_directory_kind : InodeKind → Answer → Answer
by_directory_kind (DirectoryKind parent subdirectories) answer = answer
by_directory_kind kind answer = Failed NotDirectory 0

abbrev pub in_directory : Option Inode → Answer → Answer
in_directory None answer = Failed Stale 0
in_directory (Some inode) answer = by_directory_kind inode.kind answer

-- the fault of a part, or an answer
abbrev pub unless_part_fault : Option Status → Answer → Answer
unless_part_fault None answer = answer
unless_part_fault (Some status) answer = Failed status 0

-- an answer on the fileid that was found, or NOENT
abbrev pub on_fileid : Option ℕ → (ℕ → Answer) → Answer
on_fileid None answer = Failed NoEntry 0
on_fileid (Some fileid) answer = answer fileid

-- ACCES where a caller may not search a directory
abbrev pub search_fault : Caller → Inode → Option Status
search_fault caller inode =
    refusal_of caller false (needs (may_search caller.credential (protected types.DirectoryKind inode.attributes)))

-- an answer in a directory that the caller may search
abbrev pub in_searched : Caller → Option Inode → Answer → Answer
in_searched caller None answer = Failed Stale 0
in_searched caller (Some inode) answer = by_directory_kind inode.kind (unless_part_fault (search_fault caller inode) answer)

-- an answer on what a part is in a directory
abbrev pub on_part : Caller → LogicalSet → ℕ → List ℕ → (ℕ → Answer) → Answer
on_part caller s fileid part answer =
    in_searched caller (get s.own.inodes.inodes fileid)
    (unless_part_fault (part_fault part) (on_fileid (fileid_found (entries_of s.own fileid) part) answer))

abbrev pub mount_answer : ℕ → List (List ℕ) → Caller → LogicalSet → ℕ → Answer
mount_answer v [] caller s fileid = in_directory (get s.own.inodes.inodes fileid) (MountDone (handle_bytes v fileid))
mount_answer v (part ∷ parts) caller s fileid = on_part caller s fileid part (mount_answer v parts caller s)
