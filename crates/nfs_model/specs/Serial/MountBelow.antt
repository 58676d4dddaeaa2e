-- MNT of a directory below the root of a volume (RFC 1813 appendix I, section 5.2.1; which paths, our profile):
-- the parts of its path below the volume's are looked up from the root on, as LOOKUP does, one after the other.
use Rattle.std.specs.Prelude.{ℕ, false, List, [], ◌∷◌, Option, Some, None, if◌then◌else◌}
use Rattle.std.specs.FinMap.{get}
use Rattle.nfs_model.specs.Types.{Caller, Status, Access, NoEntry, MountDone, Listed}
use Rattle.nfs_model.specs.Server.{DirectoryNode, Directory, VolumeState, handle_bytes}
use Rattle.nfs_model.specs.Names.{same_name, dot_dot, name_fault, find_name}
use Rattle.nfs_model.specs.Locate.{Effect, Fails, Tells, unless, on_directory}
use Rattle.nfs_model.specs.Serial.Rights.{protection, may_search}
use Rattle.nfs_model.specs.Serial.Permission.{needs, refusal_of}

-- what is wrong with a part: ACCES for `..` and for one with byte 0, NAMETOOLONG for one above 255 bytes
abbrev pub part_fault : List ℕ → Option Status
part_fault part = if same_name part dot_dot then Some Access else name_fault part

-- what an entry is, if it is there; else NOENT
abbrev pub on_entry : Option Listed → (ℕ → Effect) → Effect
on_entry None run = Fails NoEntry
on_entry (Some e) run = run e.fileid

-- a directory on the way is searched, as by LOOKUP
abbrev pub search_refusal : Caller → DirectoryNode → Option Status
search_refusal caller d = refusal_of caller false (needs (may_search caller.credential (protection (Directory d))))

-- The handle of the directory to which these parts lead from a node: NOTDIR where one on the way, or the last, is
-- none, as a symbolic link; ACCES where one on the way may not be searched.
abbrev pub mount_below : List (List ℕ) → Caller → VolumeState → ℕ → Effect
mount_below [] caller volume fileid =
    on_directory (get volume.nodes fileid) (λ d. Tells (MountDone (handle_bytes volume.number fileid)))
mount_below (part ∷ parts) caller volume fileid = on_directory (get volume.nodes fileid) (λ d.
    unless (search_refusal caller d)
    (unless (part_fault part) (on_entry (find_name part d.list) (mount_below parts caller volume))))
