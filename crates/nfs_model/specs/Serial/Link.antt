-- LINK (RFC 1813 section 3.3.15), inside one volume. A symbolic link may have more names too.
use Rattle.std.specs.Prelude.{ℕ, nat_le, List, Option, Some, None, if◌then◌else◌}
use Rattle.std.specs.FinMap.{get, insert}
use Rattle.nfs_model.specs.Types.{Moment, LinkDone, Status, Exists, Invalid, TooManyLinks}
use Rattle.nfs_model.specs.Server.{Node, File, Directory, Special, VolumeState}
use Rattle.nfs_model.specs.Shown.{shown, wcc}
use Rattle.nfs_model.specs.Names.{is_dots, with_name}
use Rattle.nfs_model.specs.Locate.{Effect, Fails, Changes, unless, on_node, on_name, Found, Naming, named_child}
use Rattle.nfs_model.specs.Serial.Links.{most_links, with_link}

-- a directory has one name
abbrev pub directory_fault : Node → Option Status
directory_fault (File f) = None
directory_fault (Directory d) = Some Invalid
directory_fault (Special s) = None

-- MLINK for what has all the names that it may have
abbrev pub links_fault : Node → Option Status
links_fault (File f) = if nat_le most_links f.links then Some TooManyLinks else None
links_fault (Directory d) = None
links_fault (Special s) = if nat_le most_links s.links then Some TooManyLinks else None

-- the directory with the name, which stands for a fileid
abbrev pub directory_linked : Naming → ℕ → Node
directory_linked n fileid = Directory (with_name n.directory n.name fileid n.moment)

-- the volume with one more name of a node
abbrev pub with_another : Naming → Found → VolumeState
with_another n found = record n.volume {
  nodes = insert (insert n.volume.nodes found.fileid (with_link n.moment found.node)) n.fileid (directory_linked n found.fileid);
}

-- the node, and the directory before and after
abbrev pub linked : Naming → Found → Effect
linked n found =
    Changes
    (LinkDone (shown (with_another n found) found.fileid (with_link n.moment found.node))
    (wcc n.volume n.fileid (Directory n.directory) (with_another n found) (directory_linked n found.fileid)))
    (with_another n found)

-- by whether the name is there
abbrev pub link_at : Found → Naming → Option Found → Effect
link_at object n (Some found) = Fails Exists
link_at object n None = unless (links_fault object.node) (linked n object)

-- on a good name: EXIST for `.` and `..`
abbrev pub link_name : Found → Naming → Effect
link_name object n = if is_dots n.name then Fails Exists else link_at object n (named_child n)

-- of the object: STALE, INVAL for a directory; then of the directory and its name
abbrev pub link : List ℕ → Moment → VolumeState → ℕ → ℕ → Effect
link name moment volume fileid directory = on_node (get volume.nodes fileid) (λ node.
    unless (directory_fault node)
    (on_name name moment (link_name (record { fileid = fileid; node = node })) volume directory))
