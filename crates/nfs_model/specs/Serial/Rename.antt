-- RENAME (RFC 1813 section 3.3.14), inside one volume.
use Rattle.std.specs.Prelude.{ℕ, zero, suc, Bool, true, false, not, ◌&&◌, ◌||◌, ◌==◌, List, [], ◌∷◌, Option}
use Rattle.std.specs.Prelude.{Some, None, is_some, is_none, if◌then◌else◌}
use Rattle.std.specs.Ordering.{nat_cmp}
use Rattle.std.specs.FinMap.{FinMap, get, insert}
use Rattle.nfs_model.specs.Types.{Moment, Listed, RenameDone, Status, NoEntry, Invalid, Exists, NameTooLong, Wcc}
use Rattle.nfs_model.specs.Server.{DirectoryNode, Node, File, Directory, Special, VolumeState}
use Rattle.nfs_model.specs.Shown.{wcc}
use Rattle.nfs_model.specs.Names.{is_dots, name_fault, dropped_name, with_name}
use Rattle.nfs_model.specs.Locate.{Effect, Fails, Tells, Changes, unless, on_directory, Found, Naming}
use Rattle.nfs_model.specs.Locate.{is_node_of, named_child}
use Rattle.nfs_model.specs.Serial.Links.{changed_file, changed_special, without_link, node_left}

-- two names of a volume's directories, which may be one directory; both have the call's moment
pub record Renaming : Type 0 where
  pub from : Naming
  pub to : Naming

-- ---- a directory below itself

-- the way up from a directory: it ends at the root past a target, it meets the target, or it isn't
-- followed to its end
pub data Climb : Type 0 where
  PastIt : Climb
  ToIt : Climb
  TooFar : Climb

-- the parent of a directory that isn't its own
abbrev pub parent_above : ℕ → Option Node → Option ℕ
parent_above fileid None = None
parent_above fileid (Some (File f)) = None
parent_above fileid (Some (Directory d)) = if d.parent == fileid then None else Some d.parent
parent_above fileid (Some (Special s)) = None

-- the way on from that parent; where there is none it is at its end
abbrev pub on_parent : Option ℕ → (ℕ → Climb) → Climb
on_parent None climb = PastIt
on_parent (Some parent) climb = climb parent

-- What is met on the way up to a target, where the parents of at most this many directories are looked
-- at. Parents lead to the root, and its own parent, which is itself, ends the way.
abbrev pub climb : ℕ → VolumeState → ℕ → ℕ → Climb
climb zero volume target fileid = if fileid == target then ToIt else TooFar
climb (suc n) volume target fileid =
    if fileid == target then ToIt
    else on_parent (parent_above fileid (get volume.nodes fileid)) (climb n volume target)

-- What is met above the directory into which a node comes. Where it stays in its directory nothing is
-- asked, and what isn't a directory is above nothing.
abbrev pub met_above : Renaming → ℕ → Node → Climb
met_above r fileid (File f) = PastIt
met_above r fileid (Directory d) =
    if r.from.fileid == r.to.fileid then PastIt
    else climb r.from.volume.most_steps r.from.volume fileid r.to.fileid
met_above r fileid (Special s) = PastIt

-- what is wrong with it: a directory would come into itself or below itself, or so deep that it isn't
-- known (our profile)
abbrev pub climb_fault : Climb → Option Status
climb_fault PastIt = None
climb_fault ToIt = Some Invalid
climb_fault TooFar = Some NameTooLong

-- ---- the target

-- a directory has no entry
abbrev pub is_empty_list : List Listed → Bool
is_empty_list [] = true
is_empty_list (e ∷ es) = false

-- a node that is a directory
abbrev pub directory_in : Node → Option DirectoryNode
directory_in (File f) = None
directory_in (Directory d) = Some d
directory_in (Special s) = None

-- a node may take another's place: both aren't directories, or both are and the other is empty
abbrev pub may_replace : Node → Node → Bool
may_replace moved (File f) = is_none (directory_in moved)
may_replace moved (Directory d) = is_some (directory_in moved) && is_empty_list d.list
may_replace moved (Special s) = is_none (directory_in moved)

-- the target may go, if there is one
abbrev pub may_go : Node → Option Found → Bool
may_go moved None = true
may_go moved (Some target) = may_replace moved target.node

-- ---- the nodes of the volume, changed one step after another

abbrev pub Nodes : Type 0
Nodes = FinMap nat_cmp Node

-- a change of the node of a fileid, if it is there
abbrev pub changed_node : (Node → Node) → ℕ → Option Node → Nodes → Nodes
changed_node change fileid None nodes = nodes
changed_node change fileid (Some node) nodes = insert nodes fileid (change node)

-- a change of a node, of directories alone
abbrev pub in_directory : (DirectoryNode → DirectoryNode) → Node → Node
in_directory change (File f) = File f
in_directory change (Directory d) = Directory (change d)
in_directory change (Special s) = Special s

-- the entry of a name leaves its directory
abbrev pub without_entry : Naming → Nodes → Nodes
without_entry n nodes =
    changed_node (in_directory (λ d. dropped_name d n.name n.moment)) n.fileid (get nodes n.fileid) nodes

-- an entry for a node comes into the directory of a name
abbrev pub with_entry : Naming → ℕ → Nodes → Nodes
with_entry n child nodes =
    changed_node (in_directory (λ d. with_name d n.name child n.moment)) n.fileid (get nodes n.fileid) nodes

-- the target loses its entry, and goes if that is its last
abbrev pub without_target : Naming → Option Found → Nodes → Nodes
without_target to None nodes = nodes
without_target to (Some target) nodes =
    without_entry to (node_left nodes target.fileid (without_link to.moment target.node))

-- a file settles, a directory gets its new parent; ctime is set
abbrev pub moved_node : ℕ → Moment → Node → Node
moved_node parent moment (File f) = File (changed_file moment f)
moved_node parent moment (Directory d) =
    Directory (record d { parent = parent; attributes = record d.attributes { ctime = moment } })
moved_node parent moment (Special s) = Special (changed_special moment s)

-- the node that moves is below the directory of to
abbrev pub with_moved : Naming → ℕ → Nodes → Nodes
with_moved to child nodes = changed_node (moved_node to.fileid to.moment) child (get nodes child) nodes

-- the target goes, the entry of from goes, that of to comes, the node moves
abbrev pub renamed_nodes : Renaming → ℕ → Option Found → Nodes → Nodes
renamed_nodes r child target nodes =
    with_moved r.to child (with_entry r.to child (without_entry r.from (without_target r.to target nodes)))

-- the volume after the call
abbrev pub renamed_volume : Renaming → ℕ → Option Found → VolumeState
renamed_volume r child target =
    record r.from.volume { nodes = renamed_nodes r child target r.from.volume.nodes }

-- ---- the answer

-- a node, or the one before
abbrev pub node_or : Option Node → Node → Node
node_or None before = before
node_or (Some node) before = node

-- the directory of a name, before the call and in the volume after it
abbrev pub directory_change : Naming → VolumeState → Wcc
directory_change n new =
    wcc n.volume n.fileid (Directory n.directory) new
    (node_or (get new.nodes n.fileid) (Directory n.directory))

-- both directories, where the volume is so after the call
abbrev pub rename_told : Renaming → VolumeState → Effect
rename_told r new = Changes (RenameDone (directory_change r.from new) (directory_change r.to new)) new

-- both names are of one node: OK, and nothing changes
abbrev pub same_told : Renaming → Effect
same_told r = Tells (RenameDone (directory_change r.from r.from.volume) (directory_change r.to r.to.volume))

-- ---- the procedure

-- NOENT, two names of one node, INVAL for a directory below itself, NAMETOOLONG for one that comes too deep, EXIST
-- for a target that may not go
abbrev pub rename_at : Renaming → Option Found → Option Found → Effect
rename_at r None target = Fails NoEntry
rename_at r (Some found) target =
    if is_node_of found.fileid target then same_told r
    else unless (climb_fault (met_above r found.fileid found.node))
    (if not (may_go found.node target) then Fails Exists
    else rename_told r (renamed_volume r found.fileid target))

-- the names of from and of to, INVAL for `.` and `..` in either
abbrev pub rename_in : Renaming → Effect
rename_in r =
    unless (name_fault r.from.name)
    (unless (name_fault r.to.name)
    (if is_dots r.from.name || is_dots r.to.name then Fails Invalid
    else rename_at r (named_child r.from) (named_child r.to)))

-- STALE and NOTDIR of from's directory, then of to's
abbrev pub rename : List ℕ → List ℕ → Moment → VolumeState → ℕ → ℕ → Effect
rename from_name to_name moment volume from_id to_id =
    on_directory (get volume.nodes from_id) (λ d. on_directory (get volume.nodes to_id) (λ e.
    rename_in (record {
      from = record { volume = volume; fileid = from_id; directory = d; name = from_name; moment = moment };
      to = record { volume = volume; fileid = to_id; directory = e; name = to_name; moment = moment };
    })))
