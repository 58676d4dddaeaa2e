-- REMOVE (RFC 1813 section 3.3.12). With its last name an object is gone at once (our profile).
use Rattle.std.specs.Prelude.{Option, Some, None, if◌then◌else◌}
use Rattle.std.specs.FinMap.{insert}
use Rattle.nfs_model.specs.Types.{GoneDone, NoEntry, Invalid, IsDirectory}
use Rattle.nfs_model.specs.Server.{Node, File, Directory, Special, VolumeState}
use Rattle.nfs_model.specs.Shown.{wcc}
use Rattle.nfs_model.specs.Names.{is_dots, dropped_name}
use Rattle.nfs_model.specs.Locate.{Effect, Fails, Changes, Found, Naming, named_child}
use Rattle.nfs_model.specs.Serial.Links.{without_link, node_left}

-- the directory without the name
abbrev pub directory_left : Naming → Node
directory_left n = Directory (dropped_name n.directory n.name n.moment)

-- the volume without the name of what was found
abbrev pub without_child : Naming → Found → VolumeState
without_child n found = record n.volume {
  nodes = insert (node_left n.volume.nodes found.fileid (without_link n.moment found.node)) n.fileid (directory_left n);
}

-- a name gone
abbrev pub gone : Naming → Found → Effect
gone n found =
    Changes
    (GoneDone (wcc n.volume n.fileid (Directory n.directory) (without_child n found) (directory_left n)))
    (without_child n found)

-- a directory is ISDIR
abbrev pub remove_found : Naming → Found → Node → Effect
remove_found n found (File f) = gone n found
remove_found n found (Directory d) = Fails IsDirectory
remove_found n found (Special s) = gone n found

-- by whether the name is there
abbrev pub remove_at : Naming → Option Found → Effect
remove_at n None = Fails NoEntry
remove_at n (Some found) = remove_found n found found.node

-- on a good name: INVAL for `.` and `..`
abbrev pub remove_name : Naming → Effect
remove_name n = if is_dots n.name then Fails Invalid else remove_at n (named_child n)
