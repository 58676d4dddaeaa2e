-- How many names a node has (nlink of fattr3, RFC 1813 section 2.6): LINK gives it one more, REMOVE and RENAME take one, and with its last
-- name it goes. A directory has one name, but for the root, and links that are counted otherwise (`shown`).
use Rattle.std.specs.Prelude.{ℕ, ◌+◌, ◌-◌, nat_le, Option, Some, None, if◌then◌else◌}
use Rattle.std.specs.Ordering.{nat_cmp}
use Rattle.std.specs.FinMap.{FinMap, insert, remove}
use Rattle.nfs_model.specs.Types.{Moment}
use Rattle.nfs_model.specs.Server.{FileNode, SpecialNode, Node, File, Directory, Special}
use Rattle.nfs_model.specs.Shown.{settled}

-- PATHCONF's linkmax (RFC 1813 section 3.3.20), of what isn't a directory (our profile)
abbrev pub most_links : ℕ
most_links = 65000

-- a file settles, and ctime is set
abbrev pub changed_file : Moment → FileNode → FileNode
changed_file moment f = record (settled f) { attributes = record (settled f).attributes { ctime = moment } }

abbrev pub changed_special : Moment → SpecialNode → SpecialNode
changed_special moment s = record s { attributes = record s.attributes { ctime = moment } }

-- with another count of names
abbrev pub linked_file : ℕ → Moment → FileNode → FileNode
linked_file links moment f = record (changed_file moment f) { links = links }

abbrev pub linked_special : ℕ → Moment → SpecialNode → SpecialNode
linked_special links moment s = record (changed_special moment s) { links = links }

-- a node with one more name; of a directory there is none
abbrev pub with_link : Moment → Node → Node
with_link moment (File f) = File (linked_file (f.links + 1) moment f)
with_link moment (Directory d) = Directory d
with_link moment (Special s) = Special (linked_special (s.links + 1) moment s)

-- a node without one of its names, if it has another
abbrev pub without_link : Moment → Node → Option Node
without_link moment (File f) = if nat_le f.links 1 then None else Some (File (linked_file (f.links - 1) moment f))
without_link moment (Directory d) = None
without_link moment (Special s) = if nat_le s.links 1 then None else Some (Special (linked_special (s.links - 1) moment s))

-- nodes where that of a fileid is so now, or is gone
abbrev pub node_left : FinMap nat_cmp Node → ℕ → Option Node → FinMap nat_cmp Node
node_left nodes fileid None = remove nodes fileid
node_left nodes fileid (Some node) = insert nodes fileid node
