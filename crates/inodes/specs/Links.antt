-- Inodes that change, or get or lose a name, as nfs_model/specs/Serial/Links.antt has their nodes.
use Rattle.std.specs.Prelude.{ℕ, ◌+◌, ◌-◌, nat_le, Option, Some, None, if◌then◌else◌}
use Rattle.nfs_model.specs.Types.{Moment}
use Rattle.nfs_model.specs.Serial.Links.{most_links}
use Rattle.nfs_model.specs.volume.Inodes.{Inode, settled_inode}

-- a touch becomes the stored times, and ctime is set
abbrev pub inode_changed : Option Moment → Moment → Inode → Inode
inode_changed touch moment inode = record (settled_inode touch inode) {
  attributes = record (settled_inode touch inode).attributes { ctime = moment };
}

-- with another count of names
abbrev pub inode_linked : ℕ → Option Moment → Moment → Inode → Inode
inode_linked names touch moment inode = record (inode_changed touch moment inode) { names = names }

-- with one more name, if it has fewer than it may
abbrev pub inode_with_link : Option Moment → Moment → Inode → Option Inode
inode_with_link touch moment inode =
    if nat_le most_links inode.names then None else Some (inode_linked (inode.names + 1) touch moment inode)

-- without one of its names, if it has another
abbrev pub inode_without_link : Option Moment → Moment → Inode → Option Inode
inode_without_link touch moment inode =
    if nat_le inode.names 1 then None else Some (inode_linked (inode.names - 1) touch moment inode)
