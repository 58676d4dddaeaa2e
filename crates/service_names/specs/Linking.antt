-- What LINK and READLINK take, and tell.
use Rattle.std.specs.Prelude.{◌≡◌, ℕ, ◌<◌, ◌≤◌, ◌^◌, ◌==◌, Bool, true, false, List, Some, None}
use Rattle.std.specs.FinMap.{get}
use Rattle.nfs_model.specs.Types.{Shown, Wcc, Answer, LinkDone, ReadlinkDone}
use Rattle.nfs_model.specs.Types.{SpecialType, SymbolicLink, Fifo, Socket, BlockDevice, CharacterDevice}
use Rattle.nfs_model.specs.Serial.Links.{most_links}
use Rattle.nfs_model.specs.volume.Directories.{found}
use Rattle.nfs_model.specs.volume.Inodes.{InodeKind, SpecialFile}
use Rattle.filer_state.specs.state.Names.{parent_in}
use Rattle.service_names.specs.Shown.{HasFewLinks}
use Rattle.filer_state.specs.changes.Named.{HeldNaming, HeldNode}

-- What giving a node a name takes: there are no more stripes than places and no more blocks used than any volume has; the directory is
-- there, has room for one more cookie, and doesn't have the name; the node isn't a directory, and may have one more name.
pub record MayBeLinked (n : HeldNaming) (object : HeldNode) : Type 0 where
  pub few : n.set.own.stripes ≤ 16
  pub used : n.set.own.inodes.used < 2 ^ 62
  pub entered : get n.set.own.directories n.fileid ≡ Some n.entries
  pub cookies : n.entries.next < 2 ^ 63
  pub absent : found n.entries n.name ≡ None
  pub links : HasFewLinks n.inode.kind
  pub object_links : HasFewLinks object.inode.kind
  pub no_directory : parent_in object.inode.kind ≡ None
  pub few_names : object.inode.names < most_links
  pub apart : (n.fileid == object.fileid) ≡ false

-- an answer tells that a node has one more name
abbrev pub LinksOne : Answer → Type 0
LinksOne answer = (object : Shown) × (directory : Wcc) × (answer ≡ LinkDone object directory)

-- an answer tells a text
abbrev pub TellsText : Answer → Type 0
TellsText answer = (object : Shown) × (text : List ℕ) × (answer ≡ ReadlinkDone object text)

-- whether a special node is a symbolic link
abbrev pub is_link : SpecialType → Bool
is_link SymbolicLink = true
is_link Fifo = false
is_link Socket = false
is_link (BlockDevice device) = false
is_link (CharacterDevice device) = false

-- whether a node of a kind is one
abbrev pub is_symbolic : InodeKind → Bool
is_symbolic (SpecialFile special size) = is_link special
is_symbolic kind = false
