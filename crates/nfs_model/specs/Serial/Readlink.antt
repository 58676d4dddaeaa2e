-- READLINK (RFC 1813 section 3.3.5).
use Rattle.std.specs.Prelude.{ℕ}
use Rattle.std.specs.FinMap.{get}
use Rattle.nfs_model.specs.Types.{SpecialType, SymbolicLink, Fifo, Socket, BlockDevice, CharacterDevice, Invalid, ReadlinkDone}
use Rattle.nfs_model.specs.Server.{SpecialNode, Node, File, Directory, Special, VolumeState}
use Rattle.nfs_model.specs.Shown.{shown}
use Rattle.nfs_model.specs.Locate.{Effect, Fails, Tells, on_node}

-- only a symbolic link has a text
abbrev pub if_symbolic : SpecialType → Effect → Effect
if_symbolic SymbolicLink effect = effect
if_symbolic Fifo effect = Fails Invalid
if_symbolic Socket effect = Fails Invalid
if_symbolic (BlockDevice device) effect = Fails Invalid
if_symbolic (CharacterDevice device) effect = Fails Invalid

-- a call on a symbolic link; INVAL for all else
abbrev pub on_symbolic : Node → (SpecialNode → Effect) → Effect
on_symbolic (File f) run = Fails Invalid
on_symbolic (Directory d) run = Fails Invalid
on_symbolic (Special s) run = if_symbolic s.special (run s)

-- the attributes and the text; STALE, INVAL for what isn't a symbolic link
abbrev pub readlink : VolumeState → ℕ → Effect
readlink volume fileid = on_node (get volume.nodes fileid) (λ node.
    on_symbolic node (λ s. Tells (ReadlinkDone (shown volume fileid (Special s)) s.text)))
