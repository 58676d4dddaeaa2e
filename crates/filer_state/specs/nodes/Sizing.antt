-- What a size set for a file comes to, by what is under Logical (SETATTR, RFC 1813 section 3.3.2): cut, or grown by a hole.
use Rattle.std.specs.Prelude.{ℕ, ◌-◌, List, [], ◌∷◌, ◌++◌, map, length}
use Rattle.nfs_model.specs.Types.{Ownership}
use Rattle.nfs_model.specs.Server.{Attributes}
use Rattle.nfs_model.specs.Serial.Rights.{ownership_of}
use Rattle.nfs_model.specs.volume.Inodes.{InodeKind, Inode, inode_set}
use Rattle.nfs_model.specs.volume.Stripes.{StripeValue, touch_taken, file_card_set, cut, numbers_freed}
use Rattle.nfs_model.specs.volume.Ranges.{dead_marked}
use Rattle.filer_state.specs.state.Kinds.{file_changed}
use Rattle.filer_state.specs.state.Lenses.{LogicalSet}

-- a file that gets a size
pub record Sizing : Type 0 where
  pub fileid : ℕ
  pub inode : Inode  -- before
  pub attributes : Attributes  -- after
  pub size : ℕ  -- after

-- a stripe after it: the touch is taken, the card shows the size and the owner, the blocks are cut
abbrev pub stripe_sized : ℕ → ℕ → Ownership → StripeValue → StripeValue
stripe_sized fileid size owner s = file_card_set fileid size owner (cut fileid size (touch_taken fileid s))

-- the numbers of the blocks that leave the file, stripe by stripe
abbrev pub all_freed : ℕ → ℕ → List StripeValue → List ℕ
all_freed fileid size [] = []
all_freed fileid size (s ∷ stripes) = numbers_freed fileid size s ++ all_freed fileid size stripes

-- a file of a size, with this many blocks less
abbrev pub kind_sized : ℕ → ℕ → InodeKind → InodeKind
kind_sized size fewer kind = file_changed (λ old. size) (λ filled. filled - fewer) kind

-- the inode after it
abbrev pub inode_sized : Sizing → ℕ → Inode
inode_sized m fewer = record m.inode { attributes = m.attributes; kind = kind_sized m.size fewer m.inode.kind }

-- what is under Logical after it: the blocks that leave the file are dead
abbrev pub file_sized : Sizing → LogicalSet → LogicalSet
file_sized m set = record {
  own = record set.own {
    inodes = inode_set m.fileid (inode_sized m (length (all_freed m.fileid m.size set.stripes))) set.own.inodes;
    dead = dead_marked (all_freed m.fileid m.size set.stripes) set.own.dead;
  };
  stripes = map (stripe_sized m.fileid m.size (ownership_of m.attributes)) set.stripes;
}
