-- Links and blocks of inodes that are set one after the other.
use Rattle.std.proofs.Common.{◌≡◌, ℕ, ◌+◌, ◌≤◌, ◌==◌, Bool, true, false, Option, Some, None, refl, sym, subst, arith}
use Rattle.std.specs.Prelude.{IfSome, if◌then◌else◌}
use Rattle.std.specs.FinMap.{get}
use Rattle.nfs_model.specs.volume.Inodes.{InodeKind, RegularFile, DirectoryKind, SpecialFile, Inode, InodesValue, filled_blocks, inode_replaced, inode_set}
use Rattle.nfs_model.specs.volume.Inodes.{used_without, inode_dropped}
use Rattle.nfs_model.specs.volume.lemmas.Numbered.{get-insert_at, get-remove_at}
use Rattle.service_names.specs.RenamingChanges.{inode_or}
use Rattle.service_names.specs.NodesDropped.{without_subdirectories}
use Rattle.service_names.specs.NodesMade.{with_subdirectories}
use Rattle.service_names.specs.NodesSized.{kind_sized}
use Rattle.service.specs.renames.Renaming.{IsWithin, AllWithin}

-- ---- bounds

abbrev WithinIn : Option Inode → Type 0
WithinIn o = IfSome o (λ (i : Inode). IsWithin i.kind)

pub within-now : (o : Option Inode) (before : Inode) → WithinIn o → IsWithin before.kind → IsWithin (inode_or o before).kind
within-now None before now was = was
within-now (Some i) before now was = now

pub within-left : (fewer : ℕ) (kind : InodeKind) → IsWithin kind → IsWithin (without_subdirectories fewer kind)
within-left fewer (RegularFile size filled verifier) w = w
within-left fewer (SpecialFile special size) w = w
within-left fewer (DirectoryKind parent subs) w = let few = w.links in record { links = omega arith; filled = w.filled }

pub within-sized : (size fewer : ℕ) (kind : InodeKind) → IsWithin kind → IsWithin (kind_sized size fewer kind)
within-sized size fewer (RegularFile old filled verifier) w = let most = w.filled in record { links = w.links; filled = omega arith }
within-sized size fewer (DirectoryKind parent subs) w = w
within-sized size fewer (SpecialFile special old) w = w

pub within-set : (k : ℕ) (inode : Inode) (v : InodesValue) → AllWithin v.inodes → IsWithin inode.kind → AllWithin (inode_set k inode v).inodes
within-set k inode v all w q = by (get v.inodes k)
  where
    put : (b : Bool) → WithinIn (if b then Some inode else get v.inodes q)
    put true = w
    put false = all q

    by : (o : Option Inode) → WithinIn (get (inode_replaced o k inode v).inodes q)
    by None = all q
    by (Some old) = subst WithinIn (sym (get-insert_at v.inodes k inode q)) (put (q == k))

pub within-dropped : (k : ℕ) (v : InodesValue) → AllWithin v.inodes → AllWithin (inode_dropped k v).inodes
within-dropped k v all q = subst WithinIn (sym (get-remove_at v.inodes k q)) (by (q == k))
  where
    by : (b : Bool) → WithinIn (if b then None else get v.inodes q)
    by true = tt
    by false = all q

-- more subdirectories are no more blocks
pub blocks-more : (more : ℕ) (kind : InodeKind) → filled_blocks (with_subdirectories more kind) ≡ filled_blocks kind
blocks-more more (RegularFile size filled verifier) = refl
blocks-more more (DirectoryKind parent subs) = refl
blocks-more more (SpecialFile special size) = refl

-- ---- used blocks

pub used-set : (k : ℕ) (inode : Inode) (v : InodesValue) → (inode_set k inode v).used ≤ v.used + filled_blocks inode.kind
used-set k inode v = by (get v.inodes k)
  where
    by : (o : Option Inode) → (inode_replaced o k inode v).used ≤ v.used + filled_blocks inode.kind
    by None = omega arith
    by (Some old) = omega arith

pub used-dropped : (k : ℕ) (v : InodesValue) → (inode_dropped k v).used ≤ v.used
used-dropped k v = by (get v.inodes k)
  where
    by : (o : Option Inode) → used_without v.used o ≤ v.used
    by None = omega arith
    by (Some old) = omega arith
