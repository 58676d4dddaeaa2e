-- A name that goes, as its node's kind and count come out.
use Rattle.std.proofs.Common.{◌≡◌, ℕ, ◌<◌, ◌≤◌, Bool, true, false, Option, Some, None, refl, sym, ap, ◌∙◌}
use Rattle.std.specs.Prelude.{is_some, nat_le, if◌then◌else◌}
use Rattle.nfs_model.specs.Types.{GoneDone}
use Rattle.nfs_model.specs.volume.Inodes.{InodeKind, RegularFile, DirectoryKind, SpecialFile}
use Rattle.filer_state.specs.state.Names.{size_in, parent_in}
use Rattle.filer_state.specs.state.Changes.{LogicalAnswer}
use Rattle.filer_state.specs.state.Lenses.{LogicalSet}
use Rattle.filer_state.specs.changes.NodesMade.{directories_in}
use Rattle.filer_state.specs.changes.NodesDropped.{directory_left, without_subdirectories}
use Rattle.filer_state.specs.changes.NodesSized.{kind_sized}
use Rattle.filer_state.specs.changes.Named.{HeldNaming, HeldNode, directory_change}
use Rattle.filer_state.specs.changes.Dropping.{dropping_of, child_emptied, held_gone, file_gone, last_gone, one_gone, name_gone}

-- an emptied file leaves the directory as it would with its bytes
pub left-same : (n : HeldNaming) (child : HeldNode) (s : LogicalSet)
    → directory_left (dropping_of n (child_emptied child s)) ≡ directory_left (dropping_of n child)
left-same n child s = ap (λ (m : ℕ). record n.inode {
  attributes = record n.inode.attributes { mtime = n.moment; ctime = n.moment };
  kind = without_subdirectories m n.inode.kind;
}) (by _ child.inode.kind)
  where
    by : (fewer : ℕ) (k : InodeKind) → directories_in (kind_sized 0 fewer k) ≡ directories_in k
    by fewer (RegularFile size filled verifier) = refl
    by fewer (DirectoryKind parent subs) = refl
    by fewer (SpecialFile special size) = refl

module _ (n : HeldNaming) (child : HeldNode) where
  last-file : (k : InodeKind) → is_some (size_in k) ≡ true → last_gone n child k ≡ file_gone n child
  last-file (RegularFile size filled verifier) is = refl
  last-file kind is = absurd cc

  last-bare : (k : InodeKind) → is_some (size_in k) ≡ false → last_gone n child k ≡ held_gone n child n.set
  last-bare (RegularFile size filled verifier) is = absurd cc
  last-bare kind is = refl

  pub gone-more : nat_le child.inode.names 1 ≡ false → name_gone n child ≡ one_gone n child
  gone-more more = ap (λ (b : Bool). if b then last_gone n child child.inode.kind else one_gone n child) more

  gone-last : nat_le child.inode.names 1 ≡ true → name_gone n child ≡ last_gone n child child.inode.kind
  gone-last last = ap (λ (b : Bool). if b then last_gone n child child.inode.kind else one_gone n child) last

  pub gone-file : nat_le child.inode.names 1 ≡ true → is_some (size_in child.inode.kind) ≡ true → name_gone n child ≡ file_gone n child
  gone-file last is = gone-last last ∙ last-file child.inode.kind is

  pub gone-bare : nat_le child.inode.names 1 ≡ true → is_some (size_in child.inode.kind) ≡ false → name_gone n child ≡ held_gone n child n.set
  gone-bare last is = gone-last last ∙ last-bare child.inode.kind is

  -- whatever goes, the directory is told as without the name
  pub gone-told : (name_gone n child).answer ≡ GoneDone (directory_change n (directory_left (dropping_of n child)))
  gone-told = by (nat_le child.inode.names 1) child.inode.kind
    where
      by : (b : Bool) (k : InodeKind) → (if b then last_gone n child k else one_gone n child).answer
          ≡ GoneDone (directory_change n (directory_left (dropping_of n child)))
      by true (RegularFile size filled verifier) = ap (λ i. GoneDone (directory_change n i)) (left-same n child n.set)
      by true (DirectoryKind parent subs) = refl
      by true (SpecialFile special size) = refl
      by false k = refl
