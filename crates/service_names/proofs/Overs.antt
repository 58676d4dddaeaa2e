-- CREATE of a name that is there, as its checks come out.
use Rattle.std.proofs.Common.{◌≡◌, ℕ, Bool, List, Option, None, ap, ◌∙◌}
use Rattle.std.specs.Prelude.{◌&&◌, is_none, if◌then◌else◌}
use Rattle.nfs_model.specs.Types.{Caller, SetAttributes, Unchecked, Exclusive, Status, Exists}
use Rattle.nfs_model.specs.Serial.Create.{is_verifier, over_taken}
use Rattle.nfs_model.specs.volume.Inodes.{InodeKind, RegularFile}
use Rattle.filer_state.specs.changes.Named.{fails, unless_fault, HeldNaming, HeldNode}
use Rattle.filer_state.specs.changes.Attributes.{node_changed, node_fault, taken_of}
use Rattle.filer_state.specs.changes.Making.{create_existing, over_set, there_shown, there_set}

module _ (n : HeldNaming) (child : HeldNode) where
  -- a file that is set, by what hinders
  pub over-upon : (set : SetAttributes) (o : Option Status) → node_fault child.fileid set None child.inode n.set ≡ o
      → over_set n set child ≡ unless_fault o n.set (there_set n child.fileid (node_changed child.fileid set n.moment child.inode n.set))
  over-upon set o e =
      ap (λ (x : Option Status). unless_fault x n.set (there_set n child.fileid (node_changed child.fileid set n.moment child.inode n.set))) e

  module _ (kind : InodeKind) (size filled : ℕ) (kept : Option (List ℕ)) (is : kind ≡ RegularFile size filled kept) (caller : Caller) where
    -- an exclusive one, by whether the verifier is the same
    pub exclusive-upon : (verifier : List ℕ) (b : Bool) → is_verifier kept verifier ≡ b
        → create_existing n (Exclusive verifier) caller child kind ≡ (if b then there_shown n child else fails Exists n.set)
    exclusive-upon verifier b e =
        ap (λ k. create_existing n (Exclusive verifier) caller child k) is
        ∙ ap (λ (x : Bool). if x then there_shown n child else fails Exists n.set) e

    -- an unchecked one, by whether it sets nothing
    pub unchecked-upon : (set : SetAttributes) (b : Bool) → (caller.checked && is_none set.size) ≡ b
        → create_existing n (Unchecked set) caller child kind
        ≡ (if b then there_shown n child else over_set n (taken_of caller (over_taken caller set) child.inode) child)
    unchecked-upon set b e =
        ap (λ k. create_existing n (Unchecked set) caller child k) is
        ∙ ap (λ (x : Bool). if x then there_shown n child else over_set n (taken_of caller (over_taken caller set) child.inode) child) e
