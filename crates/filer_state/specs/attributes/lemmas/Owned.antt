-- An inode set of the same kind, whose cards have its owner and keep their touches: all stays sound, and the volume has the node with the
-- inode's attributes.
use Rattle.std.proofs.Common.{◌≡◌, ℕ, ◌==◌, Bool, true, false, List, [], ◌∷◌, Option, Some, None, refl, sym, ap, ◌∙◌}
use Rattle.std.proofs.lemmas.Bool.{eqb-true}
use Rattle.std.specs.Option.{option_map}
use Rattle.std.specs.Ordering.{nat_cmp}
use Rattle.std.specs.FinMap.{get}
use Rattle.std.specs.FinSet.{FinSet}
use Rattle.nfs_model.specs.Types.{Moment, Ownership}
use Rattle.nfs_model.specs.Server.{Attributes, Node, File, Directory, Special}
use Rattle.nfs_model.specs.Serial.Rights.{ownership_of}
use Rattle.nfs_model.specs.Serial.Setattr.{with_node}
use Rattle.nfs_model.specs.Parts.{Hand}
use Rattle.nfs_model.specs.volume.Maps.{changed_at}
use Rattle.nfs_model.specs.volume.Directories.{DirectoryValue}
use Rattle.nfs_model.specs.volume.Inodes.{InodeKind, RegularFile, Inode, inode_set}
use Rattle.nfs_model.specs.volume.Stripes.{StripeValue, card_owned}
use Rattle.nfs_model.specs.volume.lemmas.Inodes.{inode-set-there, inode-set-other, next-set}
use Rattle.filer_state.specs.state.Contents.{VolumeContents}
use Rattle.filer_state.specs.state.Tree.{file_bytes, file_filled, file_touch, directory_or_empty, node_with, node_by, node_of, volume_of, later, text_or_empty}
use Rattle.filer_state.specs.state.Names.{DirectoryMap, size_in, TextMap}
use Rattle.filer_state.specs.state.WellFormed.{owner_shown, owner_by, owner_in}
use Rattle.filer_state.specs.state.Sound.{IsSound}
use Rattle.filer_state.specs.state.Lenses.{logical_lens}
use Rattle.filer_state.specs.state.Changes.{stripes_owned, node_owned}
use Rattle.filer_state.specs.laws.lemmas.SameBlocks as blocks
use Rattle.filer_state.specs.attributes.lemmas.Settled.{owner-here, owner-none, owner-other, size-alike, touch-alike}
use Rattle.filer_state.specs.attributes.lemmas.Changed.{CardMap, OwnersFit, with_cards, sound-changed, nodes-changed}
use Rattle.filer_state.specs.attributes.lemmas.Kept.{IsLike}

-- cards of a file's owner
abbrev pub cards_owned : ℕ → Ownership → CardMap → CardMap
cards_owned f owner cards = changed_at (card_owned owner) f cards

-- an inode's owner is on its card then
module _ (p : VolumeContents) (f : ℕ) (old inode : Inode) (there : get p.logical.inodes.inodes f ≡ Some old) (same : IsLike inode old) where
  abbrev own : Ownership
  own = ownership_of inode.attributes

  pub owners-after : (s : StripeValue) → OwnersFit p.logical.inodes s → OwnersFit (inode_set f inode p.logical.inodes) (with_cards (cards_owned f own) s)
  owners-after s fits q = by (q == f) refl
    where
      changed : StripeValue
      changed = with_cards (cards_owned f own) s

      was : option_map owner_shown (get s.cards f) ≡ Some (owner_by old.attributes old.kind)
      was = fits f ∙ ap (option_map owner_in) there

      here : (o : Option ℕ) → size_in old.kind ≡ o → option_map owner_shown (get changed.cards f) ≡ Some (option_map (λ (size : ℕ). own) o)
      here (Some size) is =
          owner-here f own s (ownership_of old.attributes) (was ∙ ap (λ o. Some (option_map (λ (size : ℕ). ownership_of old.attributes) o)) is)
      here None is = owner-none f own s (was ∙ ap (λ o. Some (option_map (λ (size : ℕ). ownership_of old.attributes) o)) is)

      by : (b : Bool) → (q == f) ≡ b
          → option_map owner_shown (get changed.cards q) ≡ option_map owner_in (get (inode_set f inode p.logical.inodes).inodes q)
      by true e =
          ap (λ (k : ℕ). option_map owner_shown (get changed.cards k)) (eqb-true q f e)
          ∙ here (size_in old.kind) refl ∙ ap (λ (k : InodeKind). Some (owner_by inode.attributes k)) (sym same.kind)
          ∙ sym (ap (option_map owner_in) (inode-set-there p.logical.inodes f old inode there))
          ∙ ap (λ (k : ℕ). option_map owner_in (get (inode_set f inode p.logical.inodes).inodes k)) (sym (eqb-true q f e))
      by false e =
          owner-other f own s q e ∙ fits q ∙ sym (ap (option_map owner_in) (inode-set-other p.logical.inodes f inode q e))

-- touches stay
touch-same : (f : ℕ) (owner : Ownership) (stripes : List StripeValue) (q : ℕ) → file_touch (stripes_owned f owner stripes) q ≡ file_touch stripes q
touch-same f owner [] q = refl
touch-same f owner (s ∷ stripes) q = λ j. later (touch-alike f owner s q j) (touch-same f owner stripes q j)

-- a node with other attributes
abbrev pub with_owner : Attributes → Node → Node
with_owner a (File g) = File (record g { attributes = a })
with_owner a (Directory d) = Directory (record d { attributes = a })
with_owner a (Special s) = Special (record s { attributes = a })

module _ (stripes : List StripeValue) (directories : DirectoryMap) (texts : TextMap) (f : ℕ) (owner : Ownership) where
  owned-with : (bytes : ℕ → List ℕ) (filled : FinSet nat_cmp) (touch : Option Moment) (d : DirectoryValue) (text : List ℕ) (a b : Attributes) (names : ℕ) (kind : InodeKind)
      → node_with bytes filled touch d text a names kind ≡ with_owner a (node_with bytes filled touch d text b names kind)
  owned-with bytes filled touch d text a b names (RegularFile size many verifier) = refl
  owned-with bytes filled touch d text a b names kind = refl

  this-node : (a b : Attributes) (names : ℕ) (kind : InodeKind)
      → node_by (stripes_owned f owner stripes) (get directories f) (get texts f) f a names kind ≡ with_owner a (node_by stripes (get directories f) (get texts f) f b names kind)
  this-node a b names kind =
      (λ j. node_with (λ size. blocks.bytes-stay (with_cards (cards_owned f owner)) (λ s. refl) stripes f size j)
      (blocks.filled-stays (with_cards (cards_owned f owner)) (λ s. refl) stripes f j) (touch-same f owner stripes f j)
      (directory_or_empty (get directories f)) (text_or_empty (get texts f)) a names kind)
      ∙ owned-with (file_bytes stripes f) (file_filled stripes f) (file_touch stripes f) (directory_or_empty (get directories f)) (text_or_empty (get texts f)) a b names kind

-- ---- the volume after it

abbrev pub owned_in : ℕ → Inode → VolumeContents → VolumeContents
owned_in f inode p = logical_lens.put (node_owned f inode (logical_lens.of p)) p

module _ (p : VolumeContents) (f : ℕ) (old inode : Inode) (there : get p.logical.inodes.inodes f ≡ Some old) (same : IsLike inode old) where
  pub sound-owned : (hands : List Hand) (made : ℕ) → IsSound p hands made → IsSound (owned_in f inode p) hands made
  sound-owned hands made s =
      sound-changed p f old inode there same (cards_owned f (ownership_of inode.attributes))
      (size-alike f (ownership_of inode.attributes)) (owners-after p f old inode there same) hands made s

  pub volume-owned : volume_of (owned_in f inode p)
      ≡ with_node (volume_of p) f (with_owner inode.attributes (node_of p.stripes p.logical.directories p.logical.texts f old))
  volume-owned = λ j. record (volume_of p) {
    next = next-set p.logical.inodes f inode j;
    nodes = nodes-changed p.stripes p.logical.directories p.logical.texts f (cards_owned f (ownership_of inode.attributes)) with_owner
        (this-node p.stripes p.logical.directories p.logical.texts f (ownership_of inode.attributes))
        (λ q ne. touch-same f (ownership_of inode.attributes) p.stripes q) p.logical.inodes old inode there same j;
  }
