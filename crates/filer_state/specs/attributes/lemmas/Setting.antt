-- A node that settles and has an inode set of the same kind: all stays sound, and the volume has the node with the inode's
-- attributes.
use Rattle.std.proofs.Common.{◌≡◌, ℕ, ◌+◌, List, Option, Some, None, refl, ◌∙◌}
use Rattle.std.specs.Ordering.{nat_cmp}
use Rattle.std.specs.FinMap.{get, insert}
use Rattle.std.specs.FinSet.{FinSet}
use Rattle.nfs_model.specs.Types.{Moment, Ownership}
use Rattle.nfs_model.specs.Server.{Attributes, Node, File, Directory, Special}
use Rattle.nfs_model.specs.Serial.Rights.{ownership_of}
use Rattle.nfs_model.specs.Shown.{settled}
use Rattle.nfs_model.specs.Parts.{Hand}
use Rattle.depot_rule.specs.Sums.{total}
use Rattle.nfs_model.specs.volume.Maps.{map_values, changed_at}
use Rattle.nfs_model.specs.volume.Directories.{DirectoryValue}
use Rattle.nfs_model.specs.volume.Inodes.{InodeKind, RegularFile, Inode, InodesValue, inode_of, inode_set}
use Rattle.nfs_model.specs.volume.Stripes.{StripeValue, card_settled, touch_taken}
use Rattle.filer_state.specs.state.Contents.{VolumeContents}
use Rattle.filer_state.specs.state.Tree.{file_bytes, file_filled, file_touch, directory_or_empty, node_with, node_by, node_of, text_or_empty}
use Rattle.filer_state.specs.state.Names.{DirectoryMap, TextMap}
use Rattle.filer_state.specs.state.Partition.{times_in_hand}
use Rattle.filer_state.specs.state.Sound.{IsSound}
use Rattle.filer_state.specs.state.Lenses.{logical_lens}
use Rattle.filer_state.specs.state.Changes.{stripes_settled, node_set}
use Rattle.filer_state.specs.laws.lemmas.Steps.{sound-later}
use Rattle.filer_state.specs.attributes.lemmas.Kept.{owner-stays, IsLike}
use Rattle.filer_state.specs.attributes.lemmas.Settled.{shown-stays, filled-stays, bytes-stay, touch-gone, touch-stays}
use Rattle.filer_state.specs.attributes.lemmas.Changed.{CardMap, OwnersFit, with_cards, sound-changed, nodes-changed}
use Rattle.filer_state.specs.attributes.lemmas.Owned.{cards_owned, owners-after}

-- the volume after it
abbrev pub set_in : ℕ → Inode → VolumeContents → VolumeContents
set_in f inode p = logical_lens.put (node_set f inode (logical_lens.of p)) p

-- cards of a file's owner, without the touch
abbrev cards_settled : ℕ → Ownership → CardMap → CardMap
cards_settled f owner cards = cards_owned f owner (changed_at card_settled f cards)

module _ (p : VolumeContents) (f : ℕ) (old inode : Inode) (there : get p.logical.inodes.inodes f ≡ Some old) (same : IsLike inode old) where
  owners-settled : (s : StripeValue) → OwnersFit p.logical.inodes s
      → OwnersFit (inode_set f inode p.logical.inodes) (with_cards (cards_settled f (ownership_of inode.attributes)) s)
  owners-settled s fits = owners-after p f old inode there same (touch_taken f s) (λ q. owner-stays f s q ∙ fits q)

  -- all stays sound
  pub sound-set : (hands hands' : List Hand) (made : ℕ) → ((n : ℕ) → total (times_in_hand p.number n) hands' ≡ total (times_in_hand p.number n) hands)
      → IsSound p hands made → IsSound (set_in f inode p) hands' (made + 1)
  sound-set hands hands' made weigh s =
      sound-later (set_in f inode p) hands hands' made weigh
      (sound-changed p f old inode there same (cards_settled f (ownership_of inode.attributes)) (shown-stays f (ownership_of inode.attributes))
      owners-settled hands made s)

-- ---- the node

-- a node that settles, and has other attributes
abbrev pub with_attributes : Attributes → Node → Node
with_attributes a (File g) = File (record (settled g) { attributes = a })
with_attributes a (Directory d) = Directory (record d { attributes = a })
with_attributes a (Special s) = Special (record s { attributes = a })

module _ (stripes : List StripeValue) (directories : DirectoryMap) (texts : TextMap) (f : ℕ) (owner : Ownership) where
  abbrev taken : List StripeValue
  taken = stripes_settled f owner stripes

  settled-with : (bytes : ℕ → List ℕ) (blocks : FinSet nat_cmp) (touch : Option Moment) (d : DirectoryValue) (text : List ℕ) (a b : Attributes) (names : ℕ) (kind : InodeKind)
      → node_with bytes blocks None d text a names kind ≡ with_attributes a (node_with bytes blocks touch d text b names kind)
  settled-with bytes blocks touch d text a b names (RegularFile size filled verifier) = refl
  settled-with bytes blocks touch d text a b names kind = refl

  pub this-node : (a b : Attributes) (names : ℕ) (kind : InodeKind)
      → node_by taken (get directories f) (get texts f) f a names kind ≡ with_attributes a (node_by stripes (get directories f) (get texts f) f b names kind)
  this-node a b names kind =
      (λ j. node_with (λ size. bytes-stay f owner stripes f size j) (filled-stays f owner stripes f j) (touch-gone f owner stripes j)
      (directory_or_empty (get directories f)) (text_or_empty (get texts f)) a names kind)
      ∙ settled-with (file_bytes stripes f) (file_filled stripes f) (file_touch stripes f) (directory_or_empty (get directories f)) (text_or_empty (get texts f)) a b names kind

  -- the nodes, where the inode is set
  pub nodes-set : (v : InodesValue) (old inode : Inode) → inode_of v f ≡ Some old → IsLike inode old
      → map_values (node_of taken directories texts) (inode_set f inode v).inodes
      ≡ insert (map_values (node_of stripes directories texts) v.inodes) f (with_attributes inode.attributes (node_of stripes directories texts f old))
  nodes-set =
      nodes-changed stripes directories texts f (cards_settled f owner) with_attributes this-node (λ q ne. touch-stays f owner stripes q ne)
