-- The volume that is seen after a node is made under a name: one more node, and one more entry.
use Rattle.std.proofs.Common.{◌≡◌, ℕ, ◌+◌, ◌==◌, ◌/◌, ◌%◌, Bool, true, false, List, [], ◌∷◌, length, map, replicate, Option, Some, None}
use Rattle.std.proofs.Common.{refl, sym, ap, ◌∙◌}
use Rattle.std.specs.Prelude.{if◌then◌else◌, is_some}
use Rattle.std.proofs.lemmas.List.FromFn.{length-range_with_len}
use Rattle.std.specs.List.{range_with_len}
use Rattle.std.specs.Option.{option_map}
use Rattle.std.specs.Cmp.{nat_cmp_total}
use Rattle.std.specs.FinMap.{get, insert, nat_cmp-IsAntisymmetric}
use Rattle.nfs_model.specs.Server.{Node, Directory, block_size}
use Rattle.nfs_model.specs.Names.{with_name}
use Rattle.nfs_model.specs.volume.Directories.{DirectoryValue, empty_directory, added}
use Rattle.nfs_model.specs.Types.{Ownership}
use Rattle.nfs_model.specs.Serial.Rights.{ownership_of}
use Rattle.nfs_model.specs.volume.Inodes.{InodeKind, Inode, InodesValue, inode_of, inode_created}
use Rattle.nfs_model.specs.volume.Stripes.{Block, StripeValue, byte_of}
use Rattle.nfs_model.specs.volume.lemmas.Inodes.{next-set}
use Rattle.nfs_model.specs.volume.lemmas.Maps.{get-map_values}
use Rattle.nfs_model.specs.volume.lemmas.Numbered.{get-insert_at, same-answers, itself}
use Rattle.filer_state.specs.state.Contents.{VolumeContents}
use Rattle.filer_state.specs.state.Tree.{home_stripe, file_bytes, directory_or_empty, node_with, node_of, volume_of, text_or_empty}
use Rattle.filer_state.specs.state.Names.{parent_in}
use Rattle.filer_state.specs.state.WellFormed.{WellFormed}
use Rattle.filer_state.specs.laws.lemmas.InodeKinds.{directory-seen}
use Rattle.filer_state.specs.laws.lemmas.SameBlocks as blocks
use Rattle.filer_state.specs.nodes.Making.{Making, directories_in, directory_inode, inodes_made, card_made}
use Rattle.filer_state.specs.nodes.Laws.{MayBeMade, new_node, seen_directory}
use Rattle.filer_state.specs.nodes.lemmas.Named as names
use Rattle.filer_state.specs.nodes.lemmas.Made.{made_in, blocks-same, touch-none, touch-other, none-filled, no-card, no-block, made-text, other-text}

-- ---- a file of zeros

abbrev zero_at : ℕ → ℕ
zero_at k = 0

zeros : (xs : List ℕ) → map zero_at xs ≡ replicate (length xs) 0
zeros [] = refl
zeros (x ∷ xs) = ap (λ (ys : List ℕ). 0 ∷ ys) (zeros xs)

-- no byte of it is stored
bytes-none : (stripes : List StripeValue) (f : ℕ) → ((b : ℕ) → get (home_stripe stripes f b).blocks (f, b) ≡ None) → (size : ℕ)
    → file_bytes stripes f size ≡ replicate size 0
bytes-none stripes f none size =
    (λ j. map (λ k. byte_of (none (k / block_size) j) (k % block_size)) (range_with_len 0 size))
    ∙ zeros (range_with_len 0 size) ∙ ap (λ n. replicate n 0) (length-range_with_len 0 size)

-- ---- the new node

module _ (p : VolumeContents) (m : Making) (well : WellFormed p) (may : MayBeMade m p) where
  abbrev f : ℕ
  f = p.logical.inodes.next

  abbrev k : InodeKind
  k = m.made.kind

  abbrev owner : Ownership
  owner = ownership_of m.made.attributes

  abbrev old : InodesValue
  old = p.logical.inodes

  abbrev new : InodesValue
  new = inodes_made m old

  abbrev after : VolumeContents
  after = made_in m p

  absent-blocks : (b : ℕ) → get (home_stripe after.stripes f b).blocks (f, b) ≡ None
  absent-blocks b =
      ap (λ x. get x (f, b)) (blocks.homes-stay (card_made owner k f) (blocks-same owner k f) p.stripes f b)
      ∙ by (get (home_stripe p.stripes f b).blocks (f, b)) (no-block p m well may b)
    where
      by : (o : Option Block) → is_some o ≡ false → o ≡ None
      by None e = refl
      by (Some x) e = absurd cc

  -- as it is seen
  this-node : node_of after.stripes after.logical.directories after.logical.texts f m.made ≡ new_node m.made m.text
  this-node = λ j. node_with (λ size. bytes-none after.stripes f absent-blocks size j)
      ((blocks.filled-stays (card_made owner k f) (blocks-same owner k f) p.stripes f ∙ none-filled p.stripes f (no-block p m well may)) j)
      (touch-none owner k f p.stripes (no-card p m well may) j) (empty-found j) (text_or_empty (made-text p m well may j))
      m.made.attributes m.made.names k
    where
      no-entry : (b : Bool) → directory_or_empty (if b then Some empty_directory else None) ≡ empty_directory
      no-entry false = refl
      no-entry true = refl

      empty-found : directory_or_empty (get after.logical.directories f) ≡ empty_directory
      empty-found =
          ap directory_or_empty (names.made-entries old p.logical.directories m well.logical.inodes may.there may.entered well.logical.named may.absent
          p.logical.largest may.one may.is_new)
          ∙ no-entry (is_some (parent_in k))

  -- ---- the directory, and the others

  is-directory : (parent : ℕ) → parent_in m.inode.kind ≡ Some parent
      → node_of after.stripes after.logical.directories after.logical.texts m.directory (directory_inode m)
      ≡ Directory (with_name (seen_directory m.inode m.entries parent) m.name f m.moment)
  is-directory parent says =
      directory-seen after.stripes (get after.logical.directories m.directory) (get after.logical.texts m.directory) m.directory
      (directory_inode m).attributes m.inode.names (directory_inode m).kind parent
      (names.parent-kept (directories_in k) m.inode.kind ∙ says)
      ∙ ap (λ (o : Option DirectoryValue). Directory (seen_directory (directory_inode m) (directory_or_empty o) parent)) found
    where
      found : get after.logical.directories m.directory ≡ Some (added m.name f m.entries)
      found = names.directory-entries old p.logical.directories m well.logical.inodes may.there may.entered well.logical.named may.absent
          p.logical.largest may.one may.is_new

  other-node : (q : ℕ) → (q == m.directory) ≡ false → (q == f) ≡ false → (inode : Inode)
      → node_of after.stripes after.logical.directories after.logical.texts q inode ≡ node_of p.stripes p.logical.directories p.logical.texts q inode
  other-node q ne older inode = λ j. node_with
      (λ size. blocks.bytes-stay (card_made owner k f) (blocks-same owner k f) p.stripes q size j)
      (blocks.filled-stays (card_made owner k f) (blocks-same owner k f) p.stripes q j)
      (touch-other owner k f p.stripes (no-card p m well may) q older j) (directory_or_empty (found j))
      (text_or_empty (other-text p m well may q older j)) inode.attributes inode.names inode.kind
    where
      found : get after.logical.directories q ≡ get p.logical.directories q
      found = names.other-entries old p.logical.directories m well.logical.inodes may.there may.entered well.logical.named may.absent
          p.logical.largest may.one may.is_new q ne older

  -- ---- all nodes

  module _ (parent : ℕ) (says : parent_in m.inode.kind ≡ Some parent) where
    abbrev now : ℕ → Inode → Node
    now = node_of after.stripes after.logical.directories after.logical.texts

    abbrev was : ℕ → Inode → Node
    was = node_of p.stripes p.logical.directories p.logical.texts

    abbrev pub entered_node : Node
    entered_node = Directory (with_name (seen_directory m.inode m.entries parent) m.name f m.moment)

    abbrev answer : ℕ → Option Node
    answer q = if q == m.directory then Some entered_node else if q == f then Some (new_node m.made m.text) else get (volume_of p).nodes q

    wanted : (q : ℕ) → get (insert (insert (volume_of p).nodes f (new_node m.made m.text)) m.directory entered_node) q ≡ answer q
    wanted q =
        get-insert_at (insert (volume_of p).nodes f (new_node m.made m.text)) m.directory entered_node q
        ∙ ap (λ (o : Option Node). if q == m.directory then Some entered_node else o) (get-insert_at (volume_of p).nodes f (new_node m.made m.text) q)

    others : (q : ℕ) → (q == m.directory) ≡ false → (q == f) ≡ false → (o : Option Inode) → option_map (now q) o ≡ option_map (was q) o
    others q ne older None = refl
    others q ne older (Some inode) = ap Some (other-node q ne older inode)

    at_each : (q : ℕ) → option_map (now q) (inode_of new q) ≡ answer q
    at_each = names.by-fileid old p.logical.directories m well.logical.inodes may.there (λ q. option_map (now q) (inode_of new q) ≡ answer q)
        (ap (option_map (now m.directory)) (names.at-directory old p.logical.directories m well.logical.inodes may.there)
        ∙ ap Some (is-directory parent says)
        ∙ sym (ap (λ (b : Bool). if b then Some entered_node else if m.directory == f then Some (new_node m.made m.text) else get (volume_of p).nodes m.directory)
        (itself m.directory)))
        (ap (option_map (now f)) (names.at-made old p.logical.directories m well.logical.inodes may.there)
        ∙ ap Some this-node
        ∙ sym (ap (λ (b : Bool). if b then Some entered_node else if f == f then Some (new_node m.made m.text) else get (volume_of p).nodes f)
        (names.apart-turned old p.logical.directories m well.logical.inodes may.there)
        ∙ ap (λ (b : Bool). if b then Some (new_node m.made m.text) else get (volume_of p).nodes f) (itself f)))
        (λ q ne older. ap (option_map (now q)) (names.at-other old p.logical.directories m well.logical.inodes may.there q ne older)
        ∙ others q ne older (inode_of old q)
        ∙ sym (get-map_values nat_cmp_total nat_cmp-IsAntisymmetric was old.inodes q)
        ∙ sym (ap (λ (b : Bool). if b then Some entered_node else if q == f then Some (new_node m.made m.text) else get (volume_of p).nodes q) ne
        ∙ ap (λ (b : Bool). if b then Some (new_node m.made m.text) else get (volume_of p).nodes q) older))

    seen : (q : ℕ) → get (volume_of after).nodes q ≡ answer q
    seen q = get-map_values nat_cmp_total nat_cmp-IsAntisymmetric now new.inodes q ∙ at_each q

    nodes-made : (volume_of after).nodes ≡ insert (insert (volume_of p).nodes f (new_node m.made m.text)) m.directory entered_node
    nodes-made = same-answers _ _ (λ q. seen q ∙ sym (wanted q))

    -- the volume after it
    pub volume-made : volume_of after ≡ record (volume_of p) {
      next = f + 1;
      nodes = insert (insert (volume_of p).nodes f (new_node m.made m.text)) m.directory entered_node;
    }
    volume-made = λ j. record (volume_of p) {
      next = next-set (inode_created m.made old) m.directory (directory_inode m) j;
      nodes = nodes-made j;
    }
